use Rattle.text_write.proofs.pieces.Pieces.{on_next, on_as, on_three}
use Rattle.book_rules.proofs.texts.Pairs.{pair_pieces}
use Rattle.book_rules.proofs.texts.put_pair.Goals as goal

pub returns : goal.returns
returns c =
    on_as (on_next (on_three c.put_number.ensures c.put_bytes.ensures c.put_number-2.ensures) c.put_bytes-2.ensures)
    (pair_pieces c.args.i c.args.j)
