use Rattle.text_write.proofs.pieces.Pieces.{on_three}
use Rattle.print_matches.proofs.answers.put_name.Goals as goal

pub returns : goal.returns
returns c = on_three c.put_bytes.ensures c.put_term.ensures c.put_bytes-2.ensures
