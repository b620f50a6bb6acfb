use Rattle.text_write.proofs.pieces.Pieces.{on_next}
use Rattle.print_solve.proofs.search.put_count.Goals as goal

pub returns : goal.returns
returns c = on_next c.put_bytes.ensures c.put_number.ensures
