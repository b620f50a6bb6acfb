use Rattle.text_write.proofs.pieces.Pieces.{on_next, on_three}
use Rattle.print_solve.proofs.search.put_counts.Goals as goal

pub returns : goal.returns
returns c = on_next (on_three c.put_count.ensures c.put_count-2.ensures c.put_count-3.ensures) c.put_bytes.ensures
