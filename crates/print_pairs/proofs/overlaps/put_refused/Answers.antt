use Rattle.text_write.proofs.pieces.Pieces.{on_next}
use Rattle.print_pairs.proofs.overlaps.put_refused.Goals as goal

pub returns : goal.returns
returns c = on_next c.put_refusal.ensures c.put_bytes.ensures
