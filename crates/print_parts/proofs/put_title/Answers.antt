use Rattle.text_write.proofs.pieces.Pieces.{on_three}
use Rattle.print_parts.proofs.put_title.Goals as goal

pub returns : goal.returns
returns c = on_three c.put_bytes.ensures c.put_number.ensures c.put_bytes-2.ensures
