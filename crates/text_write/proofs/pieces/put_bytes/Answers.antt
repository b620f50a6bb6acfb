use Rattle.text_write.proofs.pieces.Pieces.{placed_copy}
use Rattle.text_write.proofs.pieces.put_bytes.Goals as goal

pub returns : goal.returns
returns c = placed_copy c.args.text.now c.args.out.now c.args.at c.min-from.ensures c.copy.ensures.count c.copy.ensures.bytes
