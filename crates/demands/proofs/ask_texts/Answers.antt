use Rattle.demands.specs.Committing.{texts_asking}
use Rattle.demands.proofs.ask_texts.Goals as goal

pub returns : goal.returns
returns c = texts_asking c.args.left.now c.args.right.now c.ask_texts.ensures
