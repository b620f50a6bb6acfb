use borrow.Author.Rules.{rules}
use Rattle.demands.specs.Texts.{slip_reading}
use Rattle.demands.proofs.read_slip.Goals as goal

pub returns : goal.returns
returns c = slip_reading c.args.text.now c.read_slip.result c.read_slip.ensures
