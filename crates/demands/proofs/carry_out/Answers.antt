use borrow.Author.Rules.{rules}
use Rattle.demands.specs.Carrying.{carrying}
use Rattle.demands.proofs.carry_out.Goals as goal

pub returns : goal.returns
returns c = carrying c.args.rule c.args.slip c.carry_out.result c.carry_out.ensures
