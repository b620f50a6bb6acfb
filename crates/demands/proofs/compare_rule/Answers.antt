use borrow.Author.Rules.{rules}
use Rattle.demands.specs.Comparing.{comparing}
use Rattle.demands.proofs.compare_rule.Goals as goal

pub returns : goal.returns
returns c = comparing c.args.rule c.args.slip c.compare_rule.result c.compare_rule.ensures
