use borrow.Author.Rules.{rules}
use Rattle.demands.specs.Matching.{matching}
use Rattle.demands.proofs.match_rule.Goals as goal

pub returns : goal.returns
returns c = matching c.args.rule c.args.slip c.match_rule.result c.match_rule.ensures
