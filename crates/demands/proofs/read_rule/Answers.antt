use borrow.Author.Rules.{rules}
use Rattle.demands.specs.Texts.{rule_reading}
use Rattle.demands.proofs.read_rule.Goals as goal

pub returns : goal.returns
returns c = rule_reading c.args.text.now c.read_rule.result c.read_rule.ensures
