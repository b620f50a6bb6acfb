use borrow.Author.Rules.{rules}
use Rattle.demands.specs.Texts.{rule_writing}
use Rattle.demands.proofs.write_rule.Goals as goal

pub returns : goal.returns
returns c =
    let z = c.args in
    let W = c.write_rule in
    rule_writing z.r z.out.now W.result W.new.out W.ensures
