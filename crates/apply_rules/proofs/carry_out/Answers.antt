use Rattle.std.proofs.Common.{◌≡◌, sym, ◌∙◌, true}
use Rattle.text_accepted.specs.rules.Rules.{accepted_rule}
use Rattle.apply_rules.proofs.Answers.{no_match_lem, too_long_lem, carried_out}
use Rattle.apply_rules.proofs.carry_out.Goals as goal

pub returns-then-not-m : goal.returns-then-not-m
returns-then-not-m c =
    let a : accepted_rule c.args.rule ≡ true = sym c.is_rule.ensures ∙ c.if-not-is_rule.false in
    let m = c.match_side-m in
    no_match_lem c.args.rule c.args.slip a c.if-rule-eq0.false m.result m.ensures c.if-not-m.true

pub returns-in_default : goal.returns-in_default
returns-in_default c =
    let a : accepted_rule c.args.rule ≡ true = sym c.is_rule.ensures ∙ c.if-not-is_rule.false in
    let m = c.match_side-m in
    let f = c.fill_side in
    too_long_lem c.args.rule c.args.slip a c.if-rule-eq0.false m.result m.ensures c.if-not-m.false f.result f.ensures c.in_default.is

pub returns : goal.returns
returns c =
    let a : accepted_rule c.args.rule ≡ true = sym c.is_rule.ensures ∙ c.if-not-is_rule.false in
    let m = c.match_side-m in
    let f = c.fill_side in
    carried_out c.args.rule c.args.slip a c.if-rule-eq0.false m.result m.ensures c.if-not-m.false f.result f.ensures c.in-Some.result c.in-Some.is
