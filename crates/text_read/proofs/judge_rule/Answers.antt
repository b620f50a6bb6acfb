use mathlib.Core.Path.{sym, ◌∙◌, ap}
use Rattle.text_refusals.specs.declared.Sort.TheVariants.{Rule}
use Rattle.text_refusals.specs.declared.Survey.{Survey}
use Rattle.text_scan.proofs.split.Splits.{one_side}
use Rattle.text_read.proofs.Verdicts.{surveyed_is}
use Rattle.text_read.proofs.Rules.{judged_one}
use Rattle.text_read.proofs.judge_rule.Goals as goal

pub returns-in-One : goal.returns-in-One
returns-in-One c =
    let t = c.args.text.now in
    let e = sym c.requires ∙ c.in-One.is in
    ap (λ (x : Survey). x.verdict) c.survey.ensures ∙ surveyed_is Rule t c.if-text-gt-MOST_RULE_BYTES.false (one_side t e) ∙ judged_one t c.if-text-gt-MOST_RULE_BYTES.false e
