use Rattle.text_read.proofs.Values.{rule_no}
use Rattle.text_read.proofs.read_rule.Goals as goal

pub returns-in-Err : goal.returns-in-Err
returns-in-Err c =
    rule_no c.args.text.now c.judge_rule-verdict.result c.blank_rule.result _ _ c.judge_rule-verdict.ensures c.in-Err.is
    c.blank_rule.ensures
