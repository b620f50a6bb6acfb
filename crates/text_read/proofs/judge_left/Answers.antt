use Rattle.text_read.proofs.Values.{left_yes, left_no}
use Rattle.text_read.proofs.judge_left.Goals as goal

pub returns-in-Ok : goal.returns-in-Ok
returns-in-Ok c =
    left_yes c.args.text.now c.judge_rule-verdict.result c.judge_rule-verdict.ensures c.split_of-split.result c.left_end.result
    c.split_of-split.ensures c.left_end.ensures c.in-Ok.is

pub returns-in-Err : goal.returns-in-Err
returns-in-Err c =
    left_no c.args.text.now c.judge_rule-verdict.result c.judge_rule-verdict.ensures _ _ c.in-Err.is
