use lib.ListN.{take}
use Rattle.text_write.proofs.pieces.Pieces.{on_as}
use Rattle.text_read.proofs.Judged.{judged_accepted, judged_refused}
use Rattle.print_matches.proofs.Said.{slip_said, rule_said_lem}
use Rattle.print_matches.proofs.put_reads.Goals as goal

pub returns-in-Ok : goal.returns-in-Ok
returns-in-Ok c =
    let z = c.args in
    let J = c.judge_left-judged in
    let a = judged_accepted z.rule.now J.result J.ensures c.in-Ok.is in
    on_as c.put_slip.ensures (slip_said z.rule.now z.slip.now a.0 (take J.result.end z.rule.now) a.1 a.2)

pub returns-in-Err : goal.returns-in-Err
returns-in-Err c =
    let z = c.args in
    let J = c.judge_left-judged in
    let a = judged_refused z.rule.now J.result J.ensures _ _ c.in-Err.is in
    on_as c.put_refusal.ensures (rule_said_lem z.rule.now z.slip.now a.0 _ _ a.1 a.2)
