use Rattle.text_read.proofs.Verdicts.{slip_yes, slip_no}
use Rattle.text_read.proofs.read_slip.Goals as goal

pub returns-in-Ok : goal.returns-in-Ok
returns-in-Ok c =
    slip_yes c.args.text.now c.judge_slip-verdict.result c.fields_in.result
    c.judge_slip-verdict.ensures c.in-Ok.is c.fields_in.ensures

pub returns-in-Err : goal.returns-in-Err
returns-in-Err c =
    slip_no c.args.text.now c.judge_slip-verdict.result
    c.no_fields.result _ _ c.judge_slip-verdict.ensures c.in-Err.is c.no_fields.ensures
