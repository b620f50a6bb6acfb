use Rattle.text_read.proofs.Verdicts.{slip_survey}
use Rattle.text_read.proofs.judge_slip.Goals as goal

pub returns-in-None : goal.returns-in-None
returns-in-None c =
    slip_survey c.args.text.now c.grammar_place.result c.survey.result c.if-text-gt-MOST_SLIP_BYTES.false c.grammar_place.ensures
    c.in-None.is c.survey.ensures
