use Rattle.yopobrush.proofs.Said.{text_said_lem}
use Rattle.yopobrush.proofs.yopobrush_read_rule.Goals as goal

pub returns : goal.returns
returns c =
    text_said_lem c.args.text.now _ _ c.read_rule.ensures c.reading_of.ensures
