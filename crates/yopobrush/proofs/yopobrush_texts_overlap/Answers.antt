use Rattle.yopobrush.proofs.Said.{texts_meet}
use Rattle.yopobrush.proofs.yopobrush_texts_overlap.Goals as goal

pub returns : goal.returns
returns c =
    let z = c.args in
    let said = c.texts_overlap-met.ensures in
    let a = c.reading_of.ensures in
    let b = c.reading_of-2.ensures in
    texts_meet z.left.now z.right.now _ _ _ said a b c.overlapping_of.ensures
