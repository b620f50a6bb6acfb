use Rattle.yopobrush.proofs.Said.{texts_said}
use Rattle.yopobrush.proofs.yopobrush_list_overlaps.Goals as goal

pub returns : goal.returns
returns c =
    let z = c.args in
    let said = c.list_texts-said in
    let a = c.reading_of.ensures in
    let b = c.reading_of-2.ensures in
    record { answer = texts_said z.left.now z.right.now _ _ _ said.ensures a b c.listing_of.ensures; bytes = said.ensures.listed.bytes }
