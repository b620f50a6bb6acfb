use Rattle.yopobrush.proofs.Asks.{texts_committed}
use Rattle.yopobrush.proofs.yopobrush_commit_overlaps.Goals as goal

pub returns : goal.returns
returns c =
    let z = c.args in
    let said = c.commit_texts-made.ensures in
    let a = c.reading_of.ensures in
    let b = c.reading_of-2.ensures in
    texts_committed (record { entries = z.entries; bytes = z.bytes }) z.left.now z.right.now _ _ _ said a b c.committing_of.ensures
