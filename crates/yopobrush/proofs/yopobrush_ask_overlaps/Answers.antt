use Rattle.yopobrush.proofs.Asks.{texts_asked}
use Rattle.yopobrush.proofs.yopobrush_ask_overlaps.Goals as goal

pub returns : goal.returns
returns c =
    let z = c.args in
    let said = c.ask_texts-asked.ensures in
    let a = c.reading_of.ensures in
    let b = c.reading_of-2.ensures in
    texts_asked z.left.now z.right.now _ _ _ said a b c.asking_of.ensures
