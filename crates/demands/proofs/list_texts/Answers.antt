use Rattle.demands.specs.Overlaps.{texts_shared}
use Rattle.demands.proofs.list_texts.Goals as goal

pub returns : goal.returns
returns c =
    let z = c.args in
    texts_shared z.left.now z.right.now c.list_texts.ensures
