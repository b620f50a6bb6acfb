use Rattle.demands.specs.Overlaps.{lists_shared}
use Rattle.demands.proofs.list_overlaps.Goals as goal

pub returns : goal.returns
returns c =
    let z = c.args in
    lists_shared z.left z.right c.list_overlaps.ensures
