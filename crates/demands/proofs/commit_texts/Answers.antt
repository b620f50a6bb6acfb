use Rattle.demands.specs.Committing.{texts_commit_demand_3}
use Rattle.demands.proofs.commit_texts.Goals as goal

pub returns : goal.returns
returns c =
    let z = c.args in
    texts_commit_demand_3 z.left.now z.right.now c.commit_texts.ensures
