use Rattle.demands.specs.Committing.{commit_demand_3}
use Rattle.demands.proofs.commit.Goals as goal

pub returns : goal.returns
returns c =
    let z = c.args in
    commit_demand_3 z.left z.right c.commit.ensures
