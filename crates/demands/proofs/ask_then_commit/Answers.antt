use Rattle.demands.specs.Committing.{ask_commit}
use Rattle.demands.proofs.ask_then_commit.Goals as goal

pub returns : goal.returns
returns c =
    let z = c.args in
    ask_commit z.left z.right c.ask-counts.ensures c.commit.ensures
