use Rattle.demands.specs.Searching.{search_demand}
use Rattle.demands.proofs.search.Goals as goal

pub returns : goal.returns
returns c =
    search_demand c.args.left c.args.right c.args.row.now c.args.out.now c.search.result c.search.new.row c.search.new.out c.search.ensures
