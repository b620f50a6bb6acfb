-- What the two runs come to is what is promised.
use Rattle.search_row.proofs.Settled.{enough, settled}
use Rattle.search_row.proofs.search.Goals as goal

pub run_twice-requires : goal.run_twice-requires
run_twice-requires c = enough c.args.left c.args.right c.args.row.now c.args.out.now

pub returns : goal.returns
returns c = settled c.args.left c.args.right c.args.row.now c.args.out.now _ _ _ c.run_twice.ensures
