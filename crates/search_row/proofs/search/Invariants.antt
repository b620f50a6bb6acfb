-- How many turns are enough.
use Rattle.search_row.proofs.Settled.{turns}
use Rattle.search_row.proofs.search.Given as goal

abbrev pub ghost-run_twice : goal.ghost-run_twice
ghost-run_twice a = turns a.left a.right a.row.now a.out.now
