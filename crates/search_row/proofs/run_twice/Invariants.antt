-- As many turns for each run as are enough for both.
use Rattle.search_row.proofs.run_twice.Given as goal

abbrev pub ghost-from_root : goal.ghost-from_root
ghost-from_root g a = g.turns
