-- As many turns as are enough here.
use Rattle.search_row.proofs.from_root.Given as goal

abbrev pub ghost-run : goal.ghost-run
ghost-run g a = g.turns
