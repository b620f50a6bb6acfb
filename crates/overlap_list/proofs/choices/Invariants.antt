use Rattle.overlap_list.proofs.Short.{Product}
use Rattle.overlap_list.proofs.choices.Given as goal

abbrev pub invariant-loop-j : goal.invariant-loop-j
invariant-loop-j l = Product l.row l.fields l.j l.n
