use Rattle.pair_lines.specs.Lines.{names_of}
use Rattle.pair_lines.proofs.Loops.{Lays}
use Rattle.pair_lines.proofs.lay.Given as goal

abbrev pub invariant-loop-j : goal.invariant-loop-j
invariant-loop-j l = Lays l.row l.c l.atoms l.j l.items (names_of l.names)
