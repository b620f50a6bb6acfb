use Rattle.pair_lines.proofs.Loops.{RunsFrom}
use Rattle.pair_lines.proofs.put_runs.Given as goal

abbrev pub invariant-loop-j : goal.invariant-loop-j
invariant-loop-j l = RunsFrom l.row l.right l.fields l.c l.initial.runs l.j l.runs
