-- Of the turns that are enough, each leaves fewer, and they end where they end from the start.
use Rattle.std.proofs.Common.{◌≡◌}
use Rattle.search_steps.specs.Machine.{conf, after}
use Rattle.search_row.proofs.Left.{left}
use Rattle.search_row.proofs.run.Given as goal

abbrev pub invariant-loop-s : goal.invariant-loop-s
invariant-loop-s g l = after g.turns (conf l.s l.row l.out) ≡ after g.turns (conf l.fn.s l.fn.row l.fn.out)

abbrev pub decreases-loop-s : goal.decreases-loop-s
decreases-loop-s g l = left g.turns (conf l.s l.row l.out)
