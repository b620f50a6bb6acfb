use mathlib.Core.List.{foldl}
use Prim.Native.Nat.{◌-◌}
use Rattle.search_items.specs.Items.{pushed}
use Rattle.search_problems.specs.Roots.{codes_at}
use Rattle.search_problems.proofs.Runs.{Pushing}
use Rattle.search_problems.proofs.push_codes.Given as goal

abbrev pub invariant-loop-i : goal.invariant-loop-i
invariant-loop-i l = Pushing l.row (foldl pushed l.fn.y (codes_at l.row l.b (l.e - l.b))) l.e l.i l.y
