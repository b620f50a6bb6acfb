use Rattle.base_limits.specs.Limits.{pair_places}
use Rattle.math_codes.specs.States.{swap}
use Rattle.pair_state.proofs.Arrays.{Passed}
use Rattle.pair_state.proofs.State.replace.Given as goal

abbrev pub invariant-loop-a : goal.invariant-loop-a
invariant-loop-a l = Passed (swap l.x l.w) pair_places l.initial.a-items l.a-index l.a-items
