use Rattle.std.proofs.Common.{get_or}
use Rattle.base_limits.specs.Limits.{pair_places}
use Rattle.pair_state.proofs.Arrays.{Filled}
use Rattle.pair_state.proofs.start.Given as goal

abbrev pub invariant-loop-i : goal.invariant-loop-i
invariant-loop-i l = Filled (λ p. get_or l.row p 0) pair_places 0 l.i l.a-items
