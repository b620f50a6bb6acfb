use Rattle.std.proofs.Common.{get_or}
use Rattle.base_limits.specs.Limits.{pair_places}
use Rattle.pair_state.proofs.Arrays.{filled_all}
use Rattle.pair_state.proofs.start.Goals as goal

pub returns : goal.returns
returns c = filled_all (λ p. get_or c.args.row.now p 0) pair_places 0 c.loop-i.i c.loop-i.a-items c.loop-i.invariant c.loop-i-test.false
