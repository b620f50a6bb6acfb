-- The answer of a join, of what the mathematics makes of the state's codes.
use Rattle.std.specs.Prelude.{List, ℕ, Option, Some, None}
use Rattle.std.proofs.Math.Option.{none, some}
use Rattle.std.proofs.Math.Option as math
use Rattle.pair_state.specs.declared.State.{State}

-- the next state, or a clash
abbrev pub joined_of : math.Option (List ℕ) → Option State
joined_of none = None
joined_of (some atoms) = Some (record { atoms = atoms })
