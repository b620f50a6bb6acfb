-- Where `State::join` gives a clash.
use mathlib.Core.Path.{◌≡◌}
use mathlib.Core.Bool.{Bool, false}
use Prim.Native.Nat.{ℕ}
use Rattle.std.specs.Prelude.{None}
use lib.ListN.{get_or}
use borrow.Author.Tests.{ne_eqb}
use Rattle.math_codes.specs.Tables.{Table}
use Rattle.math_codes.specs.States.{takes, join_places}
use Rattle.pair_state.specs.declared.State.{State}
use Rattle.pair_state.specs.States.{joined_of}

-- the two codes differ, and neither takes the other
module _ (below : ℕ → ℕ → Bool) (T : Table) (p q : ℕ) (st : State)
    (x y : ℕ) (is_x : x ≡ get_or st.atoms p 0) (is_y : y ≡ get_or st.atoms q 0) (n : x ≡ y → ⊥) where
  pub join_clash : takes below T x y ≡ false → takes below T y x ≡ false → None ≡ joined_of (join_places below T p q st.atoms)
  join_clash a b = rw (← is_x, ← is_y, ne_eqb x y n, a, b)
