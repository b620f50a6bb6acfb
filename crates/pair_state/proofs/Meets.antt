-- TWO ATOMS ARE DECIDED BY THE MEET of their types' ranks: which takes which, and none is a clash. Assumes nothing.
use mathlib.Core.Path.{◌≡◌, sym, ◌∙◌, ap, ap₂, subst}
use mathlib.Core.Bool.{Bool, ◌&&◌}
use Prim.Native.Nat.{ℕ}
use lib.Dec.{eqb}
use Rattle.std.specs.Prelude.{Option, Some}
use Rattle.math_types.specs.Types.{entry}
use Rattle.math_types.specs.Values.{meet_rank}
use Rattle.math_types.proofs.Ranks.{MeetSays, meet_says}
use Rattle.math_codes.specs.Tables.{Table}
use Rattle.math_codes.specs.States.{takes}

-- j and k are the ranks of x and y
module _ (T : Table) (x y j k : ℕ) (is-j : j ≡ T.kind x) (is-k : k ≡ T.kind y) (r : Option ℕ) (is-r : r ≡ meet_rank k j) where
  says : (s : Option ℕ) → r ≡ s → MeetSays k j s
  says s e = subst (MeetSays k j) (sym is-r ∙ e) (meet_says k j)

  left_is : T.variable x && entry k j ≡ takes entry T x y
  left_is = ap (λ (b : Bool). T.variable x && b) (ap₂ entry is-k is-j)

  right_is : T.variable y && entry j k ≡ takes entry T y x
  right_is = ap (λ (b : Bool). T.variable y && b) (ap₂ entry is-j is-k)

  -- THE LAW: where the meet is m
  pub meet_left : (m : ℕ) → r ≡ Some m → T.variable x && eqb m k ≡ takes entry T x y
  meet_left m e = ap (λ (b : Bool). T.variable x && b) (says (Some m) e).0 ∙ left_is

  pub meet_right : (m : ℕ) → r ≡ Some m → T.variable y && eqb m j ≡ takes entry T y x
  meet_right m e = ap (λ (b : Bool). T.variable y && b) (says (Some m) e).1 ∙ right_is
