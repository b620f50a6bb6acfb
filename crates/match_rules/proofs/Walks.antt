-- Laws of the runs of list variables.
use mathlib.Core.Path.{◌≡◌, refl}
use mathlib.Core.List.{List, [], ◌∷◌}
use Prim.Native.Nat.{ℕ, zero, suc, ◌≤◌, min}
use native.Mathlib.Omega.{arith}
use lib.ListN.{length, drop}
use Rattle.text_values.specs.Values.{Field, SlipField}
use Rattle.match_fields.specs.declared.bindings.Run.{Run}
use Rattle.match_rules.specs.Tests.{runs_all}

-- behind the last field of either there are no more runs
pub runs_end : (j i : ℕ) (fs : List Field) (ws : List SlipField) (rs : List Run) → min (length fs) (length ws) ≤ i
    → runs_all j (drop i fs) (drop i ws) rs ≡ rs
runs_end j zero [] ws rs h = refl
runs_end j zero (f ∷ fs) [] rs h = refl
runs_end j zero (f ∷ fs) (w ∷ ws) rs h = absurd (omega arith)
runs_end j (suc i) [] ws rs h = refl
runs_end j (suc i) (f ∷ fs) [] rs h = none (drop i fs)
  where
    none : (gs : List Field) → runs_all j gs [] rs ≡ rs
    none [] = refl
    none (g ∷ gs) = refl
runs_end j (suc i) (f ∷ fs) (w ∷ ws) rs h = runs_end j i fs ws rs (omega arith)
