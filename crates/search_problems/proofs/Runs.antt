-- The codes of a run of places, one by one, and the numbers of list variables. Assumes nothing.
use mathlib.Core.Path.{◌≡◌, sym, ◌∙◌, ap}
use mathlib.Core.Bool.{Bool, true, false}
use mathlib.Core.List.{List, foldl}
use Prim.Native.Nat.{ℕ, suc, ◌+◌, ◌-◌, ◌<◌}
use native.Mathlib.Nat.{mod-lt}
use native.Mathlib.Omega.{arith}
use lib.ListN.{get_or}
use Rattle.base_limits.specs.Limits.{numbers_of_side, numbers_of_pair}
use Rattle.search_items.specs.declared.Items.{Items}
use Rattle.search_items.specs.Items.{pushed}
use Rattle.search_problems.specs.Roots.{list_number, codes_at}

pub number_low : (right : Bool) (n : ℕ) → list_number right n < numbers_of_pair
number_low true n = omega (arith, mod-lt n {m = numbers_of_side} (omega arith))
number_low false n = omega (arith, mod-lt n {m = numbers_of_side} (omega arith))

module _ (row : List ℕ) (whole : Items) (e : ℕ) where
  -- what is left to push makes the whole
  abbrev pub Pushing : ℕ → Items → Type 0
  Pushing i z = whole ≡ foldl pushed z (codes_at row i (e - i))

  pub pushing_one : (i : ℕ) (z : Items) (c : ℕ) → Pushing i z → i < e → c ≡ get_or row i 0 → Pushing (i + 1) (pushed z c)
  pushing_one i z c v h q =
      v ∙ ap (λ (n : ℕ). foldl pushed z (codes_at row i n)) more
      ∙ ap (λ (j : ℕ). foldl pushed (pushed z (get_or row i 0)) (codes_at row j (e - (i + 1)))) next
      ∙ ap (λ (d : ℕ). foldl pushed (pushed z d) (codes_at row (i + 1) (e - (i + 1)))) (sym q)
    where
      more : e - i ≡ suc (e - (i + 1))
      more = omega arith

      next : suc i ≡ i + 1
      next = omega arith
