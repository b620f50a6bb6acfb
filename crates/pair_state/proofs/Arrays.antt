-- Loops over the places of an array: one that fills it, and one that replaces its members.
use mathlib.Core.Path.{◌≡◌}
use mathlib.Core.List.{List, ◌++◌, map}
use Prim.Native.Nat.{ℕ, ◌<◌, ◌≤◌}
use native.Mathlib.Omega.{arith}
use lib.ListN.{length, get_or, take, drop}
use Rattle.base_lists.specs.Seqs.{tabulate, tabulated}

-- ---- filling

module _ {A : Type 0} (f : ℕ → A) (w : ℕ) (d : A) where
  -- the first i places are filled
  abbrev pub Filled : ℕ → List A → Type 0
  Filled i l = (length l ≡ w) × ((j : ℕ) → j < i → get_or l j d ≡ f j)

  pub filled_all : (i : ℕ) (l : List A) → Filled i l → w ≤ i → l ≡ tabulate w f
  filled_all i l v h = tabulated w l f d v.0 (λ j k. v.1 j (omega arith))

-- ---- replacing

module _ {A : Type 0} (g : A → A) (w : ℕ) (l₀ : List A) where
  -- from place i on the members are still to be replaced
  abbrev pub Passed : ℕ → List A → Type 0
  Passed i l = (length l ≡ w) × (map g l₀ ≡ take i l ++ map g (drop i l))
