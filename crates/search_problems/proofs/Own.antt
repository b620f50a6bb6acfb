-- The list variables of the two fields, and the sizes of what they stand for.
use mathlib.Core.Path.{refl}
use mathlib.Core.Logic.{inl, inr}
use mathlib.Core.Option.{Option}
use mathlib.Core.List.{List, [], ◌∷◌, Memᴰ}
use Prim.Native.Nat.{ℕ, ◌≤◌, ◌<◌}
use native.Mathlib.Omega.{arith}
use lib.ListN.{length}
use Rattle.base_limits.specs.Limits.{numbers_of_pair}
use Rattle.base_lists.specs.Seqs.{All}
use Rattle.math_search.specs.Problems.{atomic, listvar, Field, Bindings, bindings, names_in}
use Rattle.math_search.specs.Problems as search
use Rattle.math_search.proofs.Sizes.{list_values_short}
use Rattle.search_items.specs.Items.{most_codes}
use Rattle.math_codes.specs.Lines.{OurAtom}
use Rattle.search_spec.specs.Answers.{setting}
use Rattle.search_items.specs.codes.Codes.{On}
use Rattle.search_problems.specs.declared.Problem.{Problem}
use Rattle.search_problems.proofs.Holds.{Equation, Holds}

names_stand : (A : Field setting) (R : ℕ → Type 0) → ((n : ℕ) → Memᴰ (listvar n) A → R n) → All R (names_in setting A)
names_stand [] R h = tt
names_stand (atomic a ∷ A) R h = names_stand A R (λ n i. h n (Memᴰ.tail i))
names_stand (listvar n ∷ A) R h = (h n (Memᴰ.head refl), names_stand A R (λ m i. h m (Memᴰ.tail i)))

module _ (t : List (Option OurAtom)) where
  pub names_within : (A : Field setting) → All (On t) A → All (λ n. n < numbers_of_pair) (names_in setting A)
  names_within [] h = tt
  names_within (atomic a ∷ A) h = names_within A h.1
  names_within (listvar n ∷ A) h = (h.0, names_within A h.1)

  -- what n stands for has room, and its terms have codes
  abbrev pub Fits : Bindings setting → ℕ → Type 0
  Fits σ n = (length (σ (listvar n)) ≤ most_codes) × All (On t) (σ (listvar n))

  module _ (A B : Field setting) (q : Equation t A B) (p : Problem) (P : search.Problem setting) (h : Holds t A B p P) where
    pub left_fits : All (Fits (bindings setting P)) (names_in setting A)
    left_fits =
        names_stand A (Fits (bindings setting P))
        (λ n i. (omega (arith, (list_values_short setting A B q.linear P h.met n).0 i, q.right_short), h.values_in_lem (listvar n) (inl i)))

    pub right_fits : All (Fits (bindings setting P)) (names_in setting B)
    right_fits =
        names_stand B (Fits (bindings setting P))
        (λ n i. (omega (arith, (list_values_short setting A B q.linear P h.met n).1 i, q.left_short), h.values_in_lem (listvar n) (inr i)))
