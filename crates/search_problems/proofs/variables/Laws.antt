-- What the set's functions are of its members: `with_one`, `fresh_lowest`, `variables_distinct`, `some_left`.
use mathlib.Core.Path.{◌≡◌, refl, sym, ◌∙◌, ap}
use mathlib.Core.Logic.{◌⊎◌, inl, inr, ite}
use mathlib.Core.Bool.{Bool, cond}
use mathlib.Core.List.Memᴰ
use mathlib.Core.List.{List, [], ◌∷◌, Memᴰ}
use Prim.Native.Nat.{ℕ, suc, ◌^◌, ◌≤◌, ◌<◌}
use native.Mathlib.Omega.{arith}
use native.Mathlib.Decide.{ℕ_discrete}
use borrow.Author.Tests.{le-leb, lt-leb}
use lib.Bits.{bit_or, or_lt}
use lib.Pow.{pow-lt}
use lib.Count.{ones, ones-le}
use lib.ListN.{length}
use Rattle.base_lists.specs.Seqs.{All}
use Rattle.math_terms.specs.Seqs.{Distinct}
use Rattle.math_overlaps.specs.Overlaps.{without, firsts}
use Rattle.math_overlaps.proofs.Numbers.{firsts_in, firsts_distinct}
use Rattle.math_overlaps.proofs.Renumbered.{in_firsts}
use Rattle.math_search.specs.Fresh.{member, lowest, lowest_new}
use Rattle.math_search.proofs.Fresh.{lowest_lowest}
use Rattle.search_problems.specs.variables.Sets.{digits, set_of, with_name, fresh_value, list_variables}
use Rattle.search_problems.proofs.variables.Digits.{digit, digit_zero, digit_small, digit_or, digit_same, digit_other, ones_more, lowest_clear}

-- ---- the digits are the members

pub has_member : (n : ℕ) (u : List ℕ) → Memᴰ n u → digit n (set_of u) ≡ 1
has_member n [] i = absurd (Memᴰ.not-nil i)
has_member n (m ∷ u) i = go (λ j. has_member n u j) (Memᴰ.cases_cons i)
  where
    go : (Memᴰ n u → digit n (set_of u) ≡ 1) → (n ≡ m) ⊎ Memᴰ n u → digit n (bit_or (set_of u) (2 ^ m)) ≡ 1
    go rec (inl e) =
        let z : digit n (2 ^ m) ≡ 1 = ap (λ (k : ℕ). digit n (2 ^ k)) (sym e) ∙ digit_same n in
        omega (arith, digit_or n (set_of u) (2 ^ m), digit_small n (set_of u))
    go rec (inr j) = omega (arith, digit_or n (set_of u) (2 ^ m), rec j, digit_small n (2 ^ m))

pub lacks_other : (n : ℕ) (u : List ℕ) → (Memᴰ n u → ⊥) → digit n (set_of u) ≡ 0
lacks_other n [] h = digit_zero n
lacks_other n (m ∷ u) h =
    omega (arith, digit_or n (set_of u) (2 ^ m), digit_other n m (λ e. h (Memᴰ.head e)), lacks_other n u (λ i. h (Memᴰ.tail i)))

pub set_small : (u : List ℕ) → All (λ n. n < digits) u → set_of u < 2 ^ digits
set_small [] h = omega arith
set_small (n ∷ u) h = or_lt digits (set_of u) (2 ^ n) (set_small u h.1) (pow-lt h.0)

-- ---- one more

pub with_beyond : (set n : ℕ) → digits ≤ n → with_name set n ≡ set
with_beyond set n h = ap (λ (b : Bool). cond b set (bit_or set (2 ^ n))) (le-leb digits n h)

pub with_within : (set n : ℕ) → n < digits → with_name set n ≡ bit_or set (2 ^ n)
with_within set n h = ap (λ (b : Bool). cond b set (bit_or set (2 ^ n))) (lt-leb digits n h)

pub with_one : (n : ℕ) (u : List ℕ) → n < digits → with_name (set_of u) n ≡ set_of (n ∷ u)
with_one n u h = with_within (set_of u) n h

-- ---- the lowest that is absent

pub fresh_lowest : (u : List ℕ) → All (λ n. n < digits) u → lowest u < digits → fresh_value (set_of u) ≡ lowest u
fresh_lowest u h g =
    lowest_clear digits (set_of u) (lowest u) (set_small u h) g (lacks_other (lowest u) u (lowest_new u)) (λ j k. has_member j u (lowest_lowest u j k))

-- ---- how many there are

without_absent : (n : ℕ) (l : List ℕ) → (Memᴰ n l → ⊥) → length (without ℕ_discrete n l) ≡ length l
without_absent n [] h = refl
without_absent n (m ∷ l) h = go (ℕ_discrete n m) (without_absent n l (λ i. h (Memᴰ.tail i)))
  where
    go : (d : Dec (n ≡ m)) → length (without ℕ_discrete n l) ≡ length l → length (ite d (without ℕ_discrete n l) (m ∷ without ℕ_discrete n l)) ≡ suc (length l)
    go (yes e) rec = absurd (h (Memᴰ.head e))
    go (no d) rec = ap suc rec

without_member : (n : ℕ) (l : List ℕ) → Distinct l → Memᴰ n l → suc (length (without ℕ_discrete n l)) ≡ length l
without_member n [] h i = absurd (Memᴰ.not-nil i)
without_member n (m ∷ l) h i = go (ℕ_discrete n m) (Memᴰ.cases_cons i) (λ j. without_member n l h.1 j)
  where
    go : (d : Dec (n ≡ m)) → (n ≡ m) ⊎ Memᴰ n l → (Memᴰ n l → suc (length (without ℕ_discrete n l)) ≡ length l)
        → suc (length (ite d (without ℕ_discrete n l) (m ∷ without ℕ_discrete n l))) ≡ suc (length l)
    go (yes e) q rec = ap suc (without_absent n l (λ j. h.0 (Memᴰ.cast (sym e) j)))
    go (no d) (inl e) rec = absurd (d e)
    go (no d) (inr j) rec = ap suc (rec j)

-- "ones count variables of a problem": each once
pub variables_distinct : (u : List ℕ) → list_variables (set_of u) ≡ length (firsts ℕ_discrete u)
unfolding ones
variables_distinct [] = refl
variables_distinct (n ∷ u) = go (member n u) (variables_distinct u)
  where
    go : Dec (Memᴰ n u) → ones (set_of u) ≡ length (firsts ℕ_discrete u)
        → ones (bit_or (set_of u) (2 ^ n)) ≡ suc (length (without ℕ_discrete n (firsts ℕ_discrete u)))
    go (yes i) rec =
        omega (
          arith,
          ones_more n (set_of u),
          has_member n u i,
          without_member n (firsts ℕ_discrete u) (firsts_distinct ℕ_discrete u) (in_firsts ℕ_discrete n u i),
        )
    go (no h) rec = omega (arith, ones_more n (set_of u), lacks_other n u h, without_absent n (firsts ℕ_discrete u) (λ i. h (firsts_in ℕ_discrete n u i)))

-- where a number that has a digit is absent, there are fewer than the digits
pub some_left : (n : ℕ) (u : List ℕ) → All (λ m. m < digits) u → n < digits → (Memᴰ n u → ⊥) → list_variables (set_of u) < digits
some_left n u h g absent =
    omega (arith, ones-le digits (set_of (n ∷ u)) (set_small (n ∷ u) (g, h)), ones_more n (set_of u), lacks_other n u absent)
