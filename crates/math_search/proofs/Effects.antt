-- What a move does, in one record for each form. Everything that is proved of a step is derived from these records:
--     eqv     what makes the two sides equal, before and after
--     from    where the terms of what is left, and of the value, come from
--     falls   the order of Theorem 1
use mathlib.Core.Path.{◌≡◌, refl}
use mathlib.Core.Logic.{◌↔◌, ◌⊎◌, inl, inr}
use mathlib.Core.Bool.{Bool, true, false, cond}
use mathlib.Core.Option.{Option, none, some}
use mathlib.Core.List.{List, [], ◌∷◌}
use Prim.Native.Nat.{ℕ, suc, ◌+◌, ◌*◌, ◌≤◌, ◌<◌}
use native.Mathlib.Omega.{arith}
use lib.ListN.{length}
use Rattle.base_lists.specs.Seqs.{All}
use Rattle.math_terms.specs.Seqs.{concat_map}
use Rattle.math_overlaps.specs.Shapes.{fixed, free}
use Rattle.math_search.specs.Problems.{Setting, atomic, listvar, Tm, Field, term_type, Rest, solved, equation}
use Rattle.math_search.specs.Rules.{below, Move, keep, bind}
use Rattle.math_search.specs.Termination.{first, size, size_part, head_part, type_part, Lower}
use Rattle.math_search.specs.Queue.{terms_in, long_part, rank}
use Rattle.math_search.specs.Answers.{count_of, Linear, Fits}
use Rattle.math_search.proofs.Counts.{LinearRest, Other}

module _ (E : Setting) where
  open E use {names}
  open names use {Name}

  -- θ, into lists of any type, makes what is left equal
  abbrev pub Holds : {B : Type 0} → (Tm E → List B) → Rest E → Type 0
  Holds θ solved = Unit {0}
  Holds θ (equation L M) = concat_map θ L ≡ concat_map θ M

  -- every term of what is left has P
  abbrev pub AllRest : (Tm E → Type 0) → Rest E → Type 0
  AllRest P solved = Unit {0}
  AllRest P (equation L M) = All P L × All P M

  -- lower in the order of Theorem 1, and in the rank that bounds the steps
  abbrev pub Falls : Rest E → Field E → Field E → Type 0
  Falls n L M = (rank E n < rank E (equation L M)) × Lower E n L M

  -- terms left
  abbrev pub terms_left : Rest E → ℕ
  terms_left solved = 0
  terms_left (equation L M) = terms_in E L M

  -- a move that binds nothing
  pub record Keep (L M : Field E) (n : Rest E) : Type 1 where
    pub eqv : {B : Type 0} (θ : Tm E → List B) → (concat_map θ L ≡ concat_map θ M) ↔ Holds θ n
    pub from : (P : Tm E → Type 0) → All P L → All P M → AllRest P n
    pub lin : Linear E L M → LinearRest E n
    pub falls : Falls n L M
    pub room : terms_left n ≤ terms_in E L M

  -- a move that binds x to s, brings in the list variables v, and leaves n
  pub record Bind (L M : Field E) (f : Name) (x : Tm E) (s : Field E) (v : List Name) (n : Rest E) : Type 1 where
    pub eqv : {B : Type 0} (θ : Tm E → List B) → θ x ≡ concat_map θ s → (concat_map θ L ≡ concat_map θ M) ↔ Holds θ n
    pub here : (P : Tm E → Type 0) → All P L → All P M → P x
    pub from : Linear E L M → (P : Tm E → Type 0) → All (λ t. Other E x t → P t) L
        → All (λ t. Other E x t → P t) M → All (λ k. P (listvar k)) v → All P s × AllRest P n
    pub new : All (λ k. k ≡ f) v
    pub fits : Fits E x s
    pub lin : Linear E L M → count_of E f L ≡ 0 → count_of E f M ≡ 0 → LinearRest E n
    pub falls : Falls n L M
    pub room : length v + terms_left n ≤ terms_in E L M

  -- what the move of a rule does, if it applies
  abbrev pub Does : Field E → Field E → Name → Option (Move E) → Type 1
  Does L M f none = Unit {1}
  Does L M f (some (keep n)) = Keep L M n
  Does L M f (some (bind x s v n)) = Bind L M f x s v n

  head_le : (L : Field E) → head_part E L ≤ 1
  head_le [] = omega arith
  head_le (atomic (fixed c) ∷ L) = omega arith
  head_le (atomic (free x) ∷ L) = omega arith
  head_le (listvar x ∷ L) = omega arith

  bit : (b : Bool) → cond b 1 0 ≤ 1
  bit true = omega arith
  bit false = omega arith

  pub type_le : (L M : Field E) → type_part E L M ≤ 1
  type_le [] M = omega arith
  type_le (t ∷ L) [] = omega arith
  type_le (t ∷ L) (u ∷ M) = bit (below E (term_type E t) (term_type E u))

  pub long_le : (L : Field E) → long_part E L ≤ 1
  long_le [] = omega arith
  long_le (t ∷ []) = omega arith
  long_le (t ∷ (u ∷ L)) = omega arith

  -- ---- fewer terms: a lower size and a lower rank

  size_cons : (t : Tm E) (L : Field E) → size E (t ∷ L) + 1 ≡ 2 * suc (length L)
  size_cons t [] = omega arith
  size_cons t (u ∷ L) = omega (arith, size_cons u L)

  size_terms : (L : Field E) → (length L ≤ size E L) × (size E L ≤ 2 * length L) × (2 * length L ≤ size E L + 1)
  size_terms [] = (omega arith, omega arith, omega arith)
  size_terms (t ∷ L) = (omega (arith, size_cons t L), omega (arith, size_cons t L), omega (arith, size_cons t L))

  size_both : (L M : Field E) → (size_part E L M ≡ 0) ⊎ (size_part E L M + 1 ≤ 2 * terms_in E L M)
  size_both [] [] = inl refl
  size_both [] (t ∷ M) = inr (omega (arith, size_cons t M))
  size_both (t ∷ L) M = inr (omega (arith, size_cons t L, (size_terms M).1))

  pub fewer : (L M L' M' : Field E) → terms_in E L' M' < terms_in E L M → Falls (equation L' M') L M
  fewer L M L' M' h = (omega (arith, head_le L', type_le L' M', long_le L'), first (smaller (size_both L' M')))
    where
      smaller : (size_part E L' M' ≡ 0) ⊎ (size_part E L' M' + 1 ≤ 2 * terms_in E L' M') → size_part E L' M' < size_part E L M
      smaller (inl z) = omega (arith, (size_terms L).0, (size_terms M).0)
      smaller (inr z) = omega (arith, (size_terms L).2, (size_terms M).2)
