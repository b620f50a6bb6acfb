-- The order of Theorem 1 of document 001, as document 01 amends it.
use Rattle.std.specs.Prelude.{◌≡◌, cond, [], ◌∷◌, ℕ, ◌+◌, ◌<◌}
use Rattle.math_overlaps.specs.Shapes.{fixed, free}
use Rattle.math_search.specs.Problems.{Setting, atomic, listvar, Field, term_type, Rest, solved, equation}
use Rattle.math_search.specs.Rules.{below}

-- lexicographically lower
pub data Less (a b c d a' b' c' d' : ℕ) : Type 0 where
  first : a < a' → Less a b c d a' b' c' d'
  second : a ≡ a' → b < b' → Less a b c d a' b' c' d'
  third : a ≡ a' → b ≡ b' → c < c' → Less a b c d a' b' c' d'
  fourth : a ≡ a' → b ≡ b' → c ≡ c' → d < d' → Less a b c d a' b' c' d'

module _ (E : Setting) where
  -- "0 if L = empty, 1 if L is an expression of category Atom or a list variable, |M| + |N| + 1 if L = M : N"
  abbrev pub size : Field E → ℕ
  size [] = 0
  size (t ∷ []) = 1
  size (t ∷ (u ∷ L)) = 1 + size (u ∷ L) + 1

  -- n1: the size of the problem
  abbrev pub size_part : Field E → Field E → ℕ
  size_part L M = size L + size M

  -- n2: 0 if the left side starts with a variable, else 1
  abbrev pub head_part : Field E → ℕ
  head_part [] = 1
  head_part (atomic (fixed c) ∷ L) = 1
  head_part (atomic (free x) ∷ L) = 0
  head_part (listvar x ∷ L) = 0

  -- n3, as amended: "the third part is 1 when the left head's type is below the right's"
  abbrev pub type_part : Field E → Field E → ℕ
  type_part [] M = 0
  type_part (t ∷ L) [] = 0
  type_part (t ∷ L) (u ∷ M) = cond (below E (term_type E t) (term_type E u)) 1 0

  -- What is left is lower than L = M. n4 is the left side's size. "A solved problem stands below all others."
  abbrev pub Lower : Rest E → Field E → Field E → Type 0
  Lower solved L M = Unit {0}
  Lower (equation L' M') L M =
      Less (size_part L' M') (head_part L') (type_part L' M') (size L') (size_part L M) (head_part L) (type_part L M) (size L)
