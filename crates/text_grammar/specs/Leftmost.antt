-- The leftmost member of a list with a property, which may look at what stands before it.
use Rattle.std.specs.Prelude.{◌≡◌, List, [], ◌∷◌, ◌++◌, ℕ}
use Rattle.std.proofs.Math.Logic.{ite}
use Rattle.std.proofs.Math.Option.{Option, none, some}

module _ {A : Type 0} where
  -- no member of xs has P, where `before` stands before xs
  abbrev pub NoneOf : (List A → A → Type 0) → List A → List A → Type 0
  NoneOf P before [] = Unit {0}
  NoneOf P before (x ∷ xs) = (P before x → ⊥) × NoneOf P (before ++ x ∷ []) xs

  -- x is the first of xs that has P
  abbrev pub FirstOf : (List A → A → Type 0) → List A → List A → A → Type 0
  FirstOf P before xs x = (ys zs : List A) × (xs ≡ ys ++ x ∷ zs) × P (before ++ ys) x × NoneOf P before ys

  -- p is the place of the first that has P
  abbrev pub LeftmostAt : (List A → A → Type 0) → (A → ℕ) → List A → ℕ → Type 0
  LeftmostAt P place xs p = (x : A) × FirstOf P [] xs x × (p ≡ place x)

module _ {A : Type 0} (P : List A → A → Type 0) (d : (before : List A) (x : A) → Dec (P before x)) where
  abbrev pub leftmost : List A → List A → Option A
  leftmost before [] = none
  leftmost before (x ∷ xs) = ite (d before x) (some x) (leftmost (before ++ x ∷ []) xs)
