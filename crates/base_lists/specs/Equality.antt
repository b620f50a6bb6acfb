-- Equality of lists, decided by computation.
use Rattle.std.specs.Prelude.{◌≡◌, refl}
use Rattle.std.proofs.Common.{ap₂}
use mathlib.Core.List.{List, [], ◌∷◌, nil≢cons, cons≢nil, head-eq_of_cons-eq, tail-eq_of_cons-eq}

module _ {A : Type 0} (d : Discrete A) where
  abbrev both_eq : {x y : A} {xs ys : List A} → Dec (x ≡ y) → Dec (xs ≡ ys) → Dec (◌≡◌ {A = List A} (x ∷ xs) (y ∷ ys))
  both_eq (yes p) (yes q) = yes (ap₂ (λ (z : A) (l : List A). z ∷ l) p q)
  both_eq (yes p) (no n) = no (λ e. n (tail-eq_of_cons-eq e))
  both_eq (no n) q = no (λ e. n (head-eq_of_cons-eq e))

  abbrev pub list_eq : Discrete (List A)
  list_eq [] [] = yes refl
  list_eq [] (y ∷ ys) = no (λ e. nil≢cons e)
  list_eq (x ∷ xs) [] = no (λ e. cons≢nil e)
  list_eq (x ∷ xs) (y ∷ ys) = both_eq (d x y) (list_eq xs ys)
