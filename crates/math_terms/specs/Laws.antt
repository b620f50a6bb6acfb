-- GP 2's list expressions and their laws: `:` is associative, and `empty` is its unit.
-- `laws` of proofs/Laws says that two expressions are equal by the laws exactly when they have the same terms in the same order.
use Rattle.std.specs.Prelude.{List, [], ◌∷◌, ◌++◌, map}
use Rattle.math_terms.specs.Terms.{Term, con}
use Rattle.math_terms.specs.Fillings.{Filling, value}

-- document 001's lists, as they are written: `empty`, a term, or two lists joined by `:`
pub data Expr (T : Type 0) : Type 0 where
  empty : Expr T
  term : T → Expr T
  ◌⦂◌ : Expr T → Expr T → Expr T

infixr 60 ◌⦂◌
infix 20 ◌≈◌
-- "GP 2's associativity and unit laws" (demand 2): the least congruence that has the three
pub data ◌≈◌ {T : Type 0} : Expr T → Expr T → Type 0 where
  ≈-assoc : {e f g : Expr T} → ((e ⦂ f) ⦂ g) ≈ (e ⦂ (f ⦂ g))
  ≈-left : {e : Expr T} → (empty ⦂ e) ≈ e
  ≈-right : {e : Expr T} → (e ⦂ empty) ≈ e
  ≈-refl : {e : Expr T} → e ≈ e
  ≈-sym : {e f : Expr T} → e ≈ f → f ≈ e
  ≈-trans : {e f g : Expr T} → e ≈ f → f ≈ g → e ≈ g
  ≈-cong : {e e' f f' : Expr T} → e ≈ e' → f ≈ f' → (e ⦂ f) ≈ (e' ⦂ f')

module _ {T : Type 0} where
  -- the terms of an expression, in order
  abbrev pub flat : Expr T → List T
  flat empty = []
  flat (term t) = t ∷ []
  flat (e ⦂ f) = flat e ++ flat f

  -- the expression that one writes for these terms: `empty` for none, else the terms joined by `:`
  abbrev pub expr : List T → Expr T
  expr [] = empty
  expr (t ∷ []) = term t
  expr (t ∷ (u ∷ ts)) = term t ⦂ expr (u ∷ ts)

  -- field by field: as many, and each equal to its partner by the laws
  abbrev pub EachEqual : List (Expr T) → List (Expr T) → Type 0
  EachEqual [] [] = Unit {0}
  EachEqual [] (f ∷ fs) = ⊥
  EachEqual (e ∷ es) [] = ⊥
  EachEqual (e ∷ es) (f ∷ fs) = (e ≈ f) × EachEqual es fs

module _ {T U : Type 0} where
  -- each term replaced by the expression of what v gives it
  abbrev pub replace : (T → List U) → Expr T → Expr U
  replace v empty = empty
  replace v (term t) = expr (v t)
  replace v (e ⦂ f) = replace v e ⦂ replace v f

module _ {C K A : Type 0} where
  -- a filling put into an expression: each variable replaced by its value, written as terms
  abbrev pub fill_expr : Filling C K A → Expr (Term C K A) → Expr (Term C K A)
  fill_expr φ e = replace (λ t. map con (value φ t)) e
