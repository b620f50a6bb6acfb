-- Solutions (unifiers) of two rules, and the slips (ground terms) that they cover.
use Rattle.std.specs.Prelude.{◌≡◌, List, map}
use Rattle.math_types.specs.Order.{Order, Full}
use Rattle.math_terms.specs.Constants.{Consts, TermOver}
use Rattle.math_terms.specs.Matching.{Matches}
use Rattle.math_overlaps.specs.Substitutions.{Subst, substitute, TypedSubst}

module _ (O : Order) (C : Consts O) {A : Type 0} (r₁ r₂ : List (List (TermOver O C A))) (B : Type 0) where
  -- document 01: "A solution gives every variable of both rules, those spelled alike kept apart, a value of its type, made
  -- of our terms, that turns both into the same fields. [..] and a variable's number has no limit": B is any type of names
  pub record Solution : Type 0 where
    pub left : Subst C.Con (Full O.Kind) A B
    pub right : Subst C.Con (Full O.Kind) A B
    pub typed_left : TypedSubst O C left
    pub typed_right : TypedSubst O C right
    pub same : map (substitute left) r₁ ≡ map (substitute right) r₂

  -- "its fields"
  abbrev pub fields_of : Solution → List (List (TermOver O C B))
  fields_of x = map (substitute x.left) r₁

  -- "A solution covers the slips that fit its fields"
  abbrev pub Covers : Solution → List (List C.Con) → Type 0
  Covers x w = Matches O C (fields_of x) w
