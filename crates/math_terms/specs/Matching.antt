-- MATCHING of a rule's left side (a pattern) with a slip (a ground term). A slip has fields of any length here; only reading limits them.
use Rattle.std.specs.Prelude.{◌≡◌, List, map}
use Rattle.math_types.specs.Order.{Order}
use Rattle.math_terms.specs.Constants.{Consts, TermOver}
use Rattle.math_terms.specs.Fillings.{FillingOver, Typed, fill}
use Rattle.math_terms.specs.Laws.{Expr, EachEqual, fill_expr}

module _ (O : Order) (C : Consts O) {A : Type 0} where
  -- demand 2: "A rule matches a slip exactly when some filling of its variables, each by its type, makes the two equal
  -- under GP 2's associativity and unit laws". The rule and the slip as written, an expression of terms for each field.
  abbrev pub MatchesByLaws : List (Expr (TermOver O C A)) → List (Expr (TermOver O C A)) → Type 0
  MatchesByLaws rule slip = (φ : FillingOver O C A) × Typed O C φ × EachEqual (map (fill_expr φ) rule) slip

  -- The same of the rule's fields as lists of terms and the slip's as lists of constants. `matches_laws` of proofs/Laws says that it is the
  -- same of a slip without variables.
  abbrev pub Matches : List (List (TermOver O C A)) → List (List C.Con) → Type 0
  Matches rule slip = (φ : FillingOver O C A) × Typed O C φ × (map (fill φ) rule ≡ slip)
