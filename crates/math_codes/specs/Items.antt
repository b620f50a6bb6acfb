-- An entry's fields and values as items: an atom's code, or for the list variable of the entry's field g the number n + g,
-- n the table's places.
-- So a table of n places and one more for each field has a term for every item.
use Rattle.std.proofs.Math.Option.{Option, none, some}
use Rattle.std.specs.Prelude.{List, [], ◌∷◌, ◌++◌, map, ℕ, ◌+◌, get_or}
use Rattle.math_types.specs.Order.{Order, Full, basic, list}
use Rattle.math_terms.specs.Terms.{Term, var}
use Rattle.math_terms.specs.Constants.{Consts}
use Rattle.math_overlaps.specs.Shapes.{Atom, free, Side, Variable, of, pair_vars, Shape, closed, gapped}
use Rattle.math_overlaps.specs.Candidates.{Cand, range}
use Rattle.math_overlaps.specs.Joins.{At}
use Rattle.math_overlaps.specs.Overlaps.{Origin, place, term_of, run_of}
use Rattle.math_codes.specs.Tables.{code_of, same}
use Rattle.math_codes.specs.Entries.{code_fields}

-- ---- the terms that items stand for

module _ {C K A : Type 0} where
  -- a place's term
  abbrev pub shown_at : Option (Atom C (Variable K A)) → Option (Term C (Full K) (Origin A))
  shown_at none = none
  shown_at (some a) = some (term_of a)

  -- the atoms' terms, then the list variables of h fields
  abbrev pub terms_row : List (Option (Atom C (Variable K A))) → ℕ → List (Option (Term C (Full K) (Origin A)))
  terms_row t h = map shown_at t ++ map (λ g. some (var list (place g))) (range 0 h)

-- ---- items

-- a field's items
abbrev pub items_of : ℕ → Shape ℕ ℕ → List ℕ
items_of n (closed xs) = xs
items_of n (gapped f g t) = f ++ (n + g) ∷ t

module _ {L M : Type 0} where
  -- the fields of a choice and its last array
  abbrev pub entry_items : ℕ → List (Shape ℕ L) → List (Shape ℕ M) → List Cand × List ℕ → List (List ℕ)
  entry_items n Ps Qs e = map (items_of n) (code_fields Ps Qs e)

module _ (O : Order) (C : Consts O) {A : Type 0} (name_eq : Discrete A) where
  -- the value of a variable of the rule on a side: of an atom variable by the array, of a list variable a run of an entry's field
  abbrev pub value_items : List (Option (At O C (pair_vars O name_eq))) → Side → List (Shape ℕ A) → List ℕ → List (List ℕ) → Full O.Kind
      → A → List ℕ
  value_items t d Ps atoms is (basic k) a = get_or atoms (code_of (same O C (pair_vars O name_eq)) t (free (of d k a))) 0 ∷ []
  value_items t d Ps atoms is list a = run_of name_eq Ps is a
