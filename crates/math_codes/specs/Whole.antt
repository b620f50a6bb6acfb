-- THE LIST of two rules by numbers alone: the scans of the fields, the table, the array, the items and the numbers.
use Rattle.std.proofs.Math.Logic.{ite}
use Rattle.std.proofs.Math.Option.{Option, none, some}
use Rattle.std.specs.Prelude.{List, [], ◌∷◌, ◌++◌, ℕ, suc, ◌+◌, ◌-◌, length, get_or, take, drop}
use Rattle.std.proofs.Math.Decide.{ℕ_discrete}
use Rattle.base_limits.specs.Limits.{kind_count, field_places, rule_places, pair_places, pair_items}
use Rattle.math_types.specs.Order.{Full, basic, list}
use Rattle.math_types.specs.Types.{Kind, basics, entry}
use Rattle.math_terms.specs.Terms.{Term}
use Rattle.text_grammar.specs.Terms.{OurTerm}
use Rattle.text_grammar.specs.constants.Constants.{consts}
use Rattle.math_overlaps.specs.Shapes.{free, Side, left, right, of}
use Rattle.math_overlaps.specs.Candidates.{Cand}
use Rattle.overlap_spec.specs.Lines.{left_tag, right_tag}
use Rattle.overlap_spec.specs.Variables.{Variable, variables}
use Rattle.math_codes.specs.Tables.{Table, code_of, same}
use Rattle.math_codes.specs.Names.{no_names, name_fields}
use Rattle.math_codes.specs.Lines.{fields_text, values_text, our_vars, our_row}
use Rattle.math_codes.specs.Spots.{Spot, spot_of}
use Rattle.math_codes.specs.Walks.{walk_on, field_items}

-- the fields of a rule, w places each
abbrev pub spots_of : {C K A : Type 0} → ℕ → ℕ → List (List (Term C (Full K) A)) → List (Spot A)
spots_of w b [] = []
spots_of w b (f ∷ r) = spot_of b f ∷ spots_of w (b + w) r

-- the items of an entry's fields, the first of them field g
module _ {L M : Type 0} (atoms : List ℕ) (n : ℕ) where
  abbrev pub items_from : ℕ → List (Spot L) → List (Spot M) → List Cand → List (List ℕ)
  items_from g [] Qs cs = []
  items_from g (P ∷ Ps) [] cs = []
  items_from g (P ∷ Ps) (Q ∷ Qs) [] = []
  items_from g (P ∷ Ps) (Q ∷ Qs) (c ∷ cs) = field_items atoms P Q n g c ∷ items_from (suc g) Ps Qs cs

-- the run of a list variable: where it stands in its field, the items between those of the atoms before and behind it
abbrev pub run_in : Option ℕ → ℕ → ℕ → List ℕ → ℕ → List ℕ → List ℕ
run_in none h t w l rest = rest
run_in (some m) h t w l rest = ite (ℕ_discrete l m) (take (length w - (h + t)) (drop h w)) rest

-- over the fields
abbrev pub run_on : List (Spot ℕ) → List (List ℕ) → ℕ → List ℕ
run_on [] is l = []
run_on (P ∷ Ps) [] l = []
run_on (P ∷ Ps) (w ∷ is) l = run_in P.name P.head P.tail w l (run_on Ps is l)

module _ (r₁ r₂ : List (List OurTerm)) where
  -- a variable's value: of an atom variable by the array at a place that holds it, of a list variable by its number
  abbrev pub value_on : Side → List ℕ → (ℕ → List ℕ) → Kind → ℕ → List ℕ
  value_on d atoms runs (basic k) a = get_or atoms (code_of (same basics consts our_vars) (our_row r₁ r₂) (free (of d k a))) 0 ∷ []
  value_on d atoms runs list a = runs a

  module _ (T : Table) (texts : ℕ → List ℕ) where
    -- the line of items, their numbers, and the values on the two sides
    abbrev pub line_by : List ℕ → List (List ℕ) → (Variable → List ℕ) → (Variable → List ℕ) → List ℕ
    line_by numbers is f g = fields_text T texts numbers is ++ (values_text T texts numbers left_tag f (variables r₁) ++
        (values_text T texts numbers right_tag g (variables r₂) ++ 10 ∷ []))

    -- the line of an entry's items
    abbrev pub line_items : List (Spot ℕ) → List (Spot ℕ) → List ℕ → List (List ℕ) → List ℕ
    line_items Ps Qs atoms is =
        line_by (name_fields T (no_names pair_items kind_count) is).numbers is (λ v. value_on left atoms (run_on Ps is) v.0 v.1)
        (λ v. value_on right atoms (run_on Qs is) v.0 v.1)

    -- what is written of a choice and its last array
    abbrev pub line_spots : List (Spot ℕ) → List (Spot ℕ) → List Cand → List ℕ → List ℕ
    line_spots Ps Qs cs atoms = line_items Ps Qs atoms (items_from atoms pair_places 0 Ps Qs cs)

    -- THE LIST by numbers, line by line
    abbrev pub list_spots : List (List ℕ)
    list_spots = walk_on entry T (spots_of field_places 0 r₁) (spots_of field_places rule_places r₂) T.first
        (λ cs last. line_spots (spots_of field_places 0 r₁) (spots_of field_places rule_places r₂) cs last ∷ [])
