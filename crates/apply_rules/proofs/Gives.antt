-- The filling of a match gives each of the rule's variables its value, as terms of the slip's value; so a side with no other variables is
-- filled as the theory fills it. Assumes nothing.
use mathlib.Core.Path.{◌≡◌, sym, ap, ◌∙◌}
use mathlib.Core.Logic.{inl, inr}
use mathlib.Core.Option.{some}
use mathlib.Core.List.{List, [], ◌∷◌, map}
use Prim.Native.Nat.{ℕ, ◌≤◌}
use native.Mathlib.Omega.{arith}
use Rattle.base_limits.specs.Limits.{largest_number}
use Rattle.base_lists.specs.Seqs.{All, Any}
use Rattle.math_types.specs.Order.{basic, list}
use Rattle.math_types.specs.Types.{Kind, basics}
use Rattle.math_terms.specs.Terms.{con, var}
use Rattle.math_terms.specs.Fillings.{Filling, fill, Occurs}
use Rattle.math_terms.specs.Matcher.{complete, or_some}
use Rattle.text_grammar.specs.Terms.{OurTerm, OurFields, SlipFields}
use Rattle.text_grammar.specs.constants.Constants.{Con, consts}
use Rattle.text_grammar.specs.Limits.{TermIn, IsLeft, IsSlip}
use Rattle.text_grammar.specs.constants.Matching.{constants, matcher}
use Rattle.text_values.specs.declared.Term.{Term}
use Rattle.text_values.specs.Values.{encode_side, encode_slip}
use Rattle.match_fields.specs.declared.bindings.Filling.{Filling as FillingValue}
use Rattle.match_fields.specs.bindings.Values.{run_of}
use Rattle.match_rules.specs.Answers.{value_term, encode_values, runs_of}
use Rattle.match_rules.proofs.Runs.{run_items_lem, atom_at, atom_value_lem}
use Rattle.match_rules.proofs.Items.{run_terms}
use Rattle.apply_rules.specs.filling.Filled.{filled_side}
use Rattle.apply_rules.proofs.filling.Fills.{enc, Gives, filled_with, fills}

-- a variable of a rule has a number from 0 to 15
field_number : (k : Kind) (n : ℕ) (f : List OurTerm) → All TermIn f → Occurs k n f → n ≤ largest_number
field_number k n [] i o = absurd o
field_number k n (con c ∷ f) i o = field_number k n f i.1 o
field_number k n (var j m ∷ f) i (inl p) = omega (arith, i.0, p.1)
field_number k n (var j m ∷ f) i (inr o) = field_number k n f i.1 o

side_number_lem : (k : Kind) (n : ℕ) (r : OurFields) → All (All TermIn) r → Any (Occurs k n) r → n ≤ largest_number
side_number_lem k n [] i o = absurd o
side_number_lem k n (f ∷ r) i (inl o) = field_number k n f i.0 o
side_number_lem k n (f ∷ r) i (inr o) = side_number_lem k n r i.1 o

module _ (x w : OurFields) (is_left : IsLeft x) (is_slip : IsSlip w) (φ : Filling Con Kind ℕ) (yes-φ : matcher x (map constants w) ≡ some φ) where
  abbrev items : SlipFields
  items = map constants w

  -- the filling's value
  abbrev pub shown : FillingValue
  shown = record { values = encode_values φ; runs = runs_of x items }

  gives : (k : Kind) (n : ℕ) → Any (Occurs k n) x → n ≤ largest_number → Gives shown (encode_slip w) (complete basics consts φ) k n
  gives (basic k) n o h =
      let v = atom_value_lem x is_left.1 items φ yes-φ k n o in
      ap (λ (t : Term). t ∷ []) (atom_at φ k n h ∙ ap value_term v.1)
      ∙ ap (λ (l : List Con). map enc (or_some basics consts k l)) (sym v.1)
  gives list n o h = run_terms w is_slip.1 (run_of shown n) ∙ ap (map enc) (run_items_lem x is_left.1 items φ yes-φ n h o)

  -- FILLING IN a side whose variables the rule has, with the filling of a match
  pub filled : (y : OurFields) → ((k : Kind) (n : ℕ) → Any (Occurs k n) y → Any (Occurs k n) x)
      → filled_side (encode_side y) shown (encode_slip w) ≡ filled_with (map (fill (complete basics consts φ)) y)
  filled y vars = fills shown (encode_slip w) (complete basics consts φ) y (λ k n o. gives k n (vars k n o) (side_number_lem k n x is_left.0.3 (vars k n o)))
