-- Matching on accepted values: their fields are the values of the fields that they were read as.
use mathlib.Core.Path.{◌≡◌, refl, sym, ◌∙◌, ap, ap₂}
use mathlib.Core.Logic.{◌≢◌}
use mathlib.Core.Bool.{Bool, true, false, cond}
use mathlib.Core.List.{List, [], ◌∷◌, map}
use Prim.Native.Nat.{ℕ, ◌+◌, ◌≤◌}
use native.Mathlib.Omega.{arith}
use borrow.Author.Tests.{eq-eqb, ne_eqb}
use lib.Dec.{eqb}
use lib.ListN.{length, take, length-map}
use Rattle.base_limits.specs.Limits.{most_fields}
use Rattle.base_lists.specs.Seqs.{All, IsCons, all_map}
use Rattle.math_terms.specs.Linear.{OneList}
use Rattle.text_grammar.specs.Terms.{OurFields, SlipFields}
use Rattle.text_grammar.specs.Limits.{TermIn, IsCon}
use Rattle.text_grammar.specs.constants.Matching.{constants, matcher, compared}
use Rattle.text_grammar.proofs.constants.Linear.{left_linear}
use Rattle.text_grammar.proofs.constants.Matching.{constants_are}
use Rattle.text_values.specs.Values.{Field, RuleSide, SlipField, Slip}
use Rattle.text_values.specs.Values.{blank_field, blank_slip_field, encode_field, encode_slip_field, encode_side, encode_slip, view_side, view_slip}
use Rattle.text_values.proofs.Pads.{unpadded}
use Rattle.text_accepted.specs.Accepted.{accepted_left, counted_left}
use Rattle.text_accepted.specs.slips.Slips.{accepted_slip, counted_slip}
use Rattle.text_accepted.proofs.Accepted.{FieldIn, rule_is, accepted_rule_lem}
use Rattle.text_accepted.proofs.slips.Slips.{slip_is, accepted_slip_lem}
use Rattle.match_rules.specs.declared.Match.{Match}
use Rattle.match_rules.specs.Answers.{no_match, found, match_of, comparison, no_comparison, comparison_by, comparison_on}
use Rattle.match_rules.proofs.Agree.{encode_items}
use Rattle.match_rules.proofs.Found.{comparison_on_lem}

-- ---- the fields of a value

pub fields_of_lem : (r : OurFields) → take (length r) (encode_side r).fields ≡ map encode_field r
fields_of_lem r = unpadded most_fields blank_field encode_field r

slip_fields_of : (s : OurFields) → take (length s) (encode_slip s).fields ≡ map encode_slip_field s
slip_fields_of s = unpadded most_fields blank_slip_field encode_slip_field s

pub fields_again : (s : OurFields) → All (All IsCon) s → map encode_slip_field s ≡ map encode_items (map constants s)
fields_again [] i = refl
fields_again (f ∷ s) i = ap₂ (λ (w : SlipField) (ws : List SlipField). w ∷ ws) (ap encode_slip_field (sym (constants_are f i.0))) (fields_again s i.1)

-- ---- what is not accepted has no fields

pub not_rule : (rule : RuleSide) (slip : Slip) → accepted_left rule ≡ false → no_match ≡ match_of (counted_left rule) (counted_slip slip)
not_rule rule slip e = sym (ap (λ (b : Bool). match_of (cond b (view_side rule) []) (counted_slip slip)) e)

no_fields : (r : OurFields) → match_of r [] ≡ no_match
no_fields [] = refl
no_fields (f ∷ r) = refl

pub not_slip : (rule : RuleSide) (slip : Slip) → accepted_slip slip ≡ false → no_match ≡ match_of (counted_left rule) (counted_slip slip)
not_slip rule slip e = sym (ap (λ (b : Bool). match_of (counted_left rule) (cond b (view_slip slip) [])) e ∙ no_fields (counted_left rule))

-- "0 where [..] a side has no fields"
none_made : (b : Bool) → ◌≡◌ {A = ℕ} (0 + cond b 0 0) 0
none_made true = refl
none_made false = refl

pub no_left : (s : OurFields) → comparison [] s ≡ no_comparison
no_left s = ap (λ (n : ℕ). record { found = no_match; compared = n }) (none_made (eqb 0 (length (map constants s))))

pub no_slip : (r : OurFields) → comparison r [] ≡ no_comparison
no_slip [] = no_left []
no_slip (f ∷ r) = ap (λ (n : ℕ). record { found = no_match; compared = n }) (none_made (eqb (length (f ∷ r)) 0))

pub nothing_rule : (rule : RuleSide) (slip : Slip) → accepted_left rule ≡ false → no_comparison ≡ comparison (counted_left rule) (counted_slip slip)
nothing_rule rule slip e = sym (ap (λ (b : Bool). comparison (cond b (view_side rule) []) (counted_slip slip)) e ∙ no_left (counted_slip slip))

pub nothing_slip : (rule : RuleSide) (slip : Slip) → accepted_slip slip ≡ false → no_comparison ≡ comparison (counted_left rule) (counted_slip slip)
nothing_slip rule slip e = sym (ap (λ (b : Bool). comparison (counted_left rule) (cond b (view_slip slip) [])) e ∙ no_slip (counted_left rule))

-- ---- accepted values

-- the answer, where both have fields
pub with_fields : (r s : OurFields) → IsCons r → IsCons s → match_of r s ≡ found r (map constants s) (matcher r (map constants s))
with_fields (f ∷ r) (w ∷ s) i j = refl
with_fields (f ∷ r) [] i j = absurd j
with_fields [] s i j = absurd i

module _ (rule : RuleSide) (slip : Slip) (a : accepted_left rule ≡ true) (b : accepted_slip slip ≡ true) where
  abbrev fs : OurFields
  fs = view_side rule

  abbrev ws : SlipFields
  ws = map constants (view_slip slip)

  rule_fields : take rule.n rule.fields ≡ map encode_field fs
  rule_fields = ap (λ (r : RuleSide). take r.n r.fields) (sym (accepted_rule_lem rule a).1) ∙ fields_of_lem fs

  slip_fields_lem : take slip.n slip.fields ≡ map encode_items ws
  slip_fields_lem =
      ap (λ (s : Slip). take s.n s.fields) (sym (accepted_slip_lem slip b).1)
      ∙ slip_fields_of (view_slip slip)
      ∙ fields_again (view_slip slip) (accepted_slip_lem slip b).0.1

  rule_count_lem : rule.n ≡ length fs
  rule_count_lem = ap (λ (r : RuleSide). r.n) (sym (accepted_rule_lem rule a).1)

  slip_count : slip.n ≡ length ws
  slip_count = ap (λ (s : Slip). s.n) (sym (accepted_slip_lem slip b).1) ∙ sym (length-map (view_slip slip) constants)

  pub at_most_four : rule.n ≤ 4
  at_most_four = let h = ((rule_is fs).0 (accepted_rule_lem rule a).0).1.0 in omega (arith, rule_count_lem)

  terms_in_lem : All (All TermIn) fs
  terms_in_lem = all_map FieldIn (All TermIn) (λ f k. k.1) fs ((rule_is fs).0 (accepted_rule_lem rule a).0).1.1

  one_list : All OneList fs
  one_list = (left_linear fs (accepted_rule_lem rule a).0.1).1

  answer_is : comparison (counted_left rule) (counted_slip slip) ≡ record { found = found fs ws (matcher fs ws); compared = compared fs ws }
  answer_is =
      ap₂ (λ (x y : Bool). comparison (cond x fs []) (cond y (view_slip slip) [])) a b
      ∙ ap (λ (m : Match). record { found = m; compared = compared fs ws })
      (with_fields fs (view_slip slip) ((rule_is fs).0 (accepted_rule_lem rule a).0).0 ((slip_is (view_slip slip)).0 (accepted_slip_lem slip b).0).0)

  abbrev rule_values : List Field
  rule_values = take rule.n rule.fields

  abbrev slip_values : List SlipField
  slip_values = take slip.n slip.fields

  compares : comparison_on rule_values slip_values ≡ comparison (counted_left rule) (counted_slip slip)
  compares = ap₂ comparison_on rule_fields slip_fields_lem ∙ comparison_on_lem fs ws terms_in_lem one_list ∙ sym answer_is

  long_rule : length rule_values ≡ rule.n
  long_rule = ap length rule_fields ∙ length-map fs encode_field ∙ sym rule_count_lem

  long_slip : length slip_values ≡ slip.n
  long_slip = ap length slip_fields_lem ∙ length-map ws encode_items ∙ sym slip_count

  pub says_counts : slip.n ≢ rule.n → no_comparison ≡ comparison (counted_left rule) (counted_slip slip)
  says_counts n =
      sym (ap (λ (c : Bool). cond c (comparison_by rule_values slip_values) no_comparison)
      (ne_eqb (length rule_values) (length slip_values) (λ e. n (sym long_slip ∙ sym e ∙ long_rule))))
      ∙ compares

  pub says : slip.n ≡ rule.n → comparison_by rule_values slip_values ≡ comparison (counted_left rule) (counted_slip slip)
  says e =
      sym (ap (λ (c : Bool). cond c (comparison_by rule_values slip_values) no_comparison)
      (eq-eqb (length rule_values) (length slip_values) (long_rule ∙ sym e ∙ sym long_slip)))
      ∙ compares

pub ruleset compared_sides = (nothing_rule, nothing_slip, at_most_four, says_counts, says)
