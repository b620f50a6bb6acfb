-- The answers of carrying out, from the tests that code makes: those of the definition. Assumes nothing.
use mathlib.Core.Path.{◌≡◌, refl, sym, ap, ap₂, ◌∙◌, subst}
use mathlib.Core.Logic.{if_pos, if_neg}
use mathlib.Core.Bool.{Bool, true, false, cond, false≢true}
use mathlib.Core.Option.{Option, none, some}
use Rattle.std.specs.Prelude.{Option as OptionValue, Some, None}
use mathlib.Core.List.{[], ◌∷◌, map}
use Prim.Native.Nat.{ℕ}
use borrow.Author.Tests.{le-leb, leb-true}
use lib.Dec.{eqb, leb}
use lib.ListN.{length, take}
use Rattle.base_limits.specs.Limits.{most_items}
use Rattle.base_lists.specs.Seqs.{IsCons}
use Rattle.base_lists.specs.Truths.{both_is}
use Rattle.math_types.specs.Types.{Kind, basics}
use Rattle.math_terms.specs.Terms.{con}
use Rattle.math_terms.specs.Fillings.{Filling, fill}
use Rattle.math_terms.specs.Matcher.{complete}
use Rattle.text_grammar.specs.Terms.{OurFields, SlipFields}
use Rattle.text_grammar.specs.constants.Constants.{Con, consts}
use Rattle.text_grammar.specs.constants.Matching.{constants, matcher}
use Rattle.text_grammar.specs.rules.Read.{OurRule}
use Rattle.text_grammar.specs.rules.Limits.{IsRule}
use Rattle.apply_spec.specs.Carrying.{Short, short?, result, unmatched, too_long, limited}
use Rattle.apply_spec.specs.Rules.{carried}
use Rattle.text_values.specs.declared.Rule.{Rule}
use Rattle.text_values.specs.Values.{RuleSide, Slip}
use Rattle.text_values.specs.Values.{view_field, view_side, view_rule, view_slip, encode_side, encode_slip}
use Rattle.text_accepted.specs.Accepted.{counted_left}
use Rattle.text_accepted.proofs.Accepted.{rule_is}
use Rattle.text_accepted.specs.rules.Rules.{accepted_rule}
use Rattle.text_accepted.proofs.rules.Rules.{accepted_is, accepted_rule_lem, counted_yes, counted_no}
use Rattle.text_accepted.specs.slips.Slips.{accepted_slip, counted_slip}
use Rattle.text_accepted.proofs.slips.Slips.{accepted_slip_lem, counted_accepted}
use Rattle.match_fields.specs.declared.bindings.Filling.{Filling as FillingValue}
use Rattle.match_rules.specs.declared.Match.{Match}
use Rattle.match_rules.specs.Answers.{encode_values, runs_of, found, match_of}
use Rattle.apply_rules.specs.filling.Filled.{all_short, filled_side}
use Rattle.apply_rules.proofs.filling.Fills.{filled_with}
use Rattle.apply_rules.specs.declared.Carry.TheVariants.{Yes, No, TooLong}
use Rattle.apply_rules.specs.declared.Carried.{Carried as CarriedValue}
use Rattle.apply_rules.specs.Answers.{answer_of, carried_of}
use Rattle.apply_rules.proofs.Gives.{filled}

-- ---- the limit

short_true : (w : SlipFields) → Short most_items w → all_short w ≡ true
short_true [] h = refl
short_true (f ∷ w) h = (both_is (leb (length f) most_items) (all_short w)).1 (le-leb (length f) most_items h.0, short_true w h.1)

true_short : (w : SlipFields) → all_short w ≡ true → Short most_items w
true_short [] e = tt
true_short (f ∷ w) e = let b = (both_is (leb (length f) most_items) (all_short w)).0 e in (leb-true (length f) most_items b.0, true_short w b.1)

-- the answer by what was filled in
abbrev by_filled : Slip → OptionValue Slip → CarriedValue
by_filled s None = record { answer = TooLong; slip = s }
by_filled s (Some w) = record { answer = Yes; slip = w }

limited_filled : (s : Slip) (w : SlipFields) → by_filled s (filled_with w) ≡ answer_of s (limited most_items w)
limited_filled s w = go (all_short w) refl
  where
    go : (b : Bool) → all_short w ≡ b
        → by_filled s (cond b (Some (encode_slip (map (map con) w))) None)
        ≡ answer_of s (limited most_items w)
    go true e = sym (ap (answer_of s) (if_pos (short? most_items w) (true_short w e) (result w) too_long))
    go false e = sym (ap (answer_of s) (if_neg (short? most_items w) (λ h. false≢true (sym e ∙ short_true w h)) (result w) too_long))

-- ---- matching

none_either : (b : Bool) → ◌≡◌ {A = Option (Filling Con Kind ℕ)} (cond b none none) none
none_either true = refl
none_either false = refl

-- no rule matches a slip with no fields
pub none_matches : (x : OurFields) → IsCons x → matcher x [] ≡ none
none_matches [] i = absurd i
none_matches (f ∷ x) i = none_either (eqb (length (f ∷ x)) 0)

match_none : (x w : OurFields) → IsCons x → (match_of x w).yes ≡ false → matcher x (map constants w) ≡ none
match_none [] w i e = absurd i
match_none (f ∷ x) [] i e = none_matches (f ∷ x) i
match_none (f ∷ x) (v ∷ w) i e = go (matcher (f ∷ x) (map constants (v ∷ w))) e
  where
    go : (m : Option (Filling Con Kind ℕ)) → (found (f ∷ x) (map constants (v ∷ w)) m).yes ≡ false → m ≡ none
    go none q = refl
    go (some φ) q = absurd (false≢true (sym q))

abbrev Found : OurFields → OurFields → FillingValue → Type 0
Found x w v = (φ : Filling Con Kind ℕ) × (matcher x (map constants w) ≡ some φ) × (v ≡ record { values = encode_values φ; runs = runs_of x (map constants w) })

match_some : (x w : OurFields) → (match_of x w).yes ≡ true → IsCons w × Found x w (match_of x w).filling
match_some [] w e = absurd (false≢true e)
match_some (f ∷ x) [] e = absurd (false≢true e)
match_some (f ∷ x) (v ∷ w) e = (tt, go (matcher (f ∷ x) (map constants (v ∷ w))) refl e)
  where
    go : (m : Option (Filling Con Kind ℕ)) → matcher (f ∷ x) (map constants (v ∷ w)) ≡ m → (found (f ∷ x) (map constants (v ∷ w)) m).yes ≡ true
        → Found (f ∷ x) (v ∷ w) (found (f ∷ x) (map constants (v ∷ w)) m).filling
    go none is q = absurd (false≢true q)
    go (some φ) is q = (φ, is, refl)

-- a slip that has fields is one that reading returns
slip_read_lem : (s : Slip) → IsCons (counted_slip s) → accepted_slip s ≡ true
slip_read_lem s i = go (accepted_slip s) i
  where
    go : (b : Bool) → IsCons (cond b (view_slip s) []) → b ≡ true
    go true i = refl
    go false i = absurd i

-- ---- the answers

module _ (r : Rule) (s : Slip) where
  abbrev x : OurFields
  x = view_side r.left

  abbrev y : OurFields
  y = view_side r.right

  abbrev no : CarriedValue
  no = record { answer = No; slip = s }

  pub not_rule : accepted_rule r ≡ false → no ≡ carried_of r s
  not_rule e = sym (ap (λ (v : OurRule). answer_of s (carried v (map constants (counted_slip s)))) (counted_no r e))

  module _ (a : accepted_rule r ≡ true) where
    is_rule : IsRule (view_rule r)
    is_rule = (accepted_rule_lem r a).0

    has_left : IsCons x
    has_left = ((rule_is x).0 is_rule.0).0

    right_is : encode_side y ≡ r.right
    right_is = ap (λ (v : Rule). v.right) (accepted_rule_lem r a).1

    left_counted : counted_left r.left ≡ x
    left_counted = ap (λ (b : Bool). cond b x []) ((accepted_is r).0 a).0

    counted : carried_of r s ≡ answer_of s (carried (x, y) (map constants (counted_slip s)))
    counted = ap (λ (v : OurRule). answer_of s (carried v (map constants (counted_slip s)))) (counted_yes r a)

    pub no_right : r.right.n ≡ 0 → no ≡ carried_of r s
    no_right e = sym (counted ∙ ap (λ (m : ℕ). answer_of s (carried (x, map view_field (take m r.right.fields)) (map constants (counted_slip s)))) e)

    module _ (n : r.right.n ≡ 0 → ⊥) where
      has_right : IsCons y
      has_right = go y (ap (λ (v : RuleSide). v.n) right_is)
        where
          go : (l : OurFields) → length l ≡ r.right.n → IsCons l
          go [] e = absurd (n (sym e))
          go (f ∷ l) e = tt

      -- where there is a right side
      by_match : (l : OurFields) (w : SlipFields) → IsCons l → matcher x w ≡ none → carried (x, l) w ≡ unmatched
      by_match [] w i e = absurd i
      by_match (g ∷ l) w i e = rw e

      by_filling : (l : OurFields) (w : SlipFields) (φ : Filling Con Kind ℕ) → IsCons l → matcher x w ≡ some φ
          → carried (x, l) w ≡ limited most_items (map (fill (complete basics consts φ)) l)
      by_filling [] w φ i e = absurd i
      by_filling (g ∷ l) w φ i e = rw e

      module _ (m : Match) (is_m : m ≡ match_of (counted_left r.left) (counted_slip s)) where
        m_is : m ≡ match_of x (counted_slip s)
        m_is = is_m ∙ ap (λ (l : OurFields). match_of l (counted_slip s)) left_counted

        pub no_match_lem : m.yes ≡ false → no ≡ carried_of r s
        no_match_lem e =
            let h = match_none x (counted_slip s) has_left (sym (ap (λ (a : Match). a.yes) m_is) ∙ e) in
            sym (counted ∙ ap (answer_of s) (by_match y (map constants (counted_slip s)) has_right h))

        module _ (e : m.yes ≡ true) (f : OptionValue Slip) (is_f : f ≡ filled_side r.right m.filling s) where
          matched : IsCons (counted_slip s) × Found x (counted_slip s) (match_of x (counted_slip s)).filling
          matched = match_some x (counted_slip s) (sym (ap (λ (a : Match). a.yes) m_is) ∙ e)

          read : accepted_slip s ≡ true
          read = slip_read_lem s matched.0

          slip_counted : counted_slip s ≡ view_slip s
          slip_counted = counted_accepted s read

          the_filling : Found x (view_slip s) m.filling
          the_filling =
              subst (λ (v : FillingValue). Found x (view_slip s) v) (sym (ap (λ (a : Match). a.filling) m_is))
              (subst (λ (w : OurFields). Found x w (match_of x (counted_slip s)).filling) slip_counted matched.1)

          both : by_filled s f ≡ carried_of r s
          both =
              let h = the_filling in
              let i = accepted_slip_lem s read in
              ap (by_filled s) (is_f
              ∙ ap₂ (λ (v : RuleSide) (w : Slip). filled_side v m.filling w) (sym right_is) (sym i.1)
              ∙ ap (λ (v : FillingValue). filled_side (encode_side y) v (encode_slip (view_slip s))) h.2
              ∙ filled x (view_slip s) is_rule.0 i.0 h.0 h.1 y is_rule.2)
              ∙ limited_filled s (map (fill (complete basics consts h.0)) y)
              ∙ ap (answer_of s) (sym (by_filling y (map constants (view_slip s)) h.0 has_right h.1))
              ∙ ap (λ (w : OurFields). answer_of s (carried (x, y) (map constants w))) (sym slip_counted)
              ∙ sym counted

          pub too_long_lem : f ≡ None → record { answer = TooLong; slip = s } ≡ carried_of r s
          too_long_lem q = sym (ap (by_filled s) q) ∙ both

          pub carried_out : (w : Slip) → f ≡ Some w → record { answer = Yes; slip = w } ≡ carried_of r s
          carried_out w q = sym (ap (by_filled s) q) ∙ both
