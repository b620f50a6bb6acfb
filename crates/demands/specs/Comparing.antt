-- Document 02, E2, of matching that quits early: "It also returns how many slip items it compared, one for each atom reached, the failing
-- one included: 0 where the field counts differ or a side has no fields. No shop should see another yes, no or filling."
-- Over the definition that the contract cites, for a rule value v and a slip value w:
--     match_rules::compare_rule   answers `comparison (counted_rule v).0 (counted_slip w)`
use Rattle.std.specs.Prelude.{◌≡◌, refl, ◌↔◌, ◌≢◌, Bool, true, false, cond, [], map, ℕ, ◌≤◌, length}
use Rattle.std.proofs.Common.{sym, ◌∙◌, ap, subst, arith}
use Rattle.std.proofs.Math.Logic.Iff
use Rattle.std.proofs.Math.Option.{IsSome}
use Rattle.std.proofs.Math.Decide.{ℕ_discrete}
use Rattle.std.proofs.lemmas.List.{length-map}
use Rattle.base_lists.specs.Seqs.{All}
use Rattle.math_types.specs.Types.{basics}
use Rattle.math_terms.specs.Compared.{Passes, CountIs, all_atoms}
use Rattle.math_terms.proofs.Compared.{compared_exactly, compared_none, compared_yes, compared_most, yes_passes}
use Rattle.text_grammar.specs.Terms.{OurFields, terms_of, SlipFields}
use Rattle.text_grammar.specs.constants.Constants.{consts}
use Rattle.text_grammar.specs.Limits.{Linear}
use Rattle.text_grammar.specs.constants.Matching.{constants, matcher, tests, compared}
use Rattle.text_grammar.proofs.constants.Matching.{match_iff}
use Rattle.text_values.specs.declared.Rule.{Rule}
use Rattle.text_values.specs.Values.{Slip}
use Rattle.text_values.specs.Values.{view_side, view_rule, view_slip}
use Rattle.text_accepted.proofs.Accepted.{accepted_rule_lem}
use Rattle.text_accepted.specs.rules.Rules.{accepted_rule, counted_rule}
use Rattle.text_accepted.proofs.rules.Rules.{accepted_is}
use Rattle.text_accepted.specs.slips.Slips.{accepted_slip, counted_slip}
use Rattle.match_rules.specs.declared.Comparison.{Comparison}
use Rattle.match_rules.specs.Answers.{match_of, no_comparison, comparison}
use Rattle.match_rules.proofs.Accept.{no_left, no_slip}
use Rattle.demands.specs.Matching.{Matching, matching}

-- WHAT MATCHING THAT QUITS EARLY ANSWERS of a rule value v and a slip value w
pub record Comparing (v : Rule) (w : Slip) (c : Comparison) : Type 0 where
  -- "No shop should see another yes, no or filling": it is the old matching's answer, and so all that is said of that holds
  pub as_before : c.found ≡ match_of (counted_rule v).0 (counted_slip w)
  pub found : Matching v w c.found
  -- of values that reading returns: the count is k exactly when k atoms stand before or at the first test that fails, all of them where
  -- none fails; and the answer is yes exactly when none fails
  pub count : accepted_rule v ≡ true → accepted_slip w ≡ true
      → (k : ℕ) → (c.compared ≡ k) ↔ CountIs (tests (view_side v.left) (map constants (view_slip w))) k
  pub passing : accepted_rule v ≡ true → accepted_slip w ≡ true
      → (c.found.yes ≡ true) ↔ All Passes (tests (view_side v.left) (map constants (view_slip w)))
  -- a yes has compared as many items as the left side has atoms, and a no never more
  pub yes_all : accepted_rule v ≡ true → accepted_slip w ≡ true → c.found.yes ≡ true → c.compared ≡ all_atoms (terms_of (view_side v.left))
  pub at_most : accepted_rule v ≡ true → accepted_slip w ≡ true → c.compared ≤ all_atoms (terms_of (view_side v.left))
  -- "0 where the field counts differ or a side has no fields", and for a value that no reading returns
  pub counts_differ : length (counted_rule v).0 ≢ length (counted_slip w) → c.compared ≡ 0
  pub unread_rule : accepted_rule v ≡ false → c ≡ no_comparison
  pub unread_slip : accepted_slip w ≡ false → c ≡ no_comparison

module _ (v : Rule) (w : Slip) where
  abbrev answer : Comparison
  answer = comparison (counted_rule v).0 (counted_slip w)

  old : Matching v w answer.found
  old = matching v w answer.found refl

  -- accepted values
  module _ (accepted-v : accepted_rule v ≡ true) (accepted-w : accepted_slip w ≡ true) where
    abbrev rule : OurFields
    rule = view_side v.left

    abbrev slip : SlipFields
    slip = map constants (view_slip w)

    count_is : answer.compared ≡ compared rule slip
    count_is =
        ap (λ (b : Bool). compared (cond b (view_rule v) ([], [])).0 (map constants (counted_slip w))) accepted-v
        ∙ ap (λ (b : Bool). compared rule (map constants (cond b (view_slip w) []))) accepted-w

    linear : Linear rule
    linear = (accepted_rule_lem v.left ((accepted_is v).0 accepted-v).0).0.1

    yes_iff : (answer.found.yes ≡ true) ↔ IsSome (matcher rule slip)
    yes_iff = Iff.trans (old.on_terms accepted-v accepted-w) (match_iff rule linear slip)

    exactly : (k : ℕ) → (answer.compared ≡ k) ↔ CountIs (tests rule slip) k
    exactly k =
        let h = compared_exactly basics consts ℕ_discrete rule slip k in
        (λ e. h.0 (sym count_is ∙ e), λ q. count_is ∙ h.1 q)

    passes : (answer.found.yes ≡ true) ↔ All Passes (tests rule slip)
    passes = Iff.trans yes_iff (yes_passes basics consts ℕ_discrete rule slip)

    all_of : answer.found.yes ≡ true → answer.compared ≡ all_atoms (terms_of rule)
    all_of e = count_is ∙ compared_yes basics consts ℕ_discrete rule slip (yes_iff.0 e)

    most : answer.compared ≤ all_atoms (terms_of rule)
    most = omega (arith, count_is, compared_most basics consts ℕ_discrete rule slip)

  none_rule : accepted_rule v ≡ false → answer ≡ no_comparison
  none_rule e = ap (λ (b : Bool). comparison (cond b (view_rule v) ([], [])).0 (counted_slip w)) e ∙ no_left (counted_slip w)

  none_slip : accepted_slip w ≡ false → answer ≡ no_comparison
  none_slip e = ap (λ (b : Bool). comparison (counted_rule v).0 (cond b (view_slip w) [])) e ∙ no_slip (counted_rule v).0

  differ : length (counted_rule v).0 ≢ length (counted_slip w) → answer.compared ≡ 0
  differ n =
      compared_none basics consts ℕ_discrete (counted_rule v).0 (map constants (counted_slip w))
      (λ e. n (e ∙ length-map (counted_slip w) constants))

-- MATCHING THAT QUITS EARLY, of what the contract answers
pub comparing : (v : Rule) (w : Slip) (c : Comparison) → c ≡ comparison (counted_rule v).0 (counted_slip w) → Comparing v w c
comparing v w c is = subst (Comparing v w) (sym is) (record {
  as_before = refl;
  found = old v w;
  count = exactly v w;
  passing = passes v w;
  yes_all = all_of v w;
  at_most = most v w;
  counts_differ = differ v w;
  unread_rule = none_rule v w;
  unread_slip = none_slip v w;
})
