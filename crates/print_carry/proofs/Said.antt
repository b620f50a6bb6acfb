-- What is said of the values that reading and carrying out answer is what is said of the rule and the slip. Assumes nothing.
use mathlib.Core.Path.{◌≡◌, refl, sym, ap, ap₂, ◌∙◌}
use mathlib.Core.Bool.{Bool, cond}
use mathlib.Core.List.{List, ◌++◌, map}
use Prim.Native.Nat.{ℕ, suc, ◌+◌, ◌-◌, ◌≤◌, min}
use native.Mathlib.Decide.{dec_lt}
use borrow.Author.Tests.{le-ltb}
use lib.ListN.{length, take, drop}
use Rattle.print_parts.proofs.Lines.{behind_tab}
use Rattle.base_bytes.specs.Bytes.{index_of}
use Rattle.base_limits.specs.Limits.{slip_line}
use Rattle.math_terms.specs.Terms.{con}
use Rattle.text_grammar.specs.Ascii.{ascii}
use Rattle.text_grammar.specs.Plain.{plain}
use Rattle.text_grammar.specs.Limits.{IsSlip}
use Rattle.text_grammar.specs.Terms.{OurFields, SlipFields}
use Rattle.text_grammar.specs.Read.{OutcomeOf, Outcome, refused, accepted, read_slip}
use Rattle.text_grammar.proofs.Accepted.{slip_read_lem}
use Rattle.text_grammar.specs.rules.Read.{OurRule, read_rule}
use Rattle.text_grammar.specs.rules.Limits.{IsRule}
use Rattle.text_grammar.proofs.rules.Accepted.{rule_read_lem}
use Rattle.text_grammar.specs.constants.Matching.{constants}
use Rattle.apply_spec.specs.Carrying.{Carried, result, unmatched, too_long}
use Rattle.apply_spec.specs.Rules.{carried}
use Rattle.text_values.specs.Values.{encode_rule, encode_slip}
use Rattle.text_accepted.proofs.rules.Rules.{counted_encode}
use Rattle.text_accepted.proofs.slips.Slips.{view_encode_slip, counted_slip_lem}
use Rattle.apply_rules.specs.Answers.{answer_of, carried_of}
use Rattle.apply_rules.proofs.Carries.{result_slip}
use Rattle.text_read.specs.declared.RuleRead.{RuleRead}
use Rattle.text_read.specs.declared.SlipRead.{SlipRead}
use Rattle.text_read.specs.Answers.{rule_read, slip_read}
use Rattle.text_refusals.proofs.verdicts.Verdicts.{number_is}
use Rattle.text_write.specs.pieces.Refusals.{number_at}
use Rattle.print_carry.specs.Carry.{rule_part, slip_part, carried_text, carry_text, line_text}
use Rattle.print_carry.specs.Values.{said_carried, said_reads}

-- ---- the answer

module _ (x : OurRule) (y : OurFields) (is_rule : IsRule x) (is_slip : IsSlip y) where
  carried_said_lem : said_carried (carried_of (encode_rule x) (encode_slip y)) ≡ carried_text y (carried x (map constants y))
  unfolding dec_lt
  carried_said_lem =
      ap₂ (λ (r : OurRule) (s : OurFields). said_carried (answer_of (encode_slip y) (carried r (map constants s)))) (counted_encode x is_rule)
      (counted_slip_lem y is_slip)
      ∙ go (carried x (map constants y)) refl
    where
      go : (a : Carried SlipFields) → carried x (map constants y) ≡ a → said_carried (answer_of (encode_slip y) a) ≡ carried_text y a
      go (result u) e = ap (λ (s : OurFields). ascii "yes " ++ plain s) (view_encode_slip (map (map con) u) (result_slip x y is_rule is_slip u e))
      go unmatched e = ap (λ (s : OurFields). ascii "no " ++ plain s) (view_encode_slip y is_slip)
      go too_long e = ap (λ (s : OurFields). ascii "refusal 11 " ++ plain s) (view_encode_slip y is_slip)

pub reads_said : (t u : List ℕ) → said_reads (rule_read (read_rule t)) (slip_read (read_slip u)) ≡ carry_text (read_rule t) (read_slip u)
reads_said t u = go (read_rule t) (read_slip u) refl refl
  where
    go : (o : OutcomeOf OurRule) (p : Outcome) → read_rule t ≡ o → read_slip u ≡ p → said_reads (rule_read o) (slip_read p) ≡ carry_text o p
    go (refused r i) p e f = ap (λ (n : ℕ). ascii "refused rule " ++ number_at n i) (number_is r)
    go (accepted x) (refused r i) e f = ap (λ (n : ℕ). ascii "refused slip " ++ number_at n i) (number_is r)
    go (accepted x) (accepted y) e f = carried_said_lem x y (rule_read_lem t x e) (slip_read_lem u y f)

-- ---- a line

module _ (t : List ℕ) (tab rest : ℕ) (is-tab : tab ≡ index_of 9 t) (is-rest : rest ≡ min (tab + 1) (length t)) where
  -- what is lent from the place behind the tab on
  slip_part_lem : take (length t - rest) (drop rest t) ≡ slip_part t
  slip_part_lem = behind_tab t tab rest is-rest ∙ ap (λ (i : ℕ). drop (suc i) t) is-tab

  pub line_said : (r : RuleRead) (s : SlipRead)
      → length t ≤ slip_line
      → r ≡ rule_read (read_rule (take tab t))
      → s ≡ slip_read (read_slip (take (length t - rest) (drop rest t)))
      → line_text t ≡ said_reads r s
  unfolding line_text
  line_said r s h is-r is-s =
      ap (λ (b : Bool). cond b (ascii "line too long") (carry_text (read_rule (rule_part t)) (read_slip (slip_part t)))) (le-ltb slip_line (length t) h)
      ∙ sym (reads_said (rule_part t) (slip_part t))
      ∙ ap₂ said_reads (sym (is-r ∙ ap (λ (i : ℕ). rule_read (read_rule (take i t))) is-tab)) (sym (is-s ∙ ap (λ (u : List ℕ). slip_read (read_slip u)) slip_part_lem))
