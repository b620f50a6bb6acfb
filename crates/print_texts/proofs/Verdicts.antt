-- What the reading functions answer says the same as what is read. Assumes nothing.
use mathlib.Core.Path.{◌≡◌, refl, sym, ap, ◌∙◌}
use mathlib.Core.List.{List, ◌++◌}
use Prim.Native.Nat.{ℕ}
use Rattle.text_grammar.specs.Read as read
use Rattle.text_grammar.specs.Read.{OutcomeOf, Outcome, refused, accepted, read_slip}
use Rattle.text_grammar.specs.rules.Read.{OurRule, read_rule}
use Rattle.text_grammar.specs.rules.Plain.{plain_both}
use Rattle.text_grammar.proofs.rules.Accepted.{rule_read_lem}
use Rattle.text_accepted.proofs.rules.Rules.{view_encode_rule}
use Rattle.text_refusals.specs.declared.verdicts.Reason.{Reason}
use Rattle.text_refusals.specs.verdicts.Verdicts.{Verdict, Accepted, Refused}
use Rattle.text_read.specs.declared.RuleRead.{RuleRead}
use Rattle.text_read.specs.declared.SlipRead.{SlipRead}
use Rattle.text_refusals.specs.verdicts.Verdicts.{reason_from}
use Rattle.text_read.specs.Answers.{rule_read, slip_read}
use Rattle.text_refusals.proofs.verdicts.Verdicts.{number_is}
use Rattle.text_grammar.specs.Ascii.{ascii, newline}
use Rattle.print_texts.specs.Texts.{refusal_text, rule_text, slip_text, rule_answer, slip_answer}
use Rattle.print_texts.specs.Verdicts.{refused_text, verdict_text, rule_said}

-- ---- a verdict's text, by the verdict

module _ (v : Verdict) (t : List ℕ) where
  pub text_accepted : v ≡ Accepted → verdict_text v t ≡ t
  text_accepted e = rw e

  pub text_refused : (r : Reason) (p : ℕ) → v ≡ Refused r p → verdict_text v t ≡ refused_text r p
  text_refused r p e = rw e

-- ---- a refusal

refused_is : (r : read.Reason) (p : ℕ) → refused_text (reason_from r) p ≡ refusal_text r p
refused_is r p = rw number_is

-- ---- what is read of a text

-- the value that is returned is the one of the rule, so its plain text is the rule's
rule_said_lem : (t : List ℕ) → rule_said (rule_read (read_rule t)) ≡ rule_text (read_rule t)
rule_said_lem t = go (read_rule t) refl
  where
    go : (o : OutcomeOf OurRule) → read_rule t ≡ o → rule_said (rule_read o) ≡ rule_text o
    go (refused r p) e = refused_is r p
    go (accepted w) e = ap plain_both (view_encode_rule w (rule_read_lem t w e))

slip_said : (t : List ℕ) → verdict_text (slip_read (read_slip t)).verdict (ascii "read") ≡ slip_text (read_slip t)
slip_said t = go (read_slip t)
  where
    go : (o : Outcome) → verdict_text (slip_read o).verdict (ascii "read") ≡ slip_text o
    go (refused r p) = refused_is r p
    go (accepted x) = refl

-- ---- an answer's pieces, by the value that is returned

pub rule_pieces : (t : List ℕ) (r : RuleRead) → r ≡ rule_read (read_rule t) → rule_answer t ≡ ascii "rule " ++ rule_said r ++ newline
unfolding rule_answer
rule_pieces t r e = ap (λ (s : List ℕ). ascii "rule " ++ s ++ newline) (sym (ap rule_said e ∙ rule_said_lem t))

pub slip_pieces : (t : List ℕ) (r : SlipRead) → r ≡ slip_read (read_slip t) → slip_answer t ≡ ascii "slip " ++ verdict_text r.verdict (ascii "read") ++ newline
unfolding slip_answer
slip_pieces t r e = ap (λ (s : List ℕ). ascii "slip " ++ s ++ newline) (sym (ap (λ (q : SlipRead). verdict_text q.verdict (ascii "read")) e ∙ slip_said t))
