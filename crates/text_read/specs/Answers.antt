-- What the reading functions answer, in the documents' numbers and values.
use Rattle.std.specs.Prelude.{◌≡◌, List, [], ℕ, ◌≤◌, length, take, Ok, Err}
use Rattle.text_grammar.specs.Terms.{OurFields}
use Rattle.text_grammar.specs.Read.{OutcomeOf, Outcome, refused, accepted, read_side, read_slip}
use Rattle.text_grammar.specs.rules.Read.{OurRule, read_rule}
use Rattle.text_values.specs.Values.{blank_rule, blank_slip, encode_rule, encode_slip}
use Rattle.text_scan.specs.split.Splits.{split_of}
use Rattle.text_refusals.specs.verdicts.Verdicts.{Verdict, Accepted, Refused}
use Rattle.text_refusals.specs.verdicts.Verdicts.{reason_from, verdict_of}
use Rattle.text_read.specs.declared.RuleRead.{RuleRead}
use Rattle.text_read.specs.declared.SlipRead.{SlipRead}
use Rattle.text_read.specs.declared.LeftJudged.{LeftJudged}
use Rattle.text_read.specs.Sides.{end_of}

-- document 01: "A refusal returns its number, its place and the rule with no fields"
abbrev pub rule_read : OutcomeOf OurRule → RuleRead
rule_read (refused r p) = record { verdict = Refused (reason_from r) p; rule = blank_rule }
rule_read (accepted w) = record { verdict = Accepted; rule = encode_rule w }

-- "The slip with no fields is returned"
abbrev pub slip_read : Outcome → SlipRead
slip_read (refused r p) = record { verdict = Refused (reason_from r) p; slip = blank_slip }
slip_read (accepted x) = record { verdict = Accepted; slip = encode_slip x }

-- WHAT READING PROMISES of a text t and what is returned of it. `demands/specs/Texts` says what follows from it.
abbrev pub ReadsRule : List ℕ → RuleRead → Type 0
ReadsRule t r = r ≡ rule_read (read_rule t)

abbrev pub ReadsSlip : List ℕ → SlipRead → Type 0
ReadsSlip t r = r ≡ slip_read (read_slip t)

-- ---- a rule's left side alone

-- the fields that a side's text says, none where it is refused
abbrev pub side_said : Outcome → OurFields
side_said (refused r p) = []
side_said (accepted x) = x

-- the left side's fields of what a rule text says, none where it is refused
abbrev pub left_said : OutcomeOf OurRule → OurFields
left_said (refused r p) = []
left_said (accepted w) = w.0

-- how many bytes of a text are its left side's: those before the arrow, all of them without one; none of a text that is refused
abbrev pub left_end : Verdict → List ℕ → ℕ
left_end (Ok u) t = end_of (length t) (split_of t)
left_end (Err e) t = 0

-- how the whole text is read, and where its left side's text ends: what stands before that says the left side's fields
pub record JudgesLeft (t : List ℕ) (r : LeftJudged) : Type 0 where
  pub verdict : r.verdict ≡ verdict_of (read_rule t)
  pub ends : r.end ≡ left_end r.verdict t
  pub inside : r.end ≤ length t
  pub left : side_said (read_side (take r.end t)) ≡ left_said (read_rule t)
