-- What `texts` prints for one line: how the line is read as a rule, and how as a slip.
use Rattle.std.specs.Prelude.{List, ◌++◌, ℕ, ◌+◌}
use Rattle.base_limits.specs.Limits.{longest_rule}
use Rattle.text_grammar.specs.Read.{Reason, number, OutcomeOf, Outcome, refused, accepted, read_slip}
use Rattle.text_grammar.specs.rules.Read.{OurRule, read_rule}
use Rattle.text_grammar.specs.rules.Plain.{plain_both}
use Rattle.text_grammar.specs.Ascii.{ascii, newline}
use Rattle.text_write.specs.pieces.Refusals.{number_at}

abbrev pub refusal_text : Reason → ℕ → List ℕ
refusal_text r p = ascii "refused " ++ number_at (number r) p

-- a rule that is read is shown by "its one plain text", with both sides where it has two
abbrev pub rule_text : OutcomeOf OurRule → List ℕ
rule_text (refused r p) = refusal_text r p
rule_text (accepted w) = plain_both w

abbrev pub slip_text : Outcome → List ℕ
slip_text (refused r p) = refusal_text r p
slip_text (accepted x) = ascii "read"

unfoldable pub rule_answer : List ℕ → List ℕ
rule_answer t = ascii "rule " ++ rule_text (read_rule t) ++ newline

unfoldable pub slip_answer : List ℕ → List ℕ
slip_answer t = ascii "slip " ++ slip_text (read_slip t) ++ newline

-- THE ANSWER: two lines
unfoldable pub texts_answer : List ℕ → List ℕ
texts_answer t = rule_answer t ++ slip_answer t

-- `refused `, a number of two digits, ` at ` and a place of four
abbrev pub longest_refusal : ℕ
longest_refusal = 8 + 2 + 4 + 4

-- `rule ` and a rule, `slip ` and a refusal, each with the line's end: no answer has more
abbrev pub longest_answer : ℕ
longest_answer = 5 + longest_rule + 1 + 5 + longest_refusal + 1
