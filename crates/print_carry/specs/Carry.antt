-- What `carry` prints for one line, which has a rule and a slip with a tab between them: what carrying out the rule on the slip answers.
use Rattle.std.specs.Prelude.{cond, List, [], ◌++◌, map, ℕ, suc, ◌+◌, ltb, length, take, drop}
use Rattle.std.proofs.Math.Option.{Option, none, some}
use Rattle.base_bytes.specs.Bytes.{index_of}
use Rattle.base_limits.specs.Limits.{longest_slip, slip_line}
use Rattle.math_terms.specs.Terms.{con}
use Rattle.text_grammar.specs.Ascii.{ascii, newline}
use Rattle.text_grammar.specs.Numbers.{digits_of}
use Rattle.text_grammar.specs.Plain.{plain}
use Rattle.text_grammar.specs.Terms.{OurFields, SlipFields}
use Rattle.text_grammar.specs.Read.{number, OutcomeOf, Outcome, refused, accepted, read_slip}
use Rattle.text_grammar.specs.rules.Read.{OurRule, read_rule}
use Rattle.text_grammar.specs.constants.Matching.{constants}
use Rattle.apply_spec.specs.Carrying.{Carried, result, unmatched, too_long}
use Rattle.apply_spec.specs.Rules.{carried}
use Rattle.apply_rules.specs.declared.Carry.TheVariants.{TooLong}
use Rattle.apply_rules.specs.Answers.{told}
use Rattle.text_write.specs.Sizes.{longest_number}
use Rattle.text_write.specs.pieces.Refusals.{number_at}

-- ---- a line

-- byte 9
abbrev pub tab : ℕ
tab = 9

-- the first tab divides; without one the slip is empty
abbrev pub rule_part : List ℕ → List ℕ
rule_part t = take (index_of tab t) t

abbrev pub slip_part : List ℕ → List ℕ
slip_part t = drop (suc (index_of tab t)) t

-- ---- the answer

-- a refusal of carrying out by its number
abbrev pub refusal_text : Option ℕ → List ℕ
refusal_text none = []
refusal_text (some n) = ascii "refusal " ++ digits_of n ++ ascii " "

-- document 02: "Carrying out a rule on a slip it matches gives the right side with the filling put in; on a slip it doesn't match, or
-- without a right side, the slip unchanged and a no", and refusal 11 "leaves the slip as given"; each slip in plain text
abbrev pub carried_text : OurFields → Carried SlipFields → List ℕ
carried_text slip (result w) = ascii "yes " ++ plain (map (map con) w)
carried_text slip unmatched = ascii "no " ++ plain slip
carried_text slip too_long = refusal_text (told TooLong).number ++ plain slip

-- the rule's refusal goes before the slip's
abbrev pub carry_text : OutcomeOf OurRule → Outcome → List ℕ
carry_text (refused r p) o = ascii "refused rule " ++ number_at (number r) p
carry_text (accepted rule) (refused r p) = ascii "refused slip " ++ number_at (number r) p
carry_text (accepted rule) (accepted slip) = carried_text slip (carried rule (map constants slip))

unfoldable pub line_text : List ℕ → List ℕ
line_text t = cond (ltb slip_line (length t)) (ascii "line too long") (carry_text (read_rule (rule_part t)) (read_slip (slip_part t)))

abbrev pub title_text : ℕ → List ℕ
title_text k = ascii "carry " ++ digits_of k ++ newline

-- THE ANSWER to line number k: two lines
unfoldable pub carry_answer : ℕ → List ℕ → List ℕ
carry_answer k t = title_text k ++ line_text t ++ newline

-- `refusal 11 ` and a slip: of no line is more said
abbrev pub longest_said : ℕ
longest_said = 8 + 2 + 1 + longest_slip

-- a title, what is said, the line's end: no answer has more
abbrev pub longest_title : ℕ
longest_title = 6 + longest_number + 1

abbrev pub longest_answer : ℕ
longest_answer = longest_title + longest_said + 1
