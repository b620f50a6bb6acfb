-- What `matches` prints for one line, which has a rule and a slip with a tab between them: how the rule matches the slip.
use Rattle.std.specs.Prelude.{cond, List, ◌++◌, map, ℕ, suc, ◌+◌, ◌*◌, ltb, length, take, drop}
use Rattle.std.proofs.Math.Option.{Option, none, some}
use Rattle.base_bytes.specs.Bytes.{index_of}
use Rattle.base_limits.specs.Limits.{numbers_of_side, atom_places, longest_term, longest_slip_field, slip_line}
use Rattle.math_types.specs.Types.{Kind}
use Rattle.math_terms.specs.Terms.{con, var}
use Rattle.math_terms.specs.Seqs.{concat_map}
use Rattle.math_terms.specs.Fillings.{Filling}
use Rattle.text_grammar.specs.Terms.{OurFields, terms_of}
use Rattle.text_grammar.specs.constants.Constants.{Con}
use Rattle.text_grammar.specs.Numbers.{digits_of}
use Rattle.text_grammar.specs.Plain.{term_text, field_text}
use Rattle.text_grammar.specs.Read.{number, OutcomeOf, Outcome, refused, accepted, read_slip}
use Rattle.text_grammar.specs.rules.Read.{OurRule, read_rule}
use Rattle.text_grammar.specs.constants.Matching.{constants, matcher, compared}
use Rattle.overlap_spec.specs.Variables.{Variable, variables}
use Rattle.text_grammar.specs.Ascii.{ascii, newline}
use Rattle.text_write.specs.Sizes.{longest_number}
use Rattle.text_write.specs.pieces.Refusals.{number_at}

-- ---- a line

-- byte 9
abbrev pub tab : ℕ
tab = 9

-- the first tab divides; without one the slip is empty
abbrev pub rule_part : List ℕ → List ℕ
rule_part t = take (index_of tab t) t

abbrev pub slip_part : List ℕ → List ℕ
slip_part t = drop (suc (index_of tab t)) t

-- ---- the answer

-- a blank, the variable's name, `=`, its value as a field's text
abbrev pub value_text : Filling Con Kind ℕ → Variable → List ℕ
value_text φ v = ascii " " ++ term_text (var v.0 v.1) ++ ascii "=" ++ field_text (map con (φ v.0 v.1))

-- `no` or `yes` and how many of the slip's items were compared; behind a `yes` the value of each of the rule's variables, in the order
-- i, s, a, l and then by number
abbrev pub found_text : OurFields → ℕ → Option (Filling Con Kind ℕ) → List ℕ
found_text rule k none = ascii "no " ++ digits_of k
found_text rule k (some φ) = ascii "yes " ++ digits_of k ++ concat_map (value_text φ) (variables (terms_of rule))

-- the rule's left side against the slip
abbrev pub match_text : OurFields → OurFields → List ℕ
match_text rule slip = found_text rule (compared rule (map constants slip)) (matcher rule (map constants slip))

-- the rule's refusal goes before the slip's; a rule matches by its left side, whatever its right side
abbrev pub read_text : OutcomeOf OurRule → Outcome → List ℕ
read_text (refused r p) o = ascii "refused rule " ++ number_at (number r) p
read_text (accepted rule) (refused r p) = ascii "refused slip " ++ number_at (number r) p
read_text (accepted rule) (accepted slip) = match_text rule.0 slip

-- a rule's text and a slip's
unfoldable pub texts_text : List ℕ → List ℕ → List ℕ
texts_text t u = read_text (read_rule t) (read_slip u)

unfoldable pub line_text : List ℕ → List ℕ
line_text t = cond (ltb slip_line (length t)) (ascii "line too long") (texts_text (rule_part t) (slip_part t))

abbrev pub title_text : ℕ → List ℕ
title_text k = ascii "match " ++ digits_of k ++ newline

-- THE ANSWER to line number k: two lines
unfoldable pub match_answer : ℕ → List ℕ → List ℕ
match_answer k t = title_text k ++ line_text t ++ newline

-- a value behind a blank, a name of at most three bytes and `=`: a term, or a part of a slip's field
abbrev pub longest_values : ℕ
longest_values = atom_places * (5 + longest_term) + numbers_of_side * (5 + longest_slip_field)

-- `yes `, a count of at most two digits, and the values: of no line is more said
abbrev pub longest_said : ℕ
longest_said = 4 + 2 + longest_values

-- a title, what is said, the line's end: no answer has more
abbrev pub longest_title : ℕ
longest_title = 6 + longest_number + 1

abbrev pub longest_answer : ℕ
longest_answer = longest_title + longest_said + 1
