-- All refusals from 3 on in one pass: the first of them that some term meets, and the place of the first that meets it.
-- `survey_is` of proofs/Refusals says that this is the first refusal that applies, at its leftmost place.
use Rattle.std.specs.Prelude.{Bool, true, false, cond, not, ◌||◌, ℕ, eqb, ltb}
use Rattle.math_types.specs.Types.{is_list}
use Rattle.base_limits.specs.Limits.{most_fields, most_digits, longest_string, largest_number}
use Rattle.math_types.specs.Values.{kind_of}
use Rattle.text_grammar.specs.constants.Constants.{limit}
use Rattle.text_grammar.specs.Tokens.{Token}
use Rattle.text_accepted.specs.declared.linearity.Lists.{Lists}
use Rattle.text_accepted.specs.linearity.Lists.{no_lists, next_field, still_ok, add_list}
use Rattle.text_scan.specs.declared.Lexeme.{Lexeme}
use Rattle.text_scan.specs.declared.Literal.{Literal}
use Rattle.text_scan.specs.declared.Literal.TheVariants.{Int, Str}
use Rattle.text_scan.specs.declared.Spelled.{Spelled}
use Rattle.text_scan.specs.declared.Spelled.TheVariants.{Con, Var, Empty}
use Rattle.text_scan.specs.Lexemes.{lexeme_of}
use Rattle.text_refusals.specs.declared.verdicts.Reason.{Reason}
use Rattle.text_refusals.specs.declared.verdicts.Reason.TheVariants.{Fields, Terms, Limits, Linear, Variable}
use Rattle.text_refusals.specs.verdicts.Verdicts.{Verdict, Accepted, Refused}
use Rattle.text_refusals.specs.verdicts.Verdicts.{first_of}
use Rattle.text_refusals.specs.declared.Sort.{Sort}
use Rattle.text_refusals.specs.declared.Sort.TheVariants.{Rule, Slip}
use Rattle.text_refusals.specs.declared.At.{At}
use Rattle.text_refusals.specs.declared.Survey.{Survey}

-- refusal 5
abbrev pub over_literal : Literal → ℕ → ℕ → Bool
over_literal (Int m) n v = ltb most_digits n || ltb (limit m) v
over_literal Str n v = ltb longest_string n

abbrev pub over_by : Spelled → ℕ → ℕ → Bool
over_by (Con l) n v = over_literal l n v
over_by (Var k) n v = ltb largest_number v
over_by Empty n v = false

abbrev pub over_lexeme : Lexeme → Bool
over_lexeme p = over_by p.what p.size p.value

-- refusal 6: a list variable with which left-linearity is lost
abbrev pub clash_by : Spelled → ℕ → Lists → Bool
clash_by (Con x) v l = false
clash_by (Var k) v l = cond (is_list (kind_of k)) (not (still_ok l v)) false
clash_by Empty v l = false

-- refusal 7: a variable
abbrev pub variable_by : Spelled → Bool
variable_by (Con x) = false
variable_by (Var k) = true
variable_by Empty = false

-- the refusal that is tried last: of a slip 7, of a rule 6
abbrev pub last_bad : Sort → Lexeme → Lists → Bool
last_bad Slip p l = variable_by p.what
last_bad Rule p l = clash_by p.what p.value l

abbrev pub last_reason : Sort → Reason
last_reason Slip = Variable
last_reason Rule = Linear

-- the first refusal that a term meets, at its place
abbrev pub met : Sort → ℕ → At → Lexeme → Lists → Verdict
met s w a p l =
    cond (ltb most_fields a.field) (Refused Fields a.place)
    (cond (ltb w a.index) (Refused Terms a.place)
    (cond (over_lexeme p) (Refused Limits a.place) (cond (last_bad s p l) (Refused (last_reason s) a.place) Accepted)))

-- the list variables with this term
abbrev pub add_by : Spelled → ℕ → Lists → Lists
add_by (Con x) v l = l
add_by (Var k) v l = cond (is_list (kind_of k)) (add_list l v) l
add_by Empty v l = l

-- the list variables where a field begins
abbrev pub lists_at : At → Lists → Lists
lists_at a l = cond (eqb a.index 1) (next_field l) l

-- the survey with one term more
abbrev pub surveyed : Sort → ℕ → Survey → At → Lexeme → Survey
surveyed sort w s a p =
    let l = lists_at a s.lists in
    record { verdict = first_of s.verdict (met sort w a p l); lists = add_by p.what p.value l }

abbrev pub at_of : Token → At
at_of m = record { place = m.place; field = m.in_field; index = m.index }

abbrev pub survey_token : Sort → ℕ → Survey → Token → Survey
survey_token sort w s m = surveyed sort w s (at_of m) (lexeme_of m.raw)

-- before the first term
abbrev pub nothing_yet : Survey
nothing_yet = record { verdict = Accepted; lists = no_lists }
