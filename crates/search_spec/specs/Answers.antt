-- THE SEARCH for two of document 01's fields: its lines, and their bytes.
use Rattle.std.specs.Prelude.{◌≡◌, ℕ, drop}
use mathlib.Core.List.{List, [], ◌∷◌, ◌++◌, map, Memᴰ}
use Rattle.std.proofs.Math.Decide.{ℕ_discrete}
use Rattle.base_lists.specs.Seqs.{All}
use Rattle.math_types.specs.Order.{basic, list}
use Rattle.math_types.specs.Types.{Kind, basics}
use Rattle.math_terms.specs.Terms.{var}
use Rattle.math_terms.specs.Constants.{TermOver}
use Rattle.math_terms.specs.Seqs.{concat_map}
use Rattle.math_terms.specs.Fillings.{Filling, Typed, fill}
use Rattle.text_grammar.specs.Terms.{OurTerm, OurFields, terms_of}
use Rattle.text_grammar.specs.constants.Constants.{Con, consts}
use Rattle.text_grammar.specs.Ascii.{newline}
use Rattle.math_overlaps.specs.Substitutions.{Subst}
use Rattle.math_overlaps.specs.Shapes.{free, Side, left, right, of}
use Rattle.math_overlaps.specs.Overlaps.{Origin, place, term_of, rename, numbers_of}
use Rattle.math_search.specs.Problems.{Setting, atomic, listvar, Tm, Field, Bindings}
use Rattle.math_search.specs.Fresh.{numbers}
use Rattle.math_search.specs.Queue.{Result, answers, refused, unfinished, searching}
use Rattle.math_search.specs.Pairs.{pair_setting, side_field, sixteen_above}
use Rattle.overlap_spec.specs.Lines.{Binding, left_tag, right_tag, bindings_text, WritableBinding}
use Rattle.overlap_spec.specs.Variables.{variables}
use Rattle.overlap_spec.specs.Overlaps.{bindings_of}

-- ---- the search

-- document 01's types and constants, the variables of a pair of its rules, list variables as numbers
abbrev pub setting : Setting
setting = pair_setting basics consts ℕ_discrete numbers

-- a field as it stands on a side of the equation: "variables are distinct by side even if spelled alike",
-- "a right-side variable counting 16 above its number"
abbrev pub field_on : Side → List OurTerm → Field setting
field_on d f = side_field basics consts ℕ_discrete numbers sixteen_above d f

-- over a row of `room` records
abbrev pub found : ℕ → List OurTerm → List OurTerm → Result setting
found room f g = searching setting room (field_on left f) (field_on right g)

-- ---- what an answer gives the variables of the two fields

-- a term under the origins by which the names of a line are told apart: those of the two sides, and a list variable's number
abbrev pub origin_of : Tm setting → TermOver basics consts (Origin ℕ)
origin_of (atomic a) = term_of a
origin_of (listvar n) = var list (place n)

abbrev pub value_of : Side → Bindings setting → Subst Con Kind ℕ (Origin ℕ)
value_of d σ (basic k) n = map origin_of (σ (atomic (free (of d k n))))
value_of d σ list n = map origin_of (σ (listvar (sixteen_above d n)))

-- the values that a line shows of the field on a side, in its order
abbrev pub values_on : Side → List OurTerm → Bindings setting → List (List (TermOver basics consts (Origin ℕ)))
values_on d f σ = map (λ v. value_of d σ v.0 v.1) (variables (f ∷ []))

-- all of a line's values: those of the left field's variables, "then the same" of the right field's
abbrev pub values_of : List OurTerm → List OurTerm → Bindings setting → List (List (TermOver basics consts (Origin ℕ)))
values_of f g σ = values_on left f σ ++ values_on right g σ

-- "its values' variables are renumbered by first occurrence in the line", in each type: the names left of `=` do not count
abbrev pub number_in : List OurTerm → List OurTerm → Bindings setting → Kind → Origin ℕ → ℕ
number_in f g σ = numbers_of basics consts ℕ_discrete (values_of f g σ)

-- a value as the line shows it
abbrev pub shown_on : Side → List OurTerm → List OurTerm → Bindings setting → Subst Con Kind ℕ ℕ
shown_on d f g σ k n = map (rename (number_in f g σ)) (value_of d σ k n)

-- ---- the lines

-- what a line says: the bindings of the left field's variables, and those of the right field's
pub record AnswerLine : Type 0 where
  pub left : List Binding
  pub right : List Binding

-- the bindings part of an overlap line
abbrev pub bindings_part : AnswerLine → List ℕ
bindings_part l = bindings_text left_tag l.left ++ bindings_text right_tag l.right

-- "A line is the bindings part of an overlap line, without the field text and the blank after it";
-- "An equation without variables gives empty lines"
abbrev pub line_text : AnswerLine → List ℕ
line_text l = drop 1 (bindings_part l) ++ newline

abbrev pub lines_text : List AnswerLine → List ℕ
lines_text ls = concat_map line_text ls

-- a line that can be written at all: its strings hold only bytes that a string may have
abbrev pub WritableAnswer : AnswerLine → Type 0
WritableAnswer l = All WritableBinding l.left × All WritableBinding l.right

-- a substitution gives every variable that is bound the value that the line shows
abbrev pub Gives : Subst Con Kind ℕ ℕ → List Binding → Type 0
Gives θ bs = (b : Binding) → Memᴰ b bs → θ b.kind b.number ≡ b.value

-- the fillings φ and ψ of the two fields are an instance of what a line shows: by a filling of the line's variables, each by its type
abbrev pub InstanceOfLine : AnswerLine → Filling Con Kind ℕ → Filling Con Kind ℕ → Type 0
InstanceOfLine l φ ψ =
    (χ : Filling Con Kind ℕ) × Typed basics consts χ
    × ((b : Binding) → Memᴰ b l.left → φ b.kind b.number ≡ fill χ b.value)
    × ((b : Binding) → Memᴰ b l.right → ψ b.kind b.number ≡ fill χ b.value)

-- the line of an answer: "for each variable" of the fields "name, `=`, value"
abbrev pub answer_line : List OurTerm → List OurTerm → Bindings setting → AnswerLine
answer_line f g σ = record { left = bindings_of (f ∷ []) (shown_on left f g σ); right = bindings_of (g ∷ []) (shown_on right f g σ) }

abbrev pub answer_bindings : List OurTerm → List OurTerm → Bindings setting → List ℕ
answer_bindings f g σ = bindings_part (answer_line f g σ)

abbrev pub answer_text : List OurTerm → List OurTerm → Bindings setting → List ℕ
answer_text f g σ = line_text (answer_line f g σ)

-- the lines, or a refusal by 9
pub data Lines : Type 0 where
  lines : List (List ℕ) → Lines
  nine : Lines

-- "Answers are lines in the order in which solved problems leave the row; repeats stay."
-- `unfinished` never comes (`found_ends` of proofs/), so that `nine` is a refusal by 9 alone: `lines_nine`, and `nine_peak` by a number
abbrev pub lines_in : List OurTerm → List OurTerm → Result setting → Lines
lines_in f g (answers xs) = lines (map (answer_text f g) xs)
lines_in f g refused = nine
lines_in f g unfinished = nine

abbrev pub lines_of : ℕ → List OurTerm → List OurTerm → Lines
lines_of room f g = lines_in f g (found room f g)

-- the search of two fields' terms, each given as the rule of that one field, or as none where it "stands on no accepted rule's left side":
-- then "there are no lines, both counts are 0 and nothing is refused"
abbrev pub lines_between : ℕ → List (List OurTerm) → List (List OurTerm) → Lines
lines_between room [] r₂ = lines []
lines_between room (f ∷ r₁) [] = lines []
lines_between room (f ∷ r₁) (g ∷ r₂) = lines_of room f g

-- of fields, by their terms
abbrev pub lines_for : ℕ → OurFields → OurFields → Lines
lines_for room r₁ r₂ = lines_between room (terms_of r₁) (terms_of r₂)

-- the bytes of the whole list; none on a refusal
abbrev pub bytes_of : Lines → List ℕ
bytes_of (lines ls) = concat_map (λ l. l) ls
bytes_of nine = []
