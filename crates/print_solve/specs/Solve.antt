-- What `solve` prints for one line, which has two field texts, a row and a room with tabs between them:
-- the lines of the search for the two fields.
use Rattle.std.specs.Prelude.{Bool, cond, List, [], ◌∷◌, ◌++◌, ℕ, suc, ◌+◌, ltb, length, take, drop, Option, Some, None}
use Rattle.base_bytes.specs.Bytes.{index_of}
use Rattle.base_limits.specs.Limits.{pair_line}
use Rattle.text_grammar.specs.Ascii.{ascii, newline}
use Rattle.text_grammar.specs.Numbers.{digits_of}
use Rattle.text_grammar.specs.Terms.{OurFields}
use Rattle.text_grammar.specs.Read.{OutcomeOf, refused, accepted}
use Rattle.text_grammar.specs.rules.Read.{OurRule, read_rule}
use Rattle.text_write.specs.Sizes.{longest_number}
use Rattle.search_spec.specs.Answers.{lines_for}
use Rattle.search_row.specs.own.Sizes.{most_records}
use Rattle.print_parts.specs.sizes.Sizes.{size_of}
use Rattle.print_solve.specs.search.Found.{most_bytes, longest_body, found_text}

-- ---- a line

-- two of the longest rules with a tab between them, and behind a tab each `640` and `131072`
abbrev pub longest_line : ℕ
longest_line = pair_line + 1 + 3 + 1 + 6

-- byte 9
abbrev pub tab : ℕ
tab = 9

abbrev pub has_tab : List ℕ → Bool
has_tab t = ltb (index_of tab t) (length t)

-- what stands before the first tab, and behind it: all and nothing where there is none
abbrev pub part : List ℕ → List ℕ
part t = take (index_of tab t) t

abbrev pub behind : List ℕ → List ℕ
behind t = drop (suc (index_of tab t)) t

-- the tabs divide a line into two to four parts; one that is missing is empty
abbrev pub left_part : List ℕ → List ℕ
left_part t = part t

abbrev pub right_part : List ℕ → List ℕ
right_part t = part (behind t)

abbrev pub row_part : List ℕ → List ℕ
row_part t = part (behind (behind t))

-- all that stands behind the third tab; a line with a fourth there is a bad one
abbrev pub room_part : List ℕ → List ℕ
room_part t = behind (behind (behind t))

-- ---- the answer

-- the field of a rule whose left side has just one, and which has no right side
abbrev pub one_field : OurFields → OurFields → OurFields
one_field [] y = []
one_field (f ∷ []) [] = f ∷ []
one_field (f ∷ []) (g ∷ y) = []
one_field (f ∷ (g ∷ x)) y = []

-- a text that is no such rule stands for a field that "stands on no accepted rule's left side":
-- then "there are no lines, both counts are 0 and nothing is refused"
abbrev pub field_in : OutcomeOf OurRule → OurFields
field_in (refused r p) = []
field_in (accepted w) = one_field w.0 w.1

-- of two fields, a row and a room: a bad row is told before a bad room
abbrev pub search_text : OurFields → OurFields → Option ℕ → Option ℕ → List ℕ
search_text left right None room = ascii "bad row" ++ newline
search_text left right (Some row) None = ascii "bad room" ++ newline
search_text left right (Some row) (Some room) = found_text room (lines_for row left right)

-- a line over its limit is too long whatever it holds; then more than three tabs are told
unfoldable pub line_text : List ℕ → List ℕ
line_text t =
    cond (ltb longest_line (length t)) (ascii "line too long" ++ newline)
    (cond (has_tab (room_part t)) (ascii "bad line" ++ newline)
    (search_text (field_in (read_rule (left_part t))) (field_in (read_rule (right_part t)))
    (size_of most_records (row_part t)) (size_of most_bytes (room_part t))))

abbrev pub title_text : ℕ → List ℕ
title_text k = ascii "search " ++ digits_of k ++ newline

-- THE ANSWER to line number k
unfoldable pub solve_answer : ℕ → List ℕ → List ℕ
solve_answer k t = title_text k ++ line_text t

-- a title, and behind it at most `longest_body`: no answer has more
abbrev pub longest_title : ℕ
longest_title = 7 + longest_number + 1

abbrev pub longest_answer : ℕ
longest_answer = longest_title + longest_body
