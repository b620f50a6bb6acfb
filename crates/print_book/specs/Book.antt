-- What `book` prints for the lines of its input. Document 02, E4: "The program `book` reads one rule a line, numbered from 1, and prints a
-- line `I J` for each overlapping pair .. At the first refused line K it prints only `refused K N at P`."
use Rattle.std.specs.Prelude.{List, [], ◌∷◌, ◌++◌, ℕ, ◌+◌}
use Rattle.std.proofs.Math.Option.{Option, none, some}
use Rattle.text_grammar.specs.Ascii.{ascii, newline}
use Rattle.text_grammar.specs.Numbers.{digits_of}
use Rattle.text_write.specs.Sizes.{longest_number}
use Rattle.text_write.specs.pieces.Refusals.{number_at}
use Rattle.book_spec.specs.Books.{book_text}
use Rattle.book_spec.specs.Reading.{BookRead, stopped, rules, read_book, book_of}
use Rattle.book_rules.specs.declared.texts.Added.{Added}
use Rattle.book_rules.specs.texts.Keeping.{told}

-- "`refused K N at P`"
abbrev pub stop_text : ℕ → ℕ → ℕ → List ℕ
stop_text k n p = ascii "refused " ++ digits_of k ++ ascii " " ++ number_at n p ++ newline

abbrev pub answer_to : BookRead → List ℕ
answer_to (stopped k n p) = stop_text k n p
answer_to (rules xs) = book_text (book_of xs)

-- THE ANSWER to all lines
abbrev pub book_answer : List (List ℕ) → List ℕ
book_answer ts = answer_to (read_book ts)

-- ---- of one line, as it is met

-- a refusal by the number, with the place behind it; no number, no text
abbrev pub refusal_text : ℕ → Option ℕ → List ℕ → List ℕ
refusal_text k none values = []
refusal_text k (some n) [] = []
refusal_text k (some n) (p ∷ values) = stop_text k n p

abbrev pub added_text : ℕ → Added → List ℕ
added_text k a = refusal_text k (told a).number (told a).values

-- no line has more bytes: `refused `, three numbers, a blank, ` at ` and the end
abbrev pub longest_stop : ℕ
longest_stop = 8 + longest_number + 1 + (longest_number + 4 + longest_number) + 1
