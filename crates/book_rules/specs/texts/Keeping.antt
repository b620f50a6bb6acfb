-- A book as texts in lent bytes: text k has `longest_rule` of them, from k times as many on, and its size.
use Rattle.std.specs.Prelude.{◌≡◌, cond, List, [], ◌∷◌, map, ℕ, ◌+◌, ◌*◌, ◌/◌, min, leb, length, take, drop, get_or, set, replicate}
use Rattle.std.proofs.Math.Option.{none, some}
use Rattle.std.proofs.lemmas.List.Edits.{sets}
use Rattle.base_limits.specs.Limits.{most_rules, longest_rule}
use Rattle.base_lists.specs.Seqs.{tabulate}
use Rattle.text_grammar.specs.Told.{Told}
use Rattle.text_grammar.specs.Terms.{OurFields}
use Rattle.text_grammar.specs.Read.{OutcomeOf, refused, accepted}
use Rattle.text_grammar.specs.rules.Read.{OurRule, read_rule}
use Rattle.text_refusals.specs.verdicts.Verdicts.{number_of, reason_from}
use Rattle.text_read.specs.Answers.{left_said}
use Rattle.book_spec.specs.Books.{Book}
use Rattle.book_spec.specs.Reading.{book_full}
use Rattle.book_rules.specs.declared.texts.Kept.{Kept}
use Rattle.book_rules.specs.declared.texts.Added.{Added}
use Rattle.book_rules.specs.declared.texts.Added.TheVariants.{Taken, Refused, Full}
use Rattle.book_rules.specs.declared.texts.Adding.{Adding}

-- ---- the texts

abbrev pub book_bytes : ℕ
book_bytes = most_rules * longest_rule

abbrev pub no_texts : Kept
no_texts = record { n = 0; sizes = replicate most_rules 0 }

-- how many texts n bytes have room for, up to a whole book
abbrev pub room_for : ℕ → ℕ
room_for n = min (n / longest_rule) most_rules

abbrev pub text_at : Kept → List ℕ → ℕ → List ℕ
text_at kept row k = take (min (get_or kept.sizes k 0) longest_rule) (drop (k * longest_rule) row)

-- those kept; more than there is room for count as none
abbrev pub texts_in : Kept → List ℕ → List (List ℕ)
texts_in kept row = cond (leb kept.n (room_for (length row))) (tabulate kept.n (text_at kept row)) []

-- the rule's left side that a text says, no fields where it is refused
abbrev pub said_by : List ℕ → OurFields
said_by t = left_said (read_rule t)

-- THE BOOK that the texts say
abbrev pub book_in : Kept → List ℕ → Book
book_in kept row = map said_by (texts_in kept row)

-- ---- one text more

abbrev pub kept_more : Kept → List ℕ → Kept
kept_more kept text = record { n = kept.n + 1; sizes = set kept.sizes kept.n (length text) }

-- the text behind those kept: what is kept, and the bytes
abbrev pub Keeps : Kept → List ℕ → List ℕ → Kept → List ℕ → Type 0
Keeps kept text old r new = (r ≡ kept_more kept text) × (new ≡ sets old (kept.n * longest_rule) text)

-- ---- the next line of a book

-- document 02's number and place of each answer; "Refusal 12 is a seventeenth rule .. with place 0"
abbrev pub told : Added → Told
told Taken = record { number = none; values = [] }
told (Refused r p) = record { number = some (number_of r); values = p ∷ [] }
told Full = record { number = some book_full; values = 0 ∷ [] }

abbrev pub added_by : OutcomeOf OurRule → Added
added_by (refused r p) = Refused (reason_from r) p
added_by (accepted x) = Taken

-- "tried before that rule's text is read": n texts are kept, and there is room for so many
abbrev pub added_as : ℕ → ℕ → OutcomeOf OurRule → Added
added_as n room o = cond (leb room n) Full (added_by o)

-- what is kept then, and the bytes
abbrev pub kept_by : Added → Kept → List ℕ → Kept
kept_by Taken kept line = kept_more kept line
kept_by (Refused r p) kept line = kept
kept_by Full kept line = kept

abbrev pub row_by : Added → Kept → List ℕ → List ℕ → List ℕ
row_by Taken kept line old = sets old (kept.n * longest_rule) line
row_by (Refused r p) kept line old = old
row_by Full kept line old = old

-- WHAT A LINE IS ANSWERED, and what it leaves
pub record AddsLine (kept : Kept) (line old : List ℕ) (r : Adding) (new : List ℕ) : Type 0 where
  pub added : r.added ≡ added_as kept.n (room_for (length old)) (read_rule line)
  pub keeps : r.kept ≡ kept_by r.added kept line
  pub bytes : new ≡ row_by r.added kept line old
