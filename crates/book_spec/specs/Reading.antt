-- READING A BOOK. Document 02, E4: "The program `book` reads one rule a line, numbered from 1 .. At the first refused line K it prints only
-- `refused K N at P`. Refusal 12 is a seventeenth rule, tried before that rule's text is read, with place 0."
use Rattle.std.specs.Prelude.{◌≡◌, ◌⊎◌, cond, List, [], ◌∷◌, map, ℕ, suc, ◌<◌, ltb, take}
use Rattle.std.proofs.Math.Option.{some}
use Rattle.std.proofs.Math.ListN.{get_elem?}
use Rattle.base_limits.specs.Limits.{most_rules}
use Rattle.text_grammar.specs.Read.{Reason, number, OutcomeOf, refused, accepted}
use Rattle.text_grammar.specs.rules.Read.{OurRule, read_rule}
use Rattle.book_spec.specs.Books.{Book}

-- the rules of all lines; or the first refused line: its number from 1, the refusal's number and its place
pub data BookRead : Type 0 where
  stopped : ℕ → ℕ → ℕ → BookRead
  rules : List OurRule → BookRead

-- the number of the refusal of a seventeenth rule
abbrev pub book_full : ℕ
book_full = 12

-- a rule before those of the lines behind it
abbrev pub with_rule : OurRule → BookRead → BookRead
with_rule x (stopped k n p) = stopped k n p
with_rule x (rules xs) = rules (x ∷ xs)

-- line number k is read as the first says, and the lines behind it as the second
abbrev pub line_read : ℕ → OutcomeOf OurRule → BookRead → BookRead
line_read k (refused r p) rest = stopped k (number r) p
line_read k (accepted x) rest = with_rule x rest

-- lines behind k that are accepted
abbrev pub read_from : ℕ → List (List ℕ) → BookRead
read_from k [] = rules []
read_from k (t ∷ ts) = cond (ltb k most_rules) (line_read (suc k) (read_rule t) (read_from (suc k) ts)) (stopped (suc k) book_full 0)

abbrev pub read_book : List (List ℕ) → BookRead
read_book ts = read_from 0 ts

-- the book of the rules read
abbrev pub book_of : List OurRule → Book
book_of xs = map (λ (x : OurRule). x.0) xs

-- ---- the same as a relation; `stops_iff` and `reads_iff` of proofs/Reading say that reading is this

-- the line t behind k others is refused by n at p: a seventeenth whatever it holds, any before it as a rule text
abbrev pub LineRefused : ℕ → List ℕ → ℕ → ℕ → Type 0
LineRefused k t n p =
    ((k < most_rules) × ((r : Reason) × (read_rule t ≡ refused r p) × (number r ≡ n))) ⊎ ((k ≡ most_rules) × (n ≡ book_full) × (p ≡ 0))

-- k lines are accepted, and the one behind them is refused by n at p
abbrev pub StopsBehind : List (List ℕ) → ℕ → ℕ → ℕ → Type 0
StopsBehind ts k n p =
    ((xs : List OurRule) × (map read_rule (take k ts) ≡ map accepted xs)) × ((t : List ℕ) × (get_elem? ts k ≡ some t) × LineRefused k t n p)
