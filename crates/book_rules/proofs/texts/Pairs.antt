-- The lines of a book's pairs one behind the other: those of a position, and those of all. Assumes nothing.
use Rattle.std.specs.Prelude.{Ok}
use mathlib.Core.Path.{◌≡◌, refl, sym, ◌∙◌, ap, ap₂, subst}
use mathlib.Core.Bool.{Bool, true, false, cond}
use mathlib.Core.List.{List, [], ◌∷◌, ◌++◌, map, append-nil}
use Prim.Native.Nat.{ℕ, suc, ◌+◌, ◌-◌, ◌≤◌, ◌<◌}
use native.Mathlib.Omega.{arith}
use lib.ListN.{length}
use Rattle.math_terms.specs.Seqs.{concat_map}
use Rattle.text_grammar.specs.Ascii.{ascii, newline}
use Rattle.text_grammar.specs.Numbers.{digits_of}
use Rattle.overlap_spec.specs.Variables.{numbers_from, keep}
use Rattle.base_limits.specs.Limits.{most_rules}
use Rattle.text_write.specs.Answers.{Writes}
use Rattle.text_write.proofs.Answers.{wrote}
use Rattle.text_write.specs.declared.pieces.Page.{Page}
use Rattle.text_write.specs.pieces.Placed.{PlacedOn}
use Rattle.text_write.proofs.pieces.Pieces.{Left, all_left, none_left, left_next}
use Rattle.book_spec.specs.Books.{Book, meet, pair_text, book_text, longest_book_text}
use Rattle.book_spec.proofs.Pairs.{text_rows, text_short}
use Rattle.book_rules.specs.texts.Pairs.{row_text}

-- the pieces of a line, whose positions are shown from 1
pub pair_pieces : (i j : ℕ) → pair_text (i, j) ≡ digits_of (i + 1) ++ ascii " " ++ digits_of (j + 1) ++ newline
pair_pieces i j =
    let a : suc i ≡ i + 1 = omega arith in
    let b : suc j ≡ j + 1 = omega arith in
    ap₂ (λ (k m : ℕ). digits_of k ++ ascii " " ++ digits_of m ++ newline) a b

-- ---- what is left of a text that began on the page `start`

pub record LeftOn (whole : List ℕ) (start : Page) (rest : List ℕ) (page : Page) : Type 0 where
  pub same_bytes : page.bytes.ghost_name ≡ start.bytes.ghost_name
  pub left : Left whole start.at start.bytes.now rest page.at page.bytes.now

module _ (whole : List ℕ) (start : Page) where
  all_on : LeftOn whole start whole start
  all_on = record { same_bytes = refl; left = all_left whole start.at start.bytes.now }

  rest_on : {a b : List ℕ} (page : Page) → a ≡ b → LeftOn whole start a page → LeftOn whole start b page
  rest_on page e l = subst (λ (t : List ℕ). LeftOn whole start t page) e l

  next_on : (a b : List ℕ) {p q : Page} → LeftOn whole start (a ++ b) p → PlacedOn a p q → LeftOn whole start b q
  next_on a b l q =
      record { same_bytes = q.same_bytes ∙ l.same_bytes; left = left_next whole start.at start.bytes.now a b l.left q.placed }

  none_on : {page : Page} → LeftOn whole start [] page → PlacedOn whole start page
  none_on l = record { same_bytes = l.same_bytes; placed = none_left whole start.at start.bytes.now l.left }

-- ---- positions

-- the numbers from i up to n
next_number : (n i : ℕ) → i < n → numbers_from (n - i) i ≡ i ∷ numbers_from (n - (i + 1)) (i + 1)
next_number n i h =
    let e : n - i ≡ suc (n - (i + 1)) = omega arith in
    let s : suc i ≡ i + 1 = omega arith in
    ap (λ (k : ℕ). numbers_from k i) e ∙ ap (λ (k : ℕ). i ∷ numbers_from (n - (i + 1)) k) s

no_number : (n i : ℕ) → n ≤ i → numbers_from (n - i) i ≡ []
no_number n i h = let e : n - i ≡ 0 = omega arith in ap (λ (k : ℕ). numbers_from k i) e

-- ---- the lines of position i, from position j on

module _ (B : Book) (n : ℕ) where
  abbrev lines_on : ℕ → List ℕ → List ℕ
  lines_on i js = concat_map pair_text (keep (meet B) (map (λ (j : ℕ). (i, j)) js))

  abbrev lines_from : ℕ → ℕ → List ℕ
  lines_from i j = lines_on i (numbers_from (n - j) j)

  line_goes : (i j : ℕ) → j < n → lines_from i j ≡ concat_map pair_text (cond (meet B (i, j)) ((i, j) ∷ []) []) ++ lines_from i (j + 1)
  line_goes i j h = ap (lines_on i) (next_number n j h) ∙ go (meet B (i, j))
    where
      rest : List (ℕ × ℕ)
      rest = keep (meet B) (map (λ (k : ℕ). (i, k)) (numbers_from (n - (j + 1)) (j + 1)))

      go : (b : Bool) → concat_map pair_text (cond b ((i, j) ∷ rest) rest) ≡ concat_map pair_text (cond b ((i, j) ∷ []) []) ++ concat_map pair_text rest
      go true = ap (λ (t : List ℕ). t ++ concat_map pair_text rest) (sym (append-nil (pair_text (i, j))))
      go false = refl

module _ (B : Book) (n i : ℕ) (start : Page) where
  -- what is left of position i's lines makes them
  abbrev pub RowLeft : ℕ → Page → Type 0
  RowLeft j page = LeftOn (row_text B i) start (lines_from B n i j) page

  pub row_start : n ≡ length B → RowLeft (i + 1) start
  row_start e =
      let s : suc i ≡ i + 1 = omega arith in
      rest_on (row_text B i) start start
      (ap (λ (m : ℕ). lines_on B n i (numbers_from (m - suc i) (suc i))) (sym e) ∙ ap (λ (k : ℕ). lines_on B n i (numbers_from (n - k) k)) s)
      (all_on (row_text B i) start)

  pub row_pair : (j : ℕ) (p : Page) {q : Page} → j < n → meet B (i, j) ≡ true → RowLeft j p → PlacedOn (pair_text (i, j)) p q → RowLeft (j + 1) q
  row_pair j p h e l q =
      next_on (row_text B i) start (pair_text (i, j)) (lines_from B n i (j + 1))
      (rest_on (row_text B i) start p
      (line_goes B n i j h
      ∙ ap (λ (b : Bool). concat_map pair_text (cond b ((i, j) ∷ []) []) ++ lines_from B n i (j + 1)) e
      ∙ ap (λ (t : List ℕ). t ++ lines_from B n i (j + 1)) (append-nil (pair_text (i, j)))) l)
      q

  pub row_none : (j : ℕ) (p : Page) → j < n → meet B (i, j) ≡ false → RowLeft j p → RowLeft (j + 1) p
  row_none j p h e l =
      rest_on (row_text B i) start p
      (line_goes B n i j h ∙ ap (λ (b : Bool). concat_map pair_text (cond b ((i, j) ∷ []) []) ++ lines_from B n i (j + 1)) e) l

  pub row_as : (j : ℕ) (p q : Page) → q ≡ p → RowLeft j p → RowLeft j q
  row_as j p q e l = subst (RowLeft j) (sym e) l

  pub row_end : (j : ℕ) (p : Page) → n ≤ j → RowLeft j p → PlacedOn (row_text B i) start p
  row_end j p h l = none_on (row_text B i) start (rest_on (row_text B i) start p (ap (lines_on B n i) (no_number n j h)) l)

-- ---- a book without lines, and the longest

pub none_written : (B : Book) → B ≡ [] → (old : List ℕ) → Writes (book_text B) old (Ok 0) old
none_written B e old = subst (λ (A : Book). Writes (book_text A) old (Ok 0) old) (sym e) (wrote [] old (omega arith) refl refl)

pub lines_fit : (B : Book) (n : ℕ) → length B ≡ n → n ≤ most_rules → length (book_text B) ≤ longest_book_text
lines_fit B n e h = text_short B (omega (arith, e, h))

-- ---- the lines of all positions, from position i on

module _ (B : Book) (n : ℕ) (start : Page) where
  abbrev rows_from : ℕ → List ℕ
  rows_from i = concat_map (row_text B) (numbers_from (n - i) i)

  abbrev pub BookLeft : ℕ → Page → Type 0
  BookLeft i page = LeftOn (book_text B) start (rows_from i) page

  pub book_start : n ≡ length B → BookLeft 0 start
  book_start e =
      let z : n ≡ n - 0 = omega arith in
      rest_on (book_text B) start start
      (text_rows B ∙ ap (λ (m : ℕ). concat_map (row_text B) (numbers_from m 0)) (sym e ∙ z)) (all_on (book_text B) start)

  pub book_row : (i : ℕ) (p : Page) {q : Page} → i < n → BookLeft i p → PlacedOn (row_text B i) p q → BookLeft (i + 1) q
  book_row i p h l q =
      next_on (book_text B) start (row_text B i) (rows_from (i + 1))
      (rest_on (book_text B) start p (ap (concat_map (row_text B)) (next_number n i h)) l) q

  pub book_end : (i : ℕ) (p : Page) → n ≤ i → BookLeft i p → PlacedOn (book_text B) start p
  book_end i p h l = none_on (book_text B) start (rest_on (book_text B) start p (ap (concat_map (row_text B)) (no_number n i h)) l)
