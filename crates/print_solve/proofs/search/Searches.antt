-- What is said of a search's answer, and what it left in the bytes that it was lent. Assumes nothing.
use mathlib.Core.Path.{◌≡◌, refl, sym, ap, ap₂, subst, ◌∙◌}
use mathlib.Core.Bool.{Bool, true, false, cond}
use mathlib.Core.Option.{Option, none, some, none-ne-some, some-injective}
use mathlib.Core.List.{List, [], ◌∷◌, ◌++◌, append_assoc}
use Prim.Native.Nat.{ℕ, ◌≤◌, ◌<◌, min}
use native.Mathlib.Omega.{arith}
use lib.Dec.{leb}
use lib.ListN.{length, take, drop, length-append, length-take, length-replicate}
use lib.Seq.{length-take-le, take_at}
use borrow.Author.Tests.{le-leb, lt-leb}
use Rattle.text_grammar.specs.Told.{Told, by_room}
use Rattle.text_grammar.specs.Numbers.{digits_of}
use Rattle.text_grammar.proofs.Told.{eight_iff, fits_iff}
use Rattle.text_grammar.specs.Ascii.{ascii, newline}
use Rattle.text_grammar.proofs.Numbers.{digits_most}
use Rattle.text_values.specs.Values.{Field}
use Rattle.search_problems.specs.Values.{blank_problem}
use Rattle.search_steps.specs.Row.{blanks}
use Rattle.text_write.specs.Answers.{after}
use Rattle.text_write.proofs.Digits.{digits_64}
use Rattle.search_spec.specs.Answers as answers
use Rattle.search_spec.specs.Answers.{bytes_of}
use Rattle.text_write.specs.declared.pieces.Page.{Page}
use Rattle.text_write.specs.pieces.Placed.{PlacedOn}
use Rattle.text_write.proofs.pieces.Pieces.{on_next, on_as}
use Rattle.print_solve.proofs.Pieces.{Piece, piece_as}
use Rattle.search_row.specs.Answers.{Searched, fitting, too_small, row_full, told, searched_of, found_in, Searches}
use Rattle.print_solve.specs.search.Found.{most_bytes, count_text, counts_text, found_text, longest_counts}

-- the line of a refusal and two counts of 64 bits is short
pub counts_short : (r n b : ℕ) → r < 10 → n < 18446744073709551616 → b < 18446744073709551616 → length (counts_text r n b) ≤ longest_counts
counts_short r n b h k j =
    let x = count_text "refusal " r in
    let y = count_text " lines " n in
    let z = count_text " bytes " b in
    omega (
      arith,
      length-append (x ++ y ++ z) newline,
      length-append (x ++ y) z,
      length-append x y,
      length-append (ascii "refusal ") (digits_of r),
      length-append (ascii " lines ") (digits_of n),
      length-append (ascii " bytes ") (digits_of b),
      digits_most 0 r h,
      digits_64 n k,
      digits_64 b j,
    )

-- the lines were written
pub record Written (x : answers.Lines) (room n b : ℕ) : Type 0 where
  pub size : b ≡ length (bytes_of x)
  pub fits : length (bytes_of x) ≤ room
  pub said : found_text room x ≡ counts_text 0 n b ++ bytes_of x

-- ---- what is told determines what is said

abbrev number_of : Told → Option ℕ
number_of t = t.number

abbrev first_of : List ℕ → ℕ
first_of [] = 0
first_of (n ∷ l) = n

abbrev second_of : List ℕ → ℕ
second_of [] = 0
second_of (n ∷ l) = first_of l

-- the lines' counts, and the number by whether they have room
module _ (n b : ℕ) (needed room : ℕ) (i j : ℕ) where
  abbrev counted : Told
  counted = by_room needed room (i ∷ (j ∷ []))

  counts_are : (k : Option ℕ) → record { number = k; values = n ∷ (b ∷ []) } ≡ counted → (i ≡ n) × (j ≡ b)
  counts_are k e = (sym (ap (λ (t : Told). first_of t.values) e), sym (ap (λ (t : Told). second_of t.values) e))

pub lines_said : (x : answers.Lines) (room n b : ℕ) → told (fitting n b) ≡ searched_of x room → Written x room n b
lines_said (answers.lines ls) room n b e =
    let t = bytes_of (answers.lines ls) in
    let c = counts_are n b (length t) room (length ls) (length t) none e in
    let h = (fits_iff (length t) room (length ls ∷ (length t ∷ []))).0 (sym (ap number_of e)) in
    let s : found_text room (answers.lines ls) ≡ counts_text 0 (length ls) (length t) ++ t =
    ap (λ (u : Bool). cond u (counts_text 0 (length ls) (length t) ++ t) (counts_text 8 (length ls) (length t))) (le-leb (length t) room h) in
    record { size = sym c.1; fits = h; said = s ∙ ap₂ (λ (i j : ℕ). counts_text 0 i j ++ t) c.0 c.1 }
lines_said answers.nine room n b e = absurd (none-ne-some 9 (ap number_of e))

-- they are more than the room has
pub few_said : (x : answers.Lines) (room n b : ℕ) → told (too_small n b) ≡ searched_of x room → found_text room x ≡ counts_text 8 n b
few_said (answers.lines ls) room n b e =
    let t = bytes_of (answers.lines ls) in
    let c = counts_are n b (length t) room (length ls) (length t) (some 8) e in
    let h = (eight_iff (length t) room (length ls ∷ (length t ∷ []))).0 (sym (ap number_of e)) in
    ap (λ (u : Bool). cond u (counts_text 0 (length ls) (length t) ++ t) (counts_text 8 (length ls) (length t))) (lt-leb (length t) room h)
    ∙ ap₂ (λ (i j : ℕ). counts_text 8 i j) c.0 c.1
few_said answers.nine room n b e = let z = some-injective 8 9 (ap number_of e) in absurd (omega (arith, z))

-- the row had no place
pub full_said : (x : answers.Lines) (room : ℕ) → told row_full ≡ searched_of x room → found_text room x ≡ counts_text 9 0 0
full_said (answers.lines ls) room e = absurd (not_nine (leb (length (bytes_of (answers.lines ls))) room) (ap number_of e))
  where
    not_nine : (u : Bool) → ◌≡◌ {A = Option ℕ} (some 9) (cond u none (some 8)) → ⊥
    not_nine true e = none-ne-some 9 (sym e)
    not_nine false e = let z = some-injective 9 8 e in omega (arith, z)
full_said answers.nine room e = refl

-- ---- by the answer, with what is put for it

-- a row of blanks has as many records
over_blanks : (f g : Field) (k : ℕ) (old : List ℕ) {r : Searched} {m : List ℕ} → Searches f g (blanks k) old r (blanks k) m
    → (told r ≡ searched_of (found_in k f g) (length old)) × (m ≡ after (bytes_of (found_in k f g)) old)
over_blanks f g k old {r} {m} h =
    subst (λ (n : ℕ). (told r ≡ searched_of (found_in n f g) (length old)) × (m ≡ after (bytes_of (found_in n f g)) old)) (length-replicate k blank_problem)
    (h.answer, h.output)

-- the search was lent the front of T
module _ (f g : Field) (k room lent : ℕ) (T : List ℕ) (is-lent : lent ≡ min room most_bytes) (long : length T ≡ most_bytes) {r : Searched} {m : List ℕ}
    (searches : Searches f g (blanks k) (take lent T) r (blanks k) m) where
  abbrev x : answers.Lines
  x = found_in k f g

  is : (told r ≡ searched_of x (length (take lent T))) × (m ≡ after (bytes_of x) (take lent T))
  is = over_blanks f g k (take lent T) searches

  pub part_long : length (take lent T) ≡ lent
  part_long = length-take-le lent T (omega arith)

  searched : told r ≡ searched_of x lent
  searched = is.0 ∙ ap (searched_of x) part_long

  -- what is said of as many bytes is said of the room that was asked for
  said_as : {t : List ℕ} → found_text lent x ≡ t → found_text (min room most_bytes) x ≡ t
  said_as e = ap (λ (n : ℕ). found_text n x) (sym is-lent) ∙ e

  module _ (n b : ℕ) where
    written : r ≡ fitting n b → Written x lent n b
    written h = lines_said x lent n b (sym (ap told h) ∙ searched)

    -- the lines stand at the front
    lines_there : r ≡ fitting n b → take b (m ++ drop lent T) ≡ bytes_of x
    lines_there h =
        let t = bytes_of x in
        let w = written h in
        ap (λ (l : List ℕ). take b (l ++ drop lent T)) is.1
        ∙ ap (λ (u : Bool). take b (cond u (t ++ drop (length t) (take lent T)) (take lent T) ++ drop lent T))
        (le-leb (length t) (length (take lent T)) (omega (arith, w.fits, part_long)))
        ∙ ap (take b) (append_assoc t (drop (length t) (take lent T)) (drop lent T))
        ∙ take_at t (drop (length t) (take lent T) ++ drop lent T) b (sym w.size)

    pub lines_count : r ≡ fitting n b → b ≡ length (take b (m ++ drop lent T))
    lines_count h = (written h).size ∙ ap length (sym (lines_there h))

    pub lines_in_lem : r ≡ fitting n b → b ≤ length (m ++ drop lent T)
    lines_in_lem h = omega (arith, lines_count h, length-take b (m ++ drop lent T))

    module _ (n-small : n < 18446744073709551616) (b-small : b < 18446744073709551616) {p q : Page} where
      pub lines_put : r ≡ fitting n b → {u : Page} → PlacedOn (counts_text 0 n b) p q → PlacedOn (take b (m ++ drop lent T)) q u
          → Piece (found_text (min room most_bytes) x) p u
      lines_put h c t =
          let w = written h in
          piece_as (said_as w.said) (
            on_next c (on_as t (sym (lines_there h))),
            omega (arith, length-append (counts_text 0 n b) (bytes_of x), counts_short 0 n b (omega arith) n-small b-small, w.fits, is-lent),
          )

      pub few_put : r ≡ too_small n b → PlacedOn (counts_text 8 n b) p q → Piece (found_text (min room most_bytes) x) p q
      few_put h c =
          piece_as (said_as (few_said x lent n b (sym (ap told h) ∙ searched))) (c, omega (arith, counts_short 8 n b (omega arith) n-small b-small))

  pub full_put : r ≡ row_full → {p q : Page} → PlacedOn (counts_text 9 0 0) p q → Piece (found_text (min room most_bytes) x) p q
  full_put h c =
      piece_as (said_as (full_said x lent (sym (ap told h) ∙ searched)))
      (c, omega (arith, counts_short 9 0 0 (omega arith) (omega arith) (omega arith)))
