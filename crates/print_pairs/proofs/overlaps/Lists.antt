-- What the lister leaves in the part of the room that is lent to it, by its answer. Assumes nothing.
use mathlib.Core.Path.{◌≡◌, sym, ap, ◌∙◌, subst}
use mathlib.Core.List.{List, [], ◌++◌, append_assoc}
use Prim.Native.Nat.{ℕ, ◌+◌, ◌≤◌, ◌<◌}
use native.Mathlib.Omega.{arith}
use lib.ListN.{length, take, drop, length-append, length-drop, take-append-drop}
use lib.Seq.{sets, sets-eq, length-take-le, drop-append-le, drop-drop}
use borrow.Author.Tests.{le-leb, lt-leb}
use Rattle.base_limits.specs.Limits.{most_list_bytes}
use Rattle.text_grammar.specs.Terms.{OurFields}
use Rattle.text_grammar.specs.Ascii.{ascii, newline}
use Rattle.text_grammar.specs.Numbers.{digits_of}
use Rattle.text_write.specs.Answers.{after}
use Rattle.text_write.proofs.Digits.{digits_64}
use Rattle.overlap_spec.specs.Overlaps.{lines_of, overlap_text}
use Rattle.std.specs.Prelude.{Ok, Err}
use Rattle.overlap_counts.specs.declared.Counts.{Counts}
use Rattle.overlap_list.specs.Answers.{Listed, Lists}
use Rattle.overlap_list.proofs.Rules.{none_listed}
use Rattle.overlap_list.proofs.Answers.{written, kept, lines_told, small_told}
use Rattle.text_write.specs.pieces.Placed.{Placed}
use Rattle.text_write.proofs.pieces.Pieces.{placed_as}
use Rattle.text_write.proofs.pieces.Bounds.{Piece, piece_as}
use Rattle.print_pairs.specs.overlaps.Texts.{listed_text}

-- what stands behind a text at the front of the part of n bytes from `at` on
part_rest : (t old : List ℕ) (at n : ℕ) → length t ≤ n → at + n ≤ length old
    → drop (length t) (take n (drop at old)) ++ drop n (drop at old) ≡ drop (at + length t) old
part_rest t old at n h k =
    let d = drop at old in
    sym (drop-append-le (length t) (take n d) (drop n d) (omega (arith, length-take-le n d (omega (arith, length-drop at old)))))
    ∙ ap (drop (length t)) (take-append-drop n d)
    ∙ drop-drop (length t) at old

-- the text in that part is the text stored at `at`
part_stored : (t old : List ℕ) (at n : ℕ) → length t ≤ n → at + n ≤ length old
    → take at old ++ ((t ++ drop (length t) (take n (drop at old))) ++ drop n (drop at old)) ≡ sets old at t
part_stored t old at n h k =
    ap (λ (r : List ℕ). take at old ++ r) (append_assoc t (drop (length t) (take n (drop at old))) (drop n (drop at old)))
    ∙ ap (λ (r : List ℕ). take at old ++ (t ++ r)) (part_rest t old at n h k)
    ∙ sym (append_assoc (take at old) t (drop (at + length t) old))
    ∙ sym (sets-eq t old at (omega arith))

-- a size of 64 bits is short
long_short : (b : ℕ) → b < 18446744073709551616 → length (ascii "too long " ++ digits_of b ++ newline) ≤ most_list_bytes
long_short b h = omega (arith, length-append (ascii "too long " ++ digits_of b) newline, length-append (ascii "too long ") (digits_of b), digits_64 b h)

module _ (x y : OurFields) (old : List ℕ) (at n : ℕ) (is_n : n ≡ most_list_bytes) (room : at + most_list_bytes ≤ length old) where
  abbrev text : List ℕ
  text = overlap_text x y

  -- the bytes that are lent
  abbrev part : List ℕ
  part = take n (drop at old)

  part_long : length part ≡ most_list_bytes
  part_long = length-take-le n (drop at old) (omega (arith, length-drop at old)) ∙ is_n

  -- the whole room, with m in the place of what was lent
  abbrev pub room_with : List ℕ → List ℕ
  room_with m = take at old ++ (m ++ drop n (drop at old))

  -- where there are no lines the bytes are as they were
  pub none_put : {m : List ℕ} → m ≡ after text part → lines_of x y ≡ [] → room_with m ≡ old
  none_put is h =
      ap room_with (is ∙ sym (none_listed x y h part).bytes)
      ∙ ap (λ (l : List ℕ). take at old ++ l) (take-append-drop n (drop at old))
      ∙ take-append-drop at old

  module _ {r : Listed} {m : List ℕ} (is : Lists x y part r m) (c : Counts) where
    lines_fit : r ≡ Ok c → (c.bytes ≡ length text) × (length text ≤ most_list_bytes)
    lines_fit h = let f = lines_told is c h in (f.0, omega (arith, f.1, part_long))

    too_many : r ≡ Err (record { counts = c }) → (c.bytes ≡ length text) × (most_list_bytes < length text)
    too_many h = let f = small_told is c h in (f.0, omega (arith, f.1, part_long))

    -- the list was written
    pub list_in : r ≡ Ok c → at + c.bytes ≤ length old
    list_in h = omega (arith, lines_fit h)

    pub list_put : r ≡ Ok c → Piece most_list_bytes (listed_text text) at old (at + c.bytes) (room_with m)
    list_put h =
        let f = lines_fit h in
        let whole : listed_text text ≡ text = rw (le-leb (length text) most_list_bytes f.1) in (
          placed_as at old whole (
            omega (arith, f.0, f.1),
            ap room_with (written is (omega (arith, f.1, part_long))) ∙ part_stored text old at n (omega (arith, f.1)) (omega arith),
          ),
          omega (arith, ap length whole, f.1),
        )

    -- it has no room there, and the bytes are as they were
    list_left : r ≡ Err (record { counts = c }) → room_with m ≡ old
    list_left h =
        let f = too_many h in
        ap room_with (kept is (omega (arith, f.1, part_long)))
        ∙ ap (λ (l : List ℕ). take at old ++ l) (take-append-drop n (drop at old))
        ∙ take-append-drop at old

    list_long : r ≡ Err (record { counts = c }) → listed_text text ≡ ascii "too long " ++ digits_of c.bytes ++ newline
    list_long h =
        let f = too_many h in
        rw (lt-leb (length text) most_list_bytes f.1) (ap (λ (k : ℕ). ascii "too long " ++ digits_of k ++ newline) (sym f.0))

    pub list_refused : r ≡ Err (record { counts = c }) → c.bytes < 18446744073709551616 → {p : ℕ} {new : List ℕ}
        → Placed (ascii "too long " ++ digits_of c.bytes ++ newline) at (room_with m) p new → Piece most_list_bytes (listed_text text) at old p new
    list_refused h k {p} {new} q =
        let there = subst (λ (l : List ℕ). Placed (ascii "too long " ++ digits_of c.bytes ++ newline) at l p new) (list_left h) q in
        piece_as most_list_bytes at old (list_long h) (there, long_short c.bytes k)
