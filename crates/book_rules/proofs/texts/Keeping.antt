-- Laws of the texts of a book: each has its part of the bytes, so that a further one leaves those before it. Assumes nothing.
use mathlib.Core.Path.{◌≡◌, refl, sym, ◌∙◌, ap, ap₂}
use mathlib.Core.Bool.{Bool, cond}
use mathlib.Core.List.{List, [], ◌∷◌, ◌++◌, map, append_assoc, map-append}
use Prim.Native.Nat.{ℕ, ◌+◌, ◌-◌, ◌*◌, ◌≤◌, ◌<◌, min}
use native.Mathlib.Omega.{arith}
use lib.ListN.{length, take, drop, get_or, length-map, length-set}
use lib.Seq.{sets, sets-eq, length-sets, length-take-le, take-take, take_at, drop_at, get_or-set_same, get_or-set_other}
use borrow.Author.Tests.{le-leb, lt-leb}
use Rattle.base_limits.specs.Limits.{most_rules, longest_rule}
use Rattle.base_lists.specs.Seqs.{tabulate, tabulate_same, tabulate_long, tabulate_last, tabulate_at}
use Rattle.base_lists.specs.Arrays.{part_of, mapped_at}
use Rattle.text_grammar.specs.Terms.{OurFields}
use Rattle.book_spec.specs.Books.{Book, rule_at, meet}
use Rattle.overlap_spec.specs.Overlaps.{overlapping}
use Rattle.book_rules.specs.declared.texts.Kept.{Kept}
use Rattle.book_rules.specs.texts.Keeping.{book_bytes, no_texts, room_for, text_at, texts_in, said_by, book_in, kept_more, Keeps}

-- what there is room for, there is room for as a whole
pub room_in : (n k : ℕ) → k < room_for n → (k < most_rules) × (k * longest_rule + longest_rule ≤ n)
room_in n k h = (omega arith, omega arith)

-- ---- the texts, where all have room

module _ (kept : Kept) (row : List ℕ) (room : kept.n ≤ room_for (length row)) where
  pub texts_are : texts_in kept row ≡ tabulate kept.n (text_at kept row)
  texts_are = ap (λ (b : Bool). cond b (tabulate kept.n (text_at kept row)) []) (le-leb kept.n (room_for (length row)) room)

  texts_long : length (texts_in kept row) ≡ kept.n
  texts_long = ap length texts_are ∙ tabulate_long kept.n (text_at kept row)

  pub book_long : length (book_in kept row) ≡ kept.n
  book_long = length-map (texts_in kept row) said_by ∙ texts_long

  pub rule_is : (i : ℕ) → i < kept.n → rule_at (book_in kept row) i ≡ said_by (text_at kept row i)
  rule_is i h =
      mapped_at said_by (texts_in kept row) i [] [] (omega (arith, texts_long))
      ∙ ap (λ (ts : List (List ℕ)). said_by (get_or ts i [])) texts_are
      ∙ ap said_by (tabulate_at kept.n (text_at kept row) i [] h)

  pub meet_is : (i j : ℕ) → i < kept.n → j < kept.n
      → overlapping (said_by (text_at kept row i)) (said_by (text_at kept row j)) ≡ meet (book_in kept row) (i, j)
  meet_is i j h k = sym (ap₂ overlapping (rule_is i h) (rule_is j k))

-- more texts than there is room for
pub none_in : (kept : Kept) (row : List ℕ) → room_for (length row) < kept.n → book_in kept row ≡ []
none_in kept row h =
    ap (λ (b : Bool). map said_by (cond b (tabulate kept.n (text_at kept row)) [])) (lt-leb kept.n (room_for (length row)) h)

-- a text as a part of the bytes, between its two ends
pub text_part : (kept : Kept) (row : List ℕ) (i size : ℕ) → size ≡ min (get_or kept.sizes i 0) longest_rule
    → take (i * longest_rule + size - i * longest_rule) (drop (i * longest_rule) row) ≡ text_at kept row i
text_part kept row i size e =
    let d : i * longest_rule + size - i * longest_rule ≡ size = omega arith in
    ap (λ (m : ℕ). take m (drop (i * longest_rule) row)) (d ∙ e)

-- ---- one text more

module _ (kept : Kept) (long : length kept.sizes ≡ most_rules) (text old : List ℕ) (room : kept.n < room_for (length old))
    (short : length text ≤ longest_rule) where
  abbrev start : ℕ
  start = kept.n * longest_rule

  abbrev new : List ℕ
  new = sets old start text

  abbrev rest : List ℕ
  rest = drop (start + length text) old

  inside : start + longest_rule ≤ length old
  inside = (room_in (length old) kept.n room).1

  parts : new ≡ take start old ++ (text ++ rest)
  parts = sets-eq text old start (omega (arith, inside)) ∙ append_assoc (take start old) text rest

  front_long : length (take start old) ≡ start
  front_long = length-take-le start old (omega (arith, inside))

  front_kept : (m : ℕ) → m ≤ start → take m new ≡ take m old
  front_kept m h =
      sym (take-take m start new h)
      ∙ ap (take m) (ap (take start) parts ∙ take_at (take start old) (text ++ rest) start front_long)
      ∙ take-take m start old h

  text_before : (k : ℕ) → k < kept.n → text_at (kept_more kept text) new k ≡ text_at kept old k
  text_before k h =
      let size = get_or kept.sizes k 0 in
      let m = min size longest_rule in
      let b = k * longest_rule in
      ap (λ (s : ℕ). take (min s longest_rule) (drop b new)) (get_or-set_other kept.sizes kept.n k (length text) 0 (λ e. omega (arith, e, h)))
      ∙ part_of b m new
      ∙ ap (drop b) (front_kept (b + m) (omega arith))
      ∙ sym (part_of b m old)

  text_last : text_at (kept_more kept text) new kept.n ≡ text
  text_last =
      let e : min (length text) longest_rule ≡ length text = omega arith in
      ap (λ (s : ℕ). take (min s longest_rule) (drop start new))
      (get_or-set_same kept.sizes kept.n (length text) 0 (omega (arith, long, (room_in (length old) kept.n room).0)))
      ∙ ap₂ take e (ap (drop start) parts ∙ drop_at (take start old) (text ++ rest) start front_long)
      ∙ take_at text rest (length text) refl

  pub more_room : kept.n + 1 ≤ room_for (length new)
  more_room = let e = length-sets old start text in omega (arith, ap room_for e)

  pub texts_more : texts_in (kept_more kept text) new ≡ texts_in kept old ++ (text ∷ [])
  texts_more =
      texts_are (kept_more kept text) new more_room
      ∙ tabulate_last kept.n (text_at (kept_more kept text) new)
      ∙ ap₂ (λ (ts : List (List ℕ)) (t : List ℕ). ts ++ (t ∷ []))
      (tabulate_same kept.n (text_at (kept_more kept text) new) (text_at kept old) text_before
      ∙ sym (texts_are kept old (omega (arith, room))))
      text_last

  pub book_more : book_in (kept_more kept text) new ≡ book_in kept old ++ (said_by text ∷ [])
  book_more = ap (map said_by) texts_more ∙ map-append said_by (texts_in kept old) (text ∷ [])

-- ---- texts kept one after the other, in the bytes of a whole book

pub nothing_in : (row : List ℕ) → book_in no_texts row ≡ []
nothing_in row = ap (λ (b : Bool). map said_by (cond b [] [])) (le-leb 0 (room_for (length row)) (omega arith))

-- n texts are kept, and say the book B
pub record Stands (n : ℕ) (B : Book) (kept : Kept) (row : List ℕ) : Type 0 where
  pub count : kept.n ≡ n
  pub sizes : length kept.sizes ≡ most_rules
  pub bytes : length row ≡ book_bytes
  pub book : book_in kept row ≡ B

pub stands_none : (row : List ℕ) → length row ≡ book_bytes → Stands 0 [] no_texts row
stands_none row e = record { count = refl; sizes = refl; bytes = e; book = nothing_in row }

module _ {n : ℕ} {B : Book} {kept : Kept} {row : List ℕ} (S : Stands n B kept row) (h : n < most_rules) where
  pub stands_room : kept.n < room_for (length row)
  stands_room = omega (arith, S.count, h, ap room_for S.bytes)

  pub stands_more : (text : List ℕ) (x : OurFields) (next : Kept) (new : List ℕ) → length text ≤ longest_rule → said_by text ≡ x
      → Keeps kept text row next new → Stands (n + 1) (B ++ (x ∷ [])) next new
  stands_more text x next new short is k =
      record {
        count = ap (λ (y : Kept). y.n) k.0 ∙ ap (λ (m : ℕ). m + 1) S.count;
        sizes = ap (λ (y : Kept). length y.sizes) k.0 ∙ length-set kept.sizes kept.n (length text) ∙ S.sizes;
        bytes = ap length k.1 ∙ length-sets row (kept.n * longest_rule) text ∙ S.bytes;
        book =
            ap₂ book_in k.0 k.1
            ∙ book_more kept S.sizes text row stands_room short
            ∙ ap₂ (λ (C : Book) (y : OurFields). C ++ (y ∷ [])) S.book is;
      }
