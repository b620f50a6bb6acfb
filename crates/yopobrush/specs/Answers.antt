-- What the library's functions answer, in the documents' numbers and values: of how a text is read, of the overlaps that two texts have,
-- and of whether they have one.
use Rattle.std.specs.Prelude.{◌≡◌, cond, List, [], ◌∷◌, ℕ, length}
use Rattle.std.proofs.Math.Option.{Option, none, some}
use Rattle.text_grammar.specs.Told.{by_room}
use Rattle.text_grammar.specs.Read.{number, OutcomeOf, refused, accepted}
use Rattle.text_grammar.specs.rules.Read.{OurRule, read_rule}
use Rattle.text_write.specs.Answers.{after}
use Rattle.overlap_spec.specs.Overlaps.{lines_of, overlap_text, overlapping}
use Rattle.text_read.specs.Answers.{left_said}
use Rattle.yopobrush.specs.declared.Reading.{Reading}
use Rattle.yopobrush.specs.declared.Listing.{Listing}
use Rattle.yopobrush.specs.declared.Overlapping.{Overlapping}

-- the documents' number of the refusal and its place; no refusal has the number 0
abbrev pub reading_of : {X : Type 0} → OutcomeOf X → Reading
reading_of (refused r p) = record { refusal = number r; place = p }
reading_of (accepted x) = record { refusal = 0; place = 0 }

-- a refusal's number, and 0 where there is none
abbrev pub numbered : Option ℕ → ℕ
numbered none = 0
numbered (some n) = n

-- "The entry count, which is their number, and the byte count, which is the length of all their lines, are returned. 8: as in searching,
-- with the entry count and the needed byte count": in a buffer of so much room; "A rule with no fields counts as having no entries"
-- (the overlaps of two rules are those of their left sides)
abbrev pub listing_of : OutcomeOf OurRule → OutcomeOf OurRule → ℕ → Listing
listing_of left right room =
    let entries = length (lines_of (left_said left) (left_said right)) in
    let bytes = length (overlap_text (left_said left) (left_said right)) in
    record {
      left = reading_of left;
      right = reading_of right;
      refusal = numbered (by_room bytes room (entries ∷ bytes ∷ [])).number;
      entries = entries;
      bytes = bytes;
    }

-- WHAT THE LIBRARY PROMISES of the texts t and u and the lent bytes `old`: the answer, and what the bytes are afterwards
pub record LibraryLists (t u old : List ℕ) (r : Listing) (new : List ℕ) : Type 0 where
  pub answer : r ≡ listing_of (read_rule t) (read_rule u) (length old)
  pub bytes : new ≡ after (overlap_text (left_said (read_rule t)) (left_said (read_rule u))) old

-- WHAT THE LIBRARY PROMISES of the texts t and u where only this is asked (document 02, E4, of a book's rules: "each overlapping pair"):
-- how each is read, and 1 where the list of their rules has an entry, 0 where it has none
pub record LibraryOverlaps (t u : List ℕ) (r : Overlapping) : Type 0 where
  pub left : r.left ≡ reading_of (read_rule t)
  pub right : r.right ≡ reading_of (read_rule u)
  pub overlap : r.overlap ≡ cond (overlapping (left_said (read_rule t)) (left_said (read_rule u))) 1 0
