-- What listing overlaps answers, and what it leaves in the lent bytes. Document 01: "The lines written are those of the entries, in their
-- order. The entry count, which is their number, and the byte count, which is the length of all their lines, are returned.
-- 8: as in searching, with the entry count and the needed byte count, the old bytes left."
use Rattle.std.specs.Prelude.{◌≡◌, Result, Ok, Err, List, [], ◌∷◌, map, ℕ, length}
use Rattle.std.proofs.Math.Option.{none, some}
use Rattle.text_grammar.specs.Told.{Told, by_room}
use Rattle.text_grammar.specs.Terms.{OurFields}
use Rattle.text_grammar.specs.Plain.{plain}
use Rattle.text_grammar.specs.rules.Read.{read_rule}
use Rattle.text_refusals.specs.verdicts.Verdicts.{verdict_of}
use Rattle.text_read.specs.Answers.{left_said}
use Rattle.text_write.specs.Answers.{after}
use Rattle.text_write.specs.pieces.Stored.{bytes_of}
use Rattle.overlap_spec.specs.Lines.{line_text}
use Rattle.overlap_spec.specs.Overlaps.{lines_of, overlap_text}
use Rattle.text_values.specs.declared.Rule.{Rule}
use Rattle.text_accepted.specs.rules.Rules.{counted_rule}
use Rattle.overlap_counts.specs.declared.Counts.{Counts}
use Rattle.overlap_counts.specs.declared.NoRoom.{NoRoom}
use Rattle.overlap_list.specs.declared.TextsListed.{TextsListed}
use Rattle.overlap_list.specs.declared.TextsNoted.{TextsNoted}
use Rattle.overlap_list.specs.Listing.{pair_lines, Listable}

-- what listing returns: the list's counts, or that it has no room
abbrev pub Listed : Type 0
Listed = Result Counts NoRoom

-- document 01's number and values of each answer: "The entry count .. and the byte count .. are returned. 8: as in searching, with the
-- entry count and the needed byte count"
abbrev pub told : Listed → Told
told (Ok c) = record { number = none; values = c.entries ∷ c.bytes ∷ [] }
told (Err r) = record { number = some 8; values = r.counts.entries ∷ r.counts.bytes ∷ [] }

-- WHAT LISTING PROMISES of the rules with the left sides x and y and the lent bytes `old`: the answer, and what the bytes are afterwards
pub record Lists (x y : OurFields) (old : List ℕ) (r : Listed) (new : List ℕ) : Type 0 where
  pub answer : told r ≡ by_room (length (overlap_text x y)) (length old) (length (lines_of x y) ∷ length (overlap_text x y) ∷ [])
  pub bytes : new ≡ after (overlap_text x y) old

-- ---- of texts

-- WHAT LISTING PROMISES of the texts t and u: how each is read, and the list of the left sides of the rules that they say
pub record TextsList (t u old : List ℕ) (r : TextsListed) (new : List ℕ) : Type 0 where
  pub left : r.left ≡ verdict_of (read_rule t)
  pub right : r.right ≡ verdict_of (read_rule u)
  pub listed : Lists (left_said (read_rule t)) (left_said (read_rule u)) old r.listed new

-- ---- of lines as bytes: `lines_list` of proofs/ says that they are listed as `Lists` has it

pub record ListsLines (ls : List (List ℕ)) (old : List ℕ) (r : Listed) (new : List ℕ) : Type 0 where
  pub answer : told r ≡ by_room (length (bytes_of ls)) (length old) (length ls ∷ length (bytes_of ls) ∷ [])
  pub bytes : new ≡ after (bytes_of ls) old

-- the tables of the rules that two texts say, from which list, ask, commit and the test of an overlap start: how each text is read, and
-- that the lines on the tables are those of the list
pub record NotesTexts (t u : List ℕ) (r : TextsNoted) (row texts : List ℕ) : Type 0 where
  pub left : r.left ≡ verdict_of (read_rule t)
  pub right : r.right ≡ verdict_of (read_rule u)
  pub listable : Listable r.pair row texts
  pub lines : pair_lines r.pair row texts ≡ map line_text (lines_of (left_said (read_rule t)) (left_said (read_rule u)))

-- ---- of values

-- the plain text of the left side of what a rule counts as
abbrev pub left_plain : Rule → List ℕ
left_plain v = plain (counted_rule v).0
