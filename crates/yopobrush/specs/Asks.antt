-- What the library answers where an overlap list is asked for first, in the documents' numbers and values, of two texts. Document 02:
-- "Listing splits into an ask, which returns the entry count and byte count and touches no buffer, and a commit, which takes those two
-- counts, the rules and the buffer".
use Rattle.std.specs.Prelude.{◌≡◌, List, ℕ, length, get_or}
use Rattle.text_grammar.specs.Told.{Told}
use Rattle.text_grammar.specs.Read.{OutcomeOf}
use Rattle.text_grammar.specs.rules.Read.{OurRule, read_rule}
use Rattle.text_read.specs.Answers.{left_said}
use Rattle.overlap_spec.specs.Overlaps.{overlap_text}
use Rattle.overlap_counts.specs.declared.Counts.{Counts}
use Rattle.overlap_counts.specs.Answers.{commit_told, commit_leaves}
use Rattle.overlap_list.specs.asking.Answers.{counts_of}
use Rattle.yopobrush.specs.declared.Reading.{Reading}
use Rattle.yopobrush.specs.declared.Listing.{Listing}
use Rattle.yopobrush.specs.declared.Asking.{Asking}
use Rattle.yopobrush.specs.Answers.{reading_of, numbered}

-- "The two counts are those of the definition's list": of the left sides of what the texts say; a text that is refused says the rule with
-- no fields, which has the counts 0 and 0
abbrev pub counts_said : OutcomeOf OurRule → OutcomeOf OurRule → Counts
counts_said left right = counts_of (left_said left) (left_said right)

-- "an ask, which returns the entry count and byte count", and how each text is read
abbrev pub asking_of : OutcomeOf OurRule → OutcomeOf OurRule → Asking
asking_of left right =
    let counts = counts_said left right in
    record { left = reading_of left; right = reading_of right; entries = counts.entries; bytes = counts.bytes }

-- an answer's number, and the two values that it returns: the entry count and the byte count
abbrev pub listing_told : Reading → Reading → Told → Listing
listing_told left right a =
    record { left = left; right = right; refusal = numbered a.number; entries = get_or a.values 0 0; bytes = get_or a.values 1 0 }

-- "Refusal 13 is a commit whose counts aren't those of its rules, tried before 8; it returns both counts as 0": with the counts `asked`, in
-- a buffer of so much room
abbrev pub committing_of : Counts → OutcomeOf OurRule → OutcomeOf OurRule → ℕ → Listing
committing_of asked left right room = listing_told (reading_of left) (reading_of right) (commit_told asked (counts_said left right) room)

-- "Ask then commit on the same rules leaves the bytes that the old call left"; 13 "leaves the buffer's old bytes"
abbrev pub committed_bytes : Counts → OutcomeOf OurRule → OutcomeOf OurRule → List ℕ → List ℕ
committed_bytes asked left right old =
    commit_leaves asked (counts_said left right) (overlap_text (left_said left) (left_said right)) old

-- WHAT THE LIBRARY PROMISES of the texts t and u where their list is asked for: no bytes are lent
pub record LibraryAsks (t u : List ℕ) (r : Asking) : Type 0 where
  pub answer : r ≡ asking_of (read_rule t) (read_rule u)

-- WHAT THE LIBRARY PROMISES of a commit with the counts `asked`, of the texts t and u and the lent bytes `old`: the answer, and what the
-- bytes are afterwards
pub record LibraryCommits (asked : Counts) (t u old : List ℕ) (r : Listing) (new : List ℕ) : Type 0 where
  pub answer : r ≡ committing_of asked (read_rule t) (read_rule u) (length old)
  pub bytes : new ≡ committed_bytes asked (read_rule t) (read_rule u) old
