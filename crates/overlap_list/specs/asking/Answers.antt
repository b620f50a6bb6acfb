-- What asking for an overlap list answers, and what a commit answers and leaves. Document 02: "an ask, which returns the entry count and
-- byte count and touches no buffer, and a commit, which takes those two counts, the rules and the buffer".
use Rattle.std.specs.Prelude.{◌≡◌, List, ℕ, length}
use Rattle.text_grammar.specs.Terms.{OurFields}
use Rattle.text_grammar.specs.rules.Read.{read_rule}
use Rattle.text_refusals.specs.verdicts.Verdicts.{verdict_of}
use Rattle.text_read.specs.Answers.{left_said}
use Rattle.text_write.specs.pieces.Stored.{bytes_of}
use Rattle.overlap_spec.specs.Overlaps.{lines_of, overlap_text}
use Rattle.overlap_counts.specs.declared.Counts.{Counts}
use Rattle.overlap_counts.specs.Answers.{Committed}
use Rattle.overlap_counts.specs.Answers as list
use Rattle.overlap_list.specs.declared.asking.TextsAsked.{TextsAsked}
use Rattle.overlap_list.specs.declared.asking.TextsCommitted.{TextsCommitted}

-- "The two counts are those of the definition's list": of the rules with the left sides x and y; a rule with no fields has the counts 0
-- and 0
abbrev pub counts_of : OurFields → OurFields → Counts
counts_of x y = record { entries = length (lines_of x y); bytes = length (overlap_text x y) }

-- WHAT A COMMIT PROMISES of these rules, the counts `asked` and the lent bytes `old`: the answer, and what the bytes are afterwards
abbrev pub Commits : Counts → OurFields → OurFields → List ℕ → Committed → List ℕ → Type 0
Commits asked x y old r new = list.Commits asked (counts_of x y) (overlap_text x y) old r new

-- ---- of texts: how each is read, and the answer to the left sides of the rules that they say

pub record TextsAsk (t u : List ℕ) (r : TextsAsked) : Type 0 where
  pub left : r.left ≡ verdict_of (read_rule t)
  pub right : r.right ≡ verdict_of (read_rule u)
  pub counts : r.counts ≡ counts_of (left_said (read_rule t)) (left_said (read_rule u))

pub record TextsCommit (asked : Counts) (t u old : List ℕ) (r : TextsCommitted) (new : List ℕ) : Type 0 where
  pub left : r.left ≡ verdict_of (read_rule t)
  pub right : r.right ≡ verdict_of (read_rule u)
  pub committed : Commits asked (left_said (read_rule t)) (left_said (read_rule u)) old r.committed new

-- ---- of lines as bytes: `lines_commit` of proofs/ says that they are committed as `Commits` has it

abbrev pub line_counts : List (List ℕ) → Counts
line_counts ls = record { entries = length ls; bytes = length (bytes_of ls) }

abbrev pub CommitsLines : Counts → List (List ℕ) → List ℕ → Committed → List ℕ → Type 0
CommitsLines asked ls old r new = list.Commits asked (line_counts ls) (bytes_of ls) old r new
