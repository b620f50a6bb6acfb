-- What a commit answers and leaves, of any list. Document 02: "a commit, which takes those two counts, the rules and the buffer"; "Refusal
-- 13 is a commit whose counts aren't those of its rules, tried before 8; it returns both counts as 0 and leaves the buffer's old bytes".
use Rattle.std.specs.Prelude.{◌≡◌, Result, Ok, Err, Bool, cond, ◌&&◌, List, [], ◌∷◌, ℕ, eqb, length}
use Rattle.std.proofs.Math.Option.{none, some}
use Rattle.text_grammar.specs.Told.{Told, by_room}
use Rattle.text_write.specs.Answers.{after}
use Rattle.overlap_counts.specs.declared.Counts.{Counts}
use Rattle.overlap_counts.specs.declared.CommitRefusal.{CommitRefusal}
use Rattle.overlap_counts.specs.declared.CommitRefusal.TheVariants.{NoRoom, Stale}

-- no lines
abbrev pub no_counts : Counts
no_counts = record { entries = 0; bytes = 0 }

-- what a commit returns: the list's counts, or why nothing was written
abbrev pub Committed : Type 0
Committed = Result Counts CommitRefusal

-- the documents' number and values of each answer: both counts, or "both counts as 0"
abbrev pub told : Committed → Told
told (Ok c) = record { number = none; values = c.entries ∷ c.bytes ∷ [] }
told (Err (NoRoom c)) = record { number = some 8; values = c.entries ∷ c.bytes ∷ [] }
told (Err Stale) = record { number = some 13; values = 0 ∷ 0 ∷ [] }

-- whether the counts are the list's: both of them
abbrev pub same_counts : Counts → Counts → Bool
same_counts asked c = eqb asked.entries c.entries && eqb asked.bytes c.bytes

-- "tried before 8": what is told of a list with the counts c where so many bytes are lent
abbrev pub commit_told : Counts → Counts → ℕ → Told
commit_told asked c lent =
    cond (same_counts asked c) (by_room c.bytes lent (c.entries ∷ c.bytes ∷ [])) (told (Err Stale))

-- what the lent bytes `old` are afterwards, where the list has the bytes `text`: 13 "leaves the buffer's old bytes", as 8 does (`after`)
abbrev pub commit_leaves : Counts → Counts → List ℕ → List ℕ → List ℕ
commit_leaves asked c text old = cond (same_counts asked c) (after text old) old

-- WHAT A COMMIT PROMISES of a list with the counts c and the bytes `text`, and of the lent bytes `old`: the answer, and what the bytes are
-- afterwards
pub record Commits (asked c : Counts) (text old : List ℕ) (r : Committed) (new : List ℕ) : Type 0 where
  pub answer : told r ≡ commit_told asked c (length old)
  pub bytes : new ≡ commit_leaves asked c text old
