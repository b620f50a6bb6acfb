-- Asks and commits computed from the definitions: the counts of document 01's pairs, and what a commit is told by counts and room.
use mathlib.Core.Path.{◌≡◌, refl}
use mathlib.Core.List.{List, [], ◌∷◌, map}
use mathlib.Core.Option.{none, some}
use Prim.Native.Nat.{ℕ}
use Prim.Native.String.{String}
use native.Mathlib.Decide.{ℕ_discrete, dec_le, dec_lt}
use Rattle.base_lists.specs.Seqs.{any?}
use Rattle.text_grammar.specs.Ascii.{ascii}
use Rattle.text_grammar.specs.Bytes.{digit?, begins, follows, first, holds}
use Rattle.text_grammar.specs.Tokens.{fifth?, many?, over?, clash?, clash_of?}
use Rattle.text_grammar.specs.Told.{Told}
use Rattle.text_grammar.specs.Read.{read_side}
use Rattle.text_read.specs.Answers.{side_said}
use Rattle.overlap_counts.specs.declared.Counts.{Counts}
use Rattle.overlap_counts.specs.Answers.{commit_told}
use Rattle.overlap_list.specs.asking.Answers.{counts_of}

abbrev counted : ℕ → ℕ → Counts
counted n b = record { entries = n; bytes = b }

-- of the left sides that two texts say
abbrev asked : String × String → Counts
asked p = counts_of (side_said (read_side (ascii p.0))) (side_said (read_side (ascii p.1)))

-- the last text is refused, and so says the rule with no fields
pub asks : map asked (
    ("a0:l0", "l0:2") ∷ ("l0", "l0") ∷ ("empty", "empty") ∷ ("i0", "2:l0") ∷ ("i0", "s0") ∷ ("1:2:l0", "l0:2:3") ∷
    ("i0|i0:l0", "3|a0") ∷ ("a0:a0", "i0:l0") ∷ ("l0", "l0|l1") ∷ ("l0", "i01") ∷ [])
    ≡ counted 2 62 ∷ counted 1 17 ∷ counted 1 6 ∷ counted 1 18 ∷ counted 0 0 ∷ counted 2 51 ∷
    counted 1 26 ∷ counted 1 27 ∷ counted 0 0 ∷ counted 0 0 ∷ []
unfolding dec_le dec_lt ℕ_discrete digit? begins follows first holds fifth? many? over? any? clash? clash_of?
asks = refl

-- a commit with the counts n and b, in so many bytes
abbrev Commit : Type 0
Commit = record { n : ℕ; b : ℕ; lent : ℕ }

abbrev commits : Counts → List Commit → List Told
commits c ds = map (λ (d : Commit). commit_told (counted d.n d.b) c d.lent) ds

abbrev stale : Told
stale = record { number = some 13; values = 0 ∷ 0 ∷ [] }

-- of a list with 2 entries and 62 bytes: one byte less, as many, one more; then counts that are not the list's, with room and without
pub commits_told :
    commits (counted 2 62) (
    record { n = 2; b = 62; lent = 61 } ∷ record { n = 2; b = 62; lent = 62 } ∷ record { n = 2; b = 62; lent = 63 } ∷
    record { n = 1; b = 62; lent = 62 } ∷ record { n = 2; b = 61; lent = 62 } ∷ record { n = 62; b = 2; lent = 62 } ∷
    record { n = 3; b = 62; lent = 0 } ∷ record { n = 0; b = 0; lent = 0 } ∷ [])
    ≡ record { number = some 8; values = 2 ∷ 62 ∷ [] } ∷ record { number = none; values = 2 ∷ 62 ∷ [] } ∷
    record { number = none; values = 2 ∷ 62 ∷ [] } ∷ stale ∷ stale ∷ stale ∷ stale ∷ stale ∷ []
commits_told = refl

-- of a list with no entries
pub none_told :
    commits (counted 0 0) (record { n = 0; b = 0; lent = 0 } ∷ record { n = 0; b = 1; lent = 9 } ∷ record { n = 1; b = 0; lent = 9 } ∷ [])
    ≡ record { number = none; values = 0 ∷ 0 ∷ [] } ∷ stale ∷ stale ∷ []
none_told = refl
