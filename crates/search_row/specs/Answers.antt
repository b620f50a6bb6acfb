-- What searching answers, of the lines of the search; and what it comes to by the machine of crate `search_steps`.
use Rattle.std.specs.Prelude.{◌≡◌, false, cond, List, [], ◌∷◌, ℕ, Result, Ok, Err, leb, length}
use Rattle.std.proofs.Math.Option.{none, some}
use Rattle.text_grammar.specs.Told.{Told, by_room}
use Rattle.text_values.specs.Values.{Field}
use Rattle.text_accepted.specs.Accepted.{counted_field}
use Rattle.text_write.specs.Answers.{after}
use Rattle.search_spec.specs.Answers.{Lines, lines, nine, lines_for, bytes_of}
use Rattle.search_problems.specs.declared.Problem.{Problem}
use Rattle.search_steps.specs.declared.turns.State.{State}
use Rattle.search_steps.specs.Row.{blanks}
use Rattle.search_steps.specs.starts.Starts.{begun, again}
use Rattle.search_steps.specs.Machine as machine
use Rattle.search_steps.specs.Machine.{Config, conf, Ends, Reaches, from_root}
use Rattle.search_row.specs.declared.Found.{Found}
use Rattle.search_row.specs.declared.SearchRefusal.{SearchRefusal}
use Rattle.search_row.specs.declared.SearchRefusal.TheVariants.{TooSmall, Full}

-- what a search answers
abbrev pub Searched : Type 0
Searched = Result Found SearchRefusal

-- n lines of b bytes were written; they would need more room than there is, and none was written; the row has too few records
abbrev pub fitting : ℕ → ℕ → Searched
fitting n b = Ok (record { lines = n; bytes = b })

abbrev pub too_small : ℕ → ℕ → Searched
too_small n b = Err (TooSmall (record { lines = n; bytes = b }))

abbrev pub row_full : Searched
row_full = Err Full

-- document 01's number and values of each answer: "Line and byte counts are returned"; "9: .. both counts are 0. 8: .. the line count and
-- the needed byte count are returned."
abbrev pub told : Searched → Told
told (Ok f) = record { number = none; values = f.lines ∷ (f.bytes ∷ []) }
told (Err (TooSmall f)) = record { number = some 8; values = f.lines ∷ (f.bytes ∷ []) }
told (Err Full) = record { number = some 9; values = 0 ∷ (0 ∷ []) }

-- THE ANSWER, of the lines and the room of the lent buffer: "8: the lines need more bytes than the output buffer has"; "9 is tried before
-- 8"
abbrev pub searched_of : Lines → ℕ → Told
searched_of (lines ls) room = by_room (length (bytes_of (lines ls))) room (length ls ∷ (length (bytes_of (lines ls)) ∷ []))
searched_of nine room = record { number = some 9; values = 0 ∷ (0 ∷ []) }

-- the lines of two field values over a row of so many records; one that no reading can return counts as no field
abbrev pub found_in : ℕ → Field → Field → Lines
found_in room f g = lines_for room (counted_field f) (counted_field g)

-- WHAT A SEARCH PROMISES of two field values, the lent records and the lent bytes `old`: its answer, what the bytes are afterwards, and
-- "every record of the row is the blank record .. refused or not"
pub record Searches (f g : Field) (records : List Problem) (old : List ℕ) (r : Searched) (records' : List Problem)
    (new : List ℕ) : Type 0 where
  pub answer : told r ≡ searched_of (found_in (length records) f g) (length old)
  pub output : new ≡ after (bytes_of (found_in (length records) f g)) old
  pub row : records' ≡ blanks (length records)

-- ---- by the machine

-- the answer, of the state that counting ended in and the room of the output. Document 01: "9 is tried before 8"
abbrev pub reported : State → ℕ → Searched
reported t room = cond t.refused row_full (cond (leb t.bytes room) (fitting t.lines t.bytes) (too_small t.lines t.bytes))

module _ (f g : Field) (row : List Problem) (out : List ℕ) where
  -- where counting starts, and where writing starts after the count ended in c
  abbrev pub counting : Config
  counting = from_root (conf (begun f g (length row)) row out)

  abbrev pub writing : Config → Config
  writing c = from_root (conf (again (begun f g (length row)) c.state (length out)) c.row c.out)

  -- both searches end
  pub record Halts : Type 0 where
    pub count : Ends counting
    pub write : (c : Config) → Reaches counting c → Ends (writing c)

  -- n turns are enough for each
  pub record Enough (n : ℕ) : Type 0 where
    pub count : (machine.after n counting).state.busy ≡ false
    pub write : (c : Config) → Reaches counting c → (machine.after n (writing c)).state.busy ≡ false

  -- what is answered, and what is left in the row and in the output
  pub record Done (r : Searched) (row' : List Problem) (out' : List ℕ) : Type 0 where
    pub counted : Config
    pub counts : Reaches counting counted
    pub written : Config
    pub writes : Reaches (writing counted) written
    pub answer : r ≡ reported counted.state (length out)
    pub leaves : out' ≡ written.out
    pub clears : row' ≡ blanks (length row)
