-- THE NEXT LINE: what is done with whatever the reads bring.
-- Which bytes they bring, and whether a read or a write fails, only the system knows.
use Rattle.std.specs.Prelude.{◌≡◌, Bool, true, false, List, [], ◌++◌, ℕ, ◌+◌, ◌≤◌, ◌<◌, min, eqb, ltb, length, take, drop}
use Rattle.base_bytes.specs.Bytes.{index_of}
use Rattle.line_io.specs.declared.Input.{Input}
use Rattle.line_io.specs.declared.Line.{Line}
use Rattle.line_io.specs.declared.Output.{Output}
use Rattle.line_io.specs.declared.State.{State}
use Rattle.line_io.specs.Placing.{placed}
use Rattle.line_io.specs.Taking.{untaken, in_chunk, added_bytes, stepped}
use Rattle.line_io.specs.Putting.{Written}

-- ---- a line of bytes

-- n is how many bytes some front of v has
abbrev pub IsPrefixLen : ℕ → List ℕ → Type 0
IsPrefixLen n v = (n ≤ length v) × (n ≡ length (take n v))

-- whether v has a newline (byte 10)
abbrev pub newline_in : List ℕ → Bool
newline_in v = ltb (index_of 10 v) (length v)

-- the bytes before the first newline; all, where there is none
abbrev pub first_line : List ℕ → List ℕ
first_line v = take (index_of 10 v) v

-- the bytes behind it
abbrev pub behind_line : List ℕ → List ℕ
behind_line v = drop (index_of 10 v + 1) v

-- what is known of the first line of v, where the line buffer has `size` bytes
abbrev pub line_of : List ℕ → Bool → ℕ → Line
line_of v w size = record { found = ltb 0 (length v); whole = w; kept = min (index_of 10 v) size; cut = ltb size (index_of 10 v) }

-- ---- one read at most

-- what there is to take: what waits in the chunk; nothing, where the input's end was met; or what a read brings to the chunk's front
pub data Fills (i r : Input) (chunk chunk' : List ℕ) : Type 0 where
  waits : 0 < length (untaken i chunk) → chunk' ≡ chunk → r ≡ i → Fills i r chunk chunk'
  dry : untaken i chunk ≡ [] → i.ended ≡ true → chunk' ≡ chunk → r ≡ record { at = 0; end = 0; ended = true; failed = i.failed }
      → Fills i r chunk chunk'
  reads : untaken i chunk ≡ [] → i.ended ≡ false → r.at ≡ 0 → r.ended ≡ eqb r.end 0 → (r.failed ≡ true → r.end ≡ 0)
      → Fills i r chunk chunk'

pub record Refills (i r : Input) (chunk chunk' : List ℕ) : Type 0 where
  pub order : r.at ≤ r.end
  pub within : r.end ≤ length chunk'
  pub fills : Fills i r chunk chunk'

-- what waits to be written is written before a read, and else stays
pub record Holds (waits : Bool) (o r : Output) : Type 0 where
  pub stays : waits ≡ true → r ≡ o
  pub written : waits ≡ false → Written o r

-- what a step takes is `input`, behind at most one read
pub record Steps (s r : State) (chunk chunk' line line' : List ℕ) : Type 0 where
  pub input : Input
  pub refills : Refills (in_chunk s.input (length chunk)) input chunk chunk'
  pub taking : record { input = r.input; line = r.line } ≡ stepped input s.line (untaken input chunk') (length line)
  pub bytes : line' ≡ added_bytes s.line (first_line (untaken input chunk')) line
  pub holds : Holds (ltb 0 (length (untaken s.input chunk))) s.output r.output

-- ---- as many reads as it takes

-- nothing is read: the chunk and what is known of the input stay
pub record Stays (i : Input) (r : State) (chunk chunk' came : List ℕ) : Type 0 where
  pub none : came ≡ []
  pub same : chunk' ≡ chunk
  pub ended : r.input.ended ≡ i.ended
  pub failed : r.input.failed ≡ i.failed

-- bytes are read, as long as no newline was met: the last read's are the front of the chunk, and without any it met the end or failed
pub record Reads (i : Input) (r : State) (chunk chunk' came : List ℕ) : Type 0 where
  pub going : i.ended ≡ false
  pub earlier : List ℕ
  pub all : came ≡ earlier ++ take r.input.end chunk'
  pub within : r.input.end ≤ length chunk'
  pub plain : newline_in (untaken i chunk ++ earlier) ≡ false
  pub ended : r.input.ended ≡ eqb r.input.end 0
  pub failed : r.input.failed ≡ true → r.input.end ≡ 0

-- a newline waits in the chunk, and nothing is read or written; or the input's end was met before, and nothing is read; or reads are made
pub data Asks (i : Input) (o : Output) (r : State) (chunk chunk' came : List ℕ) : Type 0 where
  quiet : newline_in (untaken i chunk) ≡ true → Stays i r chunk chunk' came → r.output ≡ o → Asks i o r chunk chunk' came
  over : newline_in (untaken i chunk) ≡ false → i.ended ≡ true → Stays i r chunk chunk' came → Written o r.output
      → Asks i o r chunk chunk' came
  more : newline_in (untaken i chunk) ≡ false → Reads i r chunk chunk' came → Written o r.output → Asks i o r chunk chunk' came

-- all that is there: what waits in the chunk, and behind it what comes
abbrev pub there : Input → List ℕ → List ℕ → List ℕ
there i chunk came = untaken i chunk ++ came

-- as many turns as the loop has
abbrev pub most_turns : ℕ
most_turns = 18446744073709551615

-- THE NEXT LINE is the first line of all that is there; its first bytes are in the line buffer, and behind them the old bytes;
-- what is behind its newline waits in the chunk. It is whole where its newline is met, or else the input's end;
-- only one of 2^64 - 1 bytes or more may not be.
pub record Finds (i : Input) (o : Output) (r : State) (chunk chunk' line line' : List ℕ) : Type 0 where
  pub came : List ℕ
  pub known : r.line ≡ line_of (there i chunk came) r.line.whole (length line)
  pub bytes : line' ≡ placed (take (length line) (first_line (there i chunk came))) 0 line
  pub counts : IsPrefixLen r.line.kept line'
  pub rest : untaken r.input chunk' ≡ behind_line (there i chunk came)
  pub newline : newline_in (there i chunk came) ≡ true → r.line.whole ≡ true
  pub end : newline_in (there i chunk came) ≡ false → r.line.whole ≡ true → r.input.ended ≡ true
  pub long : r.line.whole ≡ false → most_turns ≤ length (there i chunk came)
  pub asks : Asks i o r chunk chunk' came
