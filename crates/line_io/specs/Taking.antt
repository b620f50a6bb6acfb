-- What the taking of a line does with a chunk that was read.
-- `added_keeps` of proofs/Keeping says that the line buffer then has the first bytes of all the parts, one behind the other.
use Rattle.std.specs.Prelude.{true, false, cond, List, ℕ, ◌+◌, ◌-◌, min, ltb, length, take}
use Rattle.base_bytes.specs.Bytes.{slice, index_of}
use Rattle.line_io.specs.declared.Input.{Input}
use Rattle.line_io.specs.declared.Line.{Line}
use Rattle.line_io.specs.declared.Taken.{Taken}
use Rattle.line_io.specs.Placing.{placed}

abbrev pub no_line : Line
no_line = record { found = false; whole = false; kept = 0; cut = false }

-- a line with n bytes more, where the line buffer has `size` bytes: those that have no room are passed over
abbrev pub added_line : Line → ℕ → ℕ → Line
added_line l n size =
    record { found = true; whole = l.whole; kept = l.kept + min n (size - l.kept); cut = cond (ltb (size - l.kept) n) true l.cut }

abbrev pub added_bytes : Line → List ℕ → List ℕ → List ℕ
added_bytes l part line = placed (take (length line - l.kept) part) l.kept line

-- the bytes that were read and are not taken yet
abbrev pub untaken : Input → List ℕ → List ℕ
untaken i chunk = slice i.at i.end chunk

-- as far as the chunk reaches
abbrev pub in_chunk : Input → ℕ → Input
in_chunk i size = record { at = i.at; end = min i.end size; ended = i.ended; failed = i.failed }

abbrev pub at_place : Input → ℕ → Input
at_place i at = record { at = at; end = i.end; ended = i.ended; failed = i.failed }

abbrev pub whole_line : Line → Line
whole_line l = record { found = l.found; whole = true; kept = l.kept; cut = l.cut }

-- u is not taken yet: the line's bytes are those before the first newline (byte 10), which is taken too; without one they are all of u
abbrev pub taken : Input → Line → List ℕ → ℕ → Taken
taken i l u size =
    let n = index_of 10 u in
    cond (ltb n (length u))
    (record { input = at_place i (i.at + n + 1); line = whole_line (added_line l n size) })
    (record { input = at_place i i.end; line = added_line l n size })

-- where nothing is there to take, the input's end is the line's
abbrev pub stepped : Input → Line → List ℕ → ℕ → Taken
stepped i l u size = cond (ltb 0 (length u)) (taken i l u size) (record { input = i; line = whole_line l })
