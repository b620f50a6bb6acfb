-- Bytes put at a place of a buffer.
use Rattle.std.specs.Prelude.{List, ◌++◌, ℕ, ◌+◌, length, take, drop}

-- the text from `at` on, between the old bytes before it and behind it
abbrev pub placed : List ℕ → ℕ → List ℕ → List ℕ
placed text at old = take at old ++ text ++ drop (at + length text) old
