-- The row that a search of the program has.
use Rattle.std.specs.Prelude.{ℕ}

-- how many records the row has
abbrev pub most_records : ℕ
most_records = 640
