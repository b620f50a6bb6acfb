-- How long the digits of a number are.
use Rattle.std.specs.Prelude.{ℕ}

-- those of the largest number of 64 bits
abbrev pub longest_number : ℕ
longest_number = 20
