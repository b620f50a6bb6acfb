-- How a refusal is shown.
use Rattle.std.specs.Prelude.{List, ◌++◌, ℕ}
use Rattle.text_grammar.specs.Ascii.{ascii}
use Rattle.text_grammar.specs.Numbers.{digits_of}

-- its number and its place, "counted from 0", both decimal
abbrev pub number_at : ℕ → ℕ → List ℕ
number_at n p = digits_of n ++ ascii " at " ++ digits_of p
