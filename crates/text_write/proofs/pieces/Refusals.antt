-- How long a refusal's number and place are. Assumes nothing.
use Prim.Native.Nat.{ℕ, ◌+◌, ◌≤◌, ◌<◌}
use mathlib.Core.List.{◌++◌}
use native.Mathlib.Omega.{arith}
use lib.ListN.{length, length-append}
use Rattle.text_grammar.specs.Ascii.{ascii}
use Rattle.text_grammar.specs.Numbers.{digits_of}
use Rattle.text_grammar.specs.Read.{Reason, number}
use Rattle.text_grammar.proofs.Refused.{number_small}
use Rattle.text_grammar.proofs.Numbers.{digits_most}
use Rattle.text_write.specs.pieces.Refusals.{number_at}

-- a number of at most two digits, " at " and the place
pub number_at_most : (n p k : ℕ) → n < 100 → length (digits_of p) ≤ k → length (number_at n p) ≤ 6 + k
number_at_most n p k h l =
    omega (arith, length-append (digits_of n ++ ascii " at ") (digits_of p), length-append (digits_of n) (ascii " at "), digits_most 1 n h)

pub number_at_length : (r : Reason) (p : ℕ) → p < 10000 → length (number_at (number r) p) ≤ 10
number_at_length r p h = number_at_most (number r) p 4 (number_small r) (digits_most 3 p h)
