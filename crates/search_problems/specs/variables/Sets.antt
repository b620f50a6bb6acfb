-- A set of list variables as the binary digits of a number: document 01's "64-bit set". proofs/Laws says what of the set's members
-- each of these is.
use Rattle.std.specs.Prelude.{cond, List, [], ◌∷◌, ℕ, ◌-◌, ◌^◌, leb}
use Rattle.std.specs.Int.Bits.{bit_or}
use Rattle.std.specs.Int.Count.{ones, count_trailing_zeros}

-- how many digits there are
abbrev pub digits : ℕ
digits = 64

-- the number whose digits are the members
abbrev pub set_of : List ℕ → ℕ
set_of [] = 0
set_of (n ∷ u) = bit_or (set_of u) (2 ^ n)

abbrev pub with_name : ℕ → ℕ → ℕ
with_name set n = cond (leb digits n) set (bit_or set (2 ^ n))

-- "trailing zeros of the set's complement gives the number"
abbrev pub fresh_value : ℕ → ℕ
fresh_value set = count_trailing_zeros digits (2 ^ digits - 1 - set)

-- "ones count variables of a problem"
abbrev pub list_variables : ℕ → ℕ
list_variables set = ones set
