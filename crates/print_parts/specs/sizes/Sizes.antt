-- How much a part of a line asks for, with at most `most` to have.
use Rattle.std.specs.Prelude.{Bool, true, false, cond, ◌&&◌, List, [], ◌∷◌, ℕ, eqb, leb, Option, Some, None}
use Rattle.text_grammar.specs.Numbers.{value}

abbrev pub is_digit : ℕ → Bool
is_digit b = leb 48 b && leb b 57

abbrev pub are_digits : List ℕ → Bool
are_digits [] = true
are_digits (b ∷ s) = is_digit b && are_digits s

-- decimal digits of a value of at most `most`; zeros may lead
abbrev pub decimal : ℕ → List ℕ → Option ℕ
decimal most s = cond (are_digits s && leb (value s) most) (Some (value s)) None

-- an empty part and `-`, byte 45
abbrev pub is_left_open : List ℕ → Bool
is_left_open [] = true
is_left_open (b ∷ []) = eqb b 45
is_left_open (b ∷ (c ∷ s)) = false

-- these stand for as many as there are
abbrev pub size_of : ℕ → List ℕ → Option ℕ
size_of most s = cond (is_left_open s) (Some most) (decimal most s)
