-- Constants as values: what a constant with the bytes beside it stands for, the one value of each constant, and the tests.
use Rattle.std.specs.Prelude.{Bool, true, false, ◌&&◌, not, List, [], ◌∷◌, ℕ, eqb, leb, length, take, replicate}
use Rattle.base_limits.specs.Limits.{longest_string}
use Rattle.math_types.specs.Order.{basic}
use Rattle.math_types.specs.Types.{leaf, integer, string, Kind}
use Rattle.text_grammar.specs.constants.Constants.{Con, int, str, limit}
use Rattle.text_values.specs.declared.constants.Constant.{Constant}
use Rattle.text_values.specs.declared.constants.Constant.TheVariants.{Int, Str}
use Rattle.text_values.specs.canonical.Filled.{pad, filled_to}

abbrev pub view_constant : Constant → List ℕ → Con
view_constant (Int m n) s = int m n
view_constant (Str k) s = str (take k s)

-- a constant's value, and its bytes
abbrev pub encode_constant : Con → Constant × List ℕ
encode_constant (int m n) = (Int m n, replicate longest_string 0)
encode_constant (str s) = (Str (length s), pad longest_string 0 s)

-- document 01: "every number zero"
abbrev pub blank_constant : Constant
blank_constant = Int false 0

-- the type of a constant
abbrev pub constant_kind : Constant → Kind
constant_kind (Int m n) = basic (leaf integer)
constant_kind (Str k) = basic (leaf string)

-- ---- equality: there is one value for one constant

abbrev pub same_bytes : List ℕ → List ℕ → Bool
same_bytes [] [] = true
same_bytes [] (y ∷ t) = false
same_bytes (x ∷ s) [] = false
same_bytes (x ∷ s) (y ∷ t) = eqb x y && same_bytes s t

abbrev pub same_sign : Bool → Bool → Bool
same_sign true y = y
same_sign false y = not y

abbrev pub same_integer : Bool → ℕ → Bool → ℕ → Bool
same_integer x m y n = eqb m n && same_sign x y

abbrev pub same_constant : Constant → Constant → List ℕ → List ℕ → Bool
same_constant (Int x m) (Int y n) s t = same_integer x m y n
same_constant (Int x m) (Str l) s t = false
same_constant (Str k) (Int y n) s t = false
same_constant (Str k) (Str l) s t = eqb k l && same_bytes s t

-- ---- which ones reading can return

-- a byte that may stand in a string
abbrev pub is_inside : ℕ → Bool
is_inside b = leb 32 b && (leb b 126 && not (eqb b 34))

abbrev pub is_zero : ℕ → Bool
is_zero b = eqb b 0

-- the bytes of a string of n, and zeros behind them
abbrev pub text_ok : ℕ → List ℕ → Bool
text_ok n s = filled_to longest_string is_inside is_zero n s

-- an integer within the limit of its sign, and no minus zero
abbrev pub integer_ok : Bool → ℕ → Bool
integer_ok m n = leb n (limit m) && not (m && eqb n 0)

abbrev pub constant_ok : Constant → List ℕ → Bool
constant_ok (Int m n) s = integer_ok m n && text_ok 0 s
constant_ok (Str k) s = text_ok k s

abbrev pub constant_blank : Constant → List ℕ → Bool
constant_blank (Int m n) s = not m && (eqb n 0 && text_ok 0 s)
constant_blank (Str k) s = false
