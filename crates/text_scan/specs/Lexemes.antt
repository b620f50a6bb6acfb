-- A term as it is written, as the code answers it: what it is, how long its digits or its bytes are, and their value.
-- The bytes themselves stay in the text.
use Rattle.std.specs.Prelude.{true, false, List, ℕ, suc, min, length}
use Rattle.base_limits.specs.Limits.{lowest_integer}
use Rattle.math_types.specs.Values.{kind_from}
use Rattle.text_grammar.specs.Bytes.{Begins, b_digit, b_minus, b_quote, b_letter, b_e, b_none}
use Rattle.text_grammar.specs.Grammar.{Raw, raw_var, raw_empty, raw_con}
use Rattle.text_grammar.specs.constants.Constants.{sign_size, raw_int, raw_str, RawCon}
use Rattle.text_grammar.specs.Numbers.{value}
use Rattle.text_scan.specs.declared.Digits.{Digits}
use Rattle.text_scan.specs.declared.Lexeme.{Lexeme}
use Rattle.text_scan.specs.declared.Literal.{Literal}
use Rattle.text_scan.specs.declared.Literal.TheVariants.{Int, Str}
use Rattle.text_scan.specs.declared.Part.{Part}
use Rattle.text_scan.specs.declared.Part.TheVariants.{Numeral, Text, Word}
use Rattle.text_scan.specs.declared.Spelled.{Spelled}
use Rattle.text_scan.specs.declared.Spelled.TheVariants.{Con, Var, Empty}

-- A value is exact up to the largest magnitude, that of the lowest integer, and stops one above it:
-- it never overflows, and one that is too large is still told from those that are not.
abbrev pub capped : ℕ → ℕ
capped n = min n (suc lowest_integer)

-- a written constant: what it is written as, how many digits or bytes, and the digits' value
abbrev pub literal_of : RawCon → Literal
literal_of (raw_int m ds) = Int m
literal_of (raw_str s) = Str

abbrev pub literal_size : RawCon → ℕ
literal_size (raw_int m ds) = length ds
literal_size (raw_str s) = length s

abbrev pub literal_value : RawCon → ℕ
literal_value (raw_int m ds) = capped (value ds)
literal_value (raw_str s) = 0

abbrev pub lexeme_of : Raw → Lexeme
lexeme_of (raw_con r) = record { what = Con (literal_of r); size = literal_size r; value = literal_value r }
lexeme_of (raw_var k ds) = record { what = Var (kind_from k); size = length ds; value = capped (value ds) }
lexeme_of raw_empty = record { what = Empty; size = 0; value = 0 }

-- ---- the parts that the code answers one by one

abbrev pub counted : List ℕ → Digits
counted ds = record { count = length ds; value = capped (value ds) }

abbrev pub with_digits : Spelled → Digits → Lexeme
with_digits w d = record { what = w; size = d.count; value = d.value }

-- what a term is made of: digits behind so many bytes, bytes between quotes, or a word
abbrev pub part_of : Spelled → Part
part_of (Con (Int m)) = Numeral (sign_size m)
part_of (Con Str) = Text
part_of (Var k) = Numeral 1
part_of Empty = Word

-- what a byte begins; one that begins no term counts as beginning `empty`, as in `front`
abbrev pub begun : {b : ℕ} → Begins b → Spelled
begun (b_digit h) = Con (Int false)
begun (b_minus h) = Con (Int true)
begun (b_quote h) = Con Str
begun (b_letter k h) = Var (kind_from k)
begun (b_e h) = Empty
begun (b_none d m q l e) = Empty
