-- The constants of documents 01 and 02: as they are written, as they are meant, and as constants of the theory.
-- A change of the constants, of their text, limits or equality is made here; all others use the laws of proofs/constants/Constants.
--     Con, RawCon     a constant, and one as it is written
--     spell_con        how it is spelled; ProperCon: of the grammar, without limits
--     OverCon         refusal 5
--     con_of           which constant is written; raw_of_con: how it is written in plain text
--     ConIn           within the limits; ConOk: can be written at all
--     consts          equality, types, and a constant of each type
use Rattle.std.specs.Prelude.{◌≡◌, refl, ◌⊎◌, ◌≢◌, Bool, true, false, ◌&&◌, not, List, [], ◌∷◌, ◌++◌, ℕ, ◌≤◌, ◌<◌, eqb, ℤ, pos, neg_ℤ, length}
use Rattle.std.proofs.Common.{inl, inr}
use Rattle.std.proofs.Math.Bool.{Bool-discrete}
use Rattle.std.proofs.Math.Decide.{ℕ_discrete, dec_lt}
use Rattle.base_limits.specs.Limits.{most_digits, largest_integer, lowest_integer, longest_string}
use Rattle.base_lists.specs.Equality.{list_eq}
use Rattle.base_lists.specs.Seqs.{All, IsCons}
use Rattle.math_types.specs.Types.{leaf, Basic, integer, string, atom, basics}
use Rattle.math_terms.specs.Constants.{Consts}
use Rattle.text_grammar.specs.Bytes.{Digit, Inside}
use Rattle.text_grammar.specs.Numbers.{Number, value, digits_of}

-- An integer is its sign, whether it is below zero, and its magnitude. Document 01: "Integers are equal when their values are equal";
-- strings are "compared byte by byte".
pub data Con : Type 0 where
  int : Bool → ℕ → Con
  str : List ℕ → Con
  deriving Discrete as con-discrete

-- ---- signs

-- document 02: "a leading `-`", byte 45
abbrev pub signed : Bool → List ℕ → List ℕ
signed true ds = 45 ∷ ds
signed false ds = ds

abbrev pub sign_size : Bool → ℕ
sign_size true = 1
sign_size false = 0

-- the largest magnitude below zero, and of the others
abbrev pub limit : Bool → ℕ
limit true = lowest_integer
limit false = largest_integer

-- document 02: "`-0` equals `0`": the sign of a magnitude is none of zero
abbrev pub sign_of : Bool → ℕ → Bool
sign_of m n = m && not (eqb n 0)

-- the value of a sign and a magnitude
abbrev pub amount : Bool → ℕ → ℤ
amount true n = neg_ℤ (pos n)
amount false n = pos n

-- a magnitude that may have the sign
abbrev pub Signs : Bool → ℕ → Type 0
Signs m n = m ≡ true → n ≢ 0

-- ---- as written

-- whether an integer has a minus, and its digits; a string's bytes
pub data RawCon : Type 0 where
  raw_int : Bool → List ℕ → RawCon
  raw_str : List ℕ → RawCon

abbrev pub spell_con : RawCon → List ℕ
spell_con (raw_int m ds) = signed m ds
spell_con (raw_str s) = 34 ∷ (s ++ 34 ∷ [])

abbrev pub ProperCon : RawCon → Type 0
ProperCon (raw_int m ds) = IsCons ds × All Digit ds
ProperCon (raw_str s) = All Inside s

-- refusal 5: "a value, digit count .. or string length over its limit"; the sign is no digit
abbrev pub OverCon : RawCon → Type 0
OverCon (raw_int m ds) = (most_digits < length ds) ⊎ (limit m < value ds)
OverCon (raw_str s) = longest_string < length s

unfoldable pub over_con? : (r : RawCon) → Dec (OverCon r)
unfolding dec_lt
over_con? (raw_int m ds) = go (dec_lt most_digits (length ds)) (dec_lt (limit m) (value ds))
  where
    neither : (most_digits < length ds → ⊥) → (limit m < value ds → ⊥) → OverCon (raw_int m ds) → ⊥
    neither n k (inl p) = n p
    neither n k (inr p) = k p

    go : Dec (most_digits < length ds) → Dec (limit m < value ds) → Dec (OverCon (raw_int m ds))
    go (yes p) c = yes (inl p)
    go (no n) (yes p) = yes (inr p)
    go (no n) (no k) = no (neither n k)
over_con? (raw_str s) = dec_lt longest_string (length s)

-- document 01: "integers without leading zeros"; document 02: "`-0` .. is written `0`"
abbrev pub LeanCon : RawCon → Type 0
LeanCon (raw_int m ds) = Number ds × Signs m (value ds)
LeanCon (raw_str s) = Unit {0}

-- ---- as meant

abbrev pub con_of : RawCon → Con
con_of (raw_int m ds) = int (sign_of m (value ds)) (value ds)
con_of (raw_str s) = str s

-- in plain text
abbrev pub raw_of_con : Con → RawCon
raw_of_con (int m n) = raw_int m (digits_of n)
raw_of_con (str s) = raw_str s

-- within the limits
abbrev pub ConIn : Con → Type 0
ConIn (int m n) = Signs m n × (n ≤ limit m)
ConIn (str s) = All Inside s × (length s ≤ longest_string)

-- can be written at all
abbrev pub ConOk : Con → Type 0
ConOk (int m n) = Signs m n
ConOk (str s) = All Inside s

-- ---- in the theory

abbrev pub con_eq : Discrete Con
con_eq = con-discrete Bool-discrete ℕ_discrete (list_eq ℕ_discrete)

abbrev pub con_kind : Con → Basic
con_kind (int m n) = leaf integer
con_kind (str s) = leaf string

-- a constant of each kind: `0`, `""`, `0`
abbrev pub some_of : Basic → Con
some_of (leaf integer) = int false 0
some_of (leaf string) = str []
some_of atom = int false 0

pub some_of_le : (k : Basic) → basics.le (con_kind (some_of k)) k ≡ true
some_of_le (leaf integer) = refl
some_of_le (leaf string) = refl
some_of_le atom = refl

abbrev pub consts : Consts basics
consts = record { Con = Con; con_eq = con_eq; con_kind = con_kind; some_of = some_of; some_of_le = some_of_le }
