-- The grammar of rules and slips, without limits on sizes: terms as they are written, and how they are spelled.
use Rattle.std.specs.Prelude.{◌≡◌, List, [], ◌∷◌, ◌++◌, ℕ}
use Rattle.base_lists.specs.Seqs.{All, IsCons}
use Rattle.math_types.specs.Types.{Kind}
use Rattle.text_grammar.specs.Bytes.{letter}
use Rattle.text_grammar.specs.Numbers.{Number}
use Rattle.text_grammar.specs.constants.Constants.{RawCon, spell_con, ProperCon}

-- a term as it is written: a constant, a variable's type and digits, or `empty`
pub data Raw : Type 0 where
  raw_con : RawCon → Raw
  raw_var : Kind → List ℕ → Raw
  raw_empty : Raw

abbrev pub spell : Raw → List ℕ
spell (raw_con r) = spell_con r
spell (raw_var k ds) = letter k ∷ ds
spell raw_empty = 101 ∷ 109 ∷ 112 ∷ 116 ∷ 121 ∷ []

abbrev pub Proper : Raw → Type 0
Proper (raw_con r) = ProperCon r
Proper (raw_var k ds) = Number ds
Proper raw_empty = Unit {0}

-- document 01: "terms separated by `:`"; each with its separator in front
abbrev pub colons : List Raw → List ℕ
colons [] = []
colons (r ∷ rs) = 58 ∷ (spell r ++ colons rs)

abbrev pub spell_f : List Raw → List ℕ
spell_f [] = []
spell_f (r ∷ rs) = spell r ++ colons rs

-- document 01: "fields separated by `|`"
abbrev pub bars : List (List Raw) → List ℕ
bars [] = []
bars (f ∷ fs) = 124 ∷ (spell_f f ++ bars fs)

abbrev pub spell_t : List (List Raw) → List ℕ
spell_t [] = []
spell_t (f ∷ fs) = spell_f f ++ bars fs

-- at least one term in a field, at least one field in a text
abbrev pub FieldOk : List Raw → Type 0
FieldOk f = IsCons f × All Proper f

abbrev pub TextOk : List (List Raw) → Type 0
TextOk x = IsCons x × All FieldOk x

-- x is what t says
abbrev pub Says : List ℕ → List (List Raw) → Type 0
Says t x = TextOk x × (t ≡ spell_t x)

-- THE GRAMMAR
abbrev pub Grammar : List ℕ → Type 0
Grammar t = (x : List (List Raw)) × Says t x
