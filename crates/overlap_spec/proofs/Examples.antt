-- Document 01's overlap lines, and the variables of some rules, computed from the definitions.
use Prim.Native.Nat.{ℕ}
use Prim.Native.String.{String}
use mathlib.Core.Path.{◌≡◌, refl}
use mathlib.Core.Bool.{false}
use mathlib.Core.List.{List, [], ◌∷◌, ◌++◌, map}
use native.Mathlib.Decide.{dec_lt}
use Rattle.math_types.specs.Order.{basic, list}
use Rattle.math_types.specs.Types.{leaf, integer, string, atom, Kind}
use Rattle.math_terms.specs.Terms.{con, var}
use Rattle.text_grammar.specs.Ascii.{ascii, newline}
use Rattle.text_grammar.specs.Terms.{OurTerm, OurFields}
use Rattle.text_grammar.specs.constants.Constants.{int, str}
use Rattle.overlap_spec.specs.Lines.{Binding, Line, line_text, list_text}
use Rattle.overlap_spec.specs.Variables.{variables}

abbrev num : ℕ → OurTerm
num n = con (int false n)

abbrev i : ℕ → OurTerm
i n = var (basic (leaf integer)) n

abbrev s : ℕ → OurTerm
s n = var (basic (leaf string)) n

abbrev a : ℕ → OurTerm
a n = var (basic atom) n

abbrev l : ℕ → OurTerm
l n = var list n

abbrev bind : Kind → ℕ → List OurTerm → Binding
bind k n v = record { kind = k; number = n; value = v }

abbrev line : OurFields → List Binding → List Binding → Line
line f b c = record { fields = f; left = b; right = c }

-- `a0:l0` and `l0:2`
abbrev pub first_pair : List Line
first_pair =
    line ((num 2 ∷ []) ∷ []) (bind (basic atom) 0 (num 2 ∷ []) ∷ bind list 0 [] ∷ []) (bind list 0 [] ∷ [])
    ∷ line ((a 0 ∷ l 0 ∷ num 2 ∷ []) ∷ []) (bind (basic atom) 0 (a 0 ∷ []) ∷ bind list 0 (l 0 ∷ num 2 ∷ []) ∷ []) (bind list 0 (a 0 ∷ l 0 ∷ []) ∷ [])
    ∷ []

pub first_pair_text : list_text first_pair ≡ ascii "2 <a0=2 <l0=empty >l0=empty\na0:l0:2 <a0=a0 <l0=l0:2 >l0=a0:l0\n"
unfolding dec_lt
first_pair_text = refl

-- lines of other pairs on either side of an edge, and one with two digits and with a blank in a string
pub lines :
    map line_text (
    line ((l 0 ∷ []) ∷ []) (bind list 0 (l 0 ∷ []) ∷ []) (bind list 0 (l 0 ∷ []) ∷ [])
    ∷ line ([] ∷ []) [] []
    ∷ line ((num 2 ∷ []) ∷ []) (bind (basic (leaf integer)) 0 (num 2 ∷ []) ∷ []) (bind list 0 [] ∷ [])
    ∷ line ((num 1 ∷ num 2 ∷ num 3 ∷ []) ∷ []) (bind list 0 (num 3 ∷ []) ∷ []) (bind list 0 (num 1 ∷ []) ∷ [])
    ∷ line ((num 3 ∷ []) ∷ (num 3 ∷ []) ∷ []) (bind (basic (leaf integer)) 0 (num 3 ∷ []) ∷ bind list 0 [] ∷ []) (bind (basic atom) 0 (num 3 ∷ []) ∷ [])
    ∷ line ((i 0 ∷ i 0 ∷ []) ∷ []) (bind (basic atom) 0 (i 0 ∷ []) ∷ []) (bind (basic (leaf integer)) 0 (i 0 ∷ []) ∷ bind list 0 (i 0 ∷ []) ∷ [])
    ∷ line ((con (str (ascii "a <b")) ∷ []) ∷ []) [] (bind (basic (leaf string)) 15 (con (str (ascii "a <b")) ∷ []) ∷ [])
    ∷ []
    )
    ≡ map (λ (t : String). ascii t ++ newline) (
    "l0 <l0=l0 >l0=l0"
    ∷ "empty"
    ∷ "2 <i0=2 >l0=empty"
    ∷ "1:2:3 <l0=3 >l0=1"
    ∷ "3|3 <i0=3 <l0=empty >a0=3"
    ∷ "i0:i0 <a0=i0 >i0=i0 >l0=i0"
    ∷ "\"a <b\" >s15=\"a <b\""
    ∷ []
    )
unfolding dec_lt
lines = refl

-- the variables of `a0:l0`, `1`, `l2:a10:a9|s0:a9:i3|i15:i0`
pub variable_lists :
    map variables (
    ((a 0 ∷ l 0 ∷ []) ∷ [])
    ∷ ((num 1 ∷ []) ∷ [])
    ∷ ((l 2 ∷ a 10 ∷ a 9 ∷ []) ∷ (s 0 ∷ a 9 ∷ i 3 ∷ []) ∷ (i 15 ∷ i 0 ∷ []) ∷ [])
    ∷ []
    )
    ≡ ((basic atom, 0) ∷ (list, 0) ∷ [])
    ∷ []
    ∷ ((basic (leaf integer), 0) ∷ (basic (leaf integer), 3) ∷ (basic (leaf integer), 15) ∷ (basic (leaf string), 0)
    ∷ (basic atom, 9) ∷ (basic atom, 10) ∷ (list, 2) ∷ [])
    ∷ []
variable_lists = refl
