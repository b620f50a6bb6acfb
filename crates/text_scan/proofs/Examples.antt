-- Terms as the code answers them, at the edges of document 01, computed from the definitions.
use mathlib.Core.Path.{◌≡◌, refl}
use mathlib.Core.Bool.{true, false}
use mathlib.Core.List.{◌∷◌, [], map}
use Prim.Native.Nat.{ℕ}
use Prim.Native.String.{String}
use native.Mathlib.Decide.{ℕ_discrete, dec_le}
use Rattle.math_types.specs.declared.Kind.TheVariants.{Integer, List}
use Rattle.text_grammar.specs.Bytes.{digit?, begins}
use Rattle.text_grammar.specs.Walk.{front}
use Rattle.text_grammar.proofs.Examples.{bytes}
use Rattle.text_scan.specs.Lexemes.{lexeme_of}
use Rattle.text_scan.specs.declared.Lexeme.{Lexeme}
use Rattle.text_scan.specs.declared.Spelled.{Spelled}
use Rattle.text_scan.specs.declared.Literal.TheVariants.{Int, Str}
use Rattle.text_scan.specs.declared.Spelled.TheVariants.{Con, Var, Empty}

abbrev made : Spelled → ℕ → ℕ → Lexeme
made w n v = record { what = w; size = n; value = v }

-- the largest magnitudes, exact; a larger one, capped; a minus, with and without digits; leading zeros; strings; variables; `empty`, and what begins no term
pub lexemes :
    map (λ (t : String). lexeme_of (front (bytes t))) (
    "2147483647"
    ∷ "2147483648"
    ∷ "-2147483649"
    ∷ "99999999999999999999999"
    ∷ "-007:1"
    ∷ "--1"
    ∷ "007:1"
    ∷ "\"\""
    ∷ "\"ab\"|1"
    ∷ "i01"
    ∷ "l15:2"
    ∷ "empty"
    ∷ ":"
    ∷ ""
    ∷ []
    )
    ≡ made (Con (Int false)) 10 2147483647
    ∷ made (Con (Int false)) 10 2147483648
    ∷ made (Con (Int true)) 10 2147483649
    ∷ made (Con (Int false)) 23 2147483649
    ∷ made (Con (Int true)) 3 7
    ∷ made (Con (Int true)) 0 0
    ∷ made (Con (Int false)) 3 7
    ∷ made (Con Str) 0 0
    ∷ made (Con Str) 2 0
    ∷ made (Var Integer) 2 1
    ∷ made (Var List) 2 15
    ∷ made Empty 0 0
    ∷ made Empty 0 0
    ∷ made Empty 0 0
    ∷ []
unfolding bytes begins digit? dec_le ℕ_discrete
lexemes = refl
