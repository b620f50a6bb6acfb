-- Refusal 10 as code finds it. `unknown_is` of proofs/ says that this is the first variable of a text that a side lacks.
use Rattle.std.specs.Prelude.{Bool, true, false, not, cond, List, [], ◌∷◌, ℕ, ltb}
use Rattle.std.proofs.Math.Option.{Option, none, some}
use Rattle.base_limits.specs.Limits.{largest_number}
use Rattle.math_types.specs.Values.{kind_of}
use Rattle.text_grammar.specs.Tokens.{Token}
use Rattle.text_grammar.specs.Terms.{OurFields}
use Rattle.overlap_spec.specs.Variables.{occurs}
use Rattle.text_scan.specs.declared.Lexeme.{Lexeme}
use Rattle.text_scan.specs.declared.Spelled.{Spelled}
use Rattle.text_scan.specs.declared.Spelled.TheVariants.{Con, Var, Empty}
use Rattle.text_scan.specs.Lexemes.{lexeme_of}

-- a written variable that l lacks, by its type and its number
abbrev pub unknown_by : OurFields → Spelled → ℕ → Bool
unknown_by l (Con x) v = false
unknown_by l (Var k) v = cond (ltb largest_number v) true (not (occurs (kind_of k) v l))
unknown_by l Empty v = false

abbrev pub unknown_lexeme : OurFields → Lexeme → Bool
unknown_lexeme l p = unknown_by l p.what p.value

-- the place of the first
abbrev pub unknown_at : OurFields → List Token → Option ℕ
unknown_at l [] = none
unknown_at l (m ∷ ms) = cond (unknown_lexeme l (lexeme_of m.raw)) (some m.place) (unknown_at l ms)
