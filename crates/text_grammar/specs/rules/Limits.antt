-- Which rules are within document 02's limits. `rule_iff` of proofs/ says that reading returns exactly these.
use Rattle.std.specs.Prelude.{ℕ, ◌≤◌, length}
use Rattle.base_limits.specs.Limits.{most_fields}
use Rattle.base_lists.specs.Seqs.{All}
use Rattle.math_types.specs.Types.{Kind}
use Rattle.text_grammar.specs.Limits.{TermIn, IsLeft}
use Rattle.text_grammar.specs.Terms.{OurFields}
use Rattle.text_grammar.specs.Read.{rule}
use Rattle.text_grammar.specs.rules.Tokens.{Has}
use Rattle.text_grammar.specs.rules.Read.{OurRule}

-- "a right side of one to four fields, 16 terms each; its list variables may recur and share a field"; with no fields there is none
abbrev pub IsRight : OurFields → Type 0
IsRight y = (length y ≤ most_fields) × All (λ f. length f ≤ rule.width) y × All (All TermIn) y

-- the left side has every variable of the right side
abbrev pub VarsIn : OurFields → OurFields → Type 0
VarsIn y x = (k : Kind) (n : ℕ) → Has k n y → Has k n x

-- the rules that reading returns
abbrev pub IsRule : OurRule → Type 0
IsRule w = IsLeft w.0 × IsRight w.1 × VarsIn w.1 w.0
