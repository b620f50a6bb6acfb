-- What stands at the place of a refusal from 3 to 6, or of 10, said of the rule text as it is written.
-- `first_in_lem` of proofs/Sharp says that it is what the refusals say.
use Rattle.std.specs.Prelude.{◌≡◌, ◌⊎◌, List, [], ◌∷◌, ◌++◌, ℕ, suc, ◌≤◌, ◌<◌}
use Rattle.base_limits.specs.Limits.{most_fields, most_terms}
use Rattle.math_types.specs.Types.{Kind}
use Rattle.text_grammar.specs.Grammar.{raw_var}
use Rattle.text_grammar.specs.Numbers.{value}
use Rattle.text_grammar.specs.Leftmost.{NoneOf}
use Rattle.text_grammar.specs.Tokens.{Token, Over, NotLinear}
use Rattle.text_grammar.specs.Terms.{fields_of}
use Rattle.text_grammar.specs.Read.{Reason, long, grammar, fields, terms, limits, linear, variable, unknown}
use Rattle.text_grammar.specs.Sharp.{Stands, Numbered}
use Rattle.text_grammar.specs.rules.Sides.{Sides, one, two, SaysRule}
use Rattle.text_grammar.specs.rules.Tokens.{left_side, right_place, Has}
use Rattle.text_grammar.specs.rules.Read.{tokens_for, BadIn}

-- a token's numbers are those of its term in its side: in the left side before the right side's place, in the right side from there on
abbrev pub NumberedIn : Sides → Token → Type 0
NumberedIn (one x) m = Numbered x m
NumberedIn (two x y) m = ((m.place < right_place x) × Numbered x m) ⊎ ((right_place x ≤ m.place) × Numbered y m)

-- what a refusal says of the token m, behind the tokens b, where the text says s
abbrev pub StatedIn : Reason → Sides → List Token → Token → Type 0
StatedIn long s b m = ⊥
StatedIn grammar s b m = ⊥
-- 3: "a fifth field, at its first byte": term 1 of field 5 of its side
StatedIn fields s b m = (m.in_field ≡ suc most_fields) × (m.index ≡ 1)
-- 4: "a seventeenth term in a field"
StatedIn terms s b m = m.index ≡ suc most_terms
-- 5: "a value, digit count, variable number or string length over its limit"
StatedIn limits s b m = Over m.raw
-- 6: "a list variable that occurs earlier in the rule, or that follows another in its field"
StatedIn linear s b m = NotLinear b m
StatedIn variable s b m = ⊥
-- 10: "a right-side variable that the left lacks": none of its letter and number stands there
StatedIn unknown s b m = (k : Kind) × (ds : List ℕ) × (m.raw ≡ raw_var k ds) × (Has k (value ds) (fields_of (left_side s)) → ⊥)

-- THE TERM AT THE PLACE p for which the rule text t is refused by o: of the terms that o looks at, the first bad one
pub record FirstBadTerm (o : Reason) (t : List ℕ) (p : ℕ) : Type 0 where
  -- what t says, and those of its terms that o looks at, with their places: the bad one, those before it and those behind it
  pub said : Sides
  pub says : SaysRule t said
  pub token : Token
  pub earlier : List Token
  pub later : List Token
  pub split : tokens_for o said ≡ earlier ++ token ∷ later
  -- it is bad, and none before it is
  pub bad : BadIn o said earlier token
  pub none_earlier : NoneOf (BadIn o said) [] earlier
  -- "the leftmost place is reported, counted from 0"
  pub place : p ≡ token.place
  pub stands : Stands t token
  pub leftmost : (us vs : List Token) (k : Token) → tokens_for o said ≡ us ++ k ∷ vs → BadIn o said us k → p ≤ k.place
  -- the number of its field and its number in the field are those of its side, and it is what the refusal says
  pub numbered : NumberedIn said token
  pub stated : StatedIn o said earlier token
