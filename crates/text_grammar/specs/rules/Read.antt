-- Reading a rule: document 02's refusals in their order, each over the whole text, each at its leftmost place.
use Rattle.std.proofs.Math.Option.{Option, map, get_or}
use Rattle.std.specs.Prelude.{List, [], ◌∷◌, ◌≡◌, ℕ, ◌<◌, length}
use Rattle.text_grammar.specs.Leftmost.{leftmost, LeftmostAt}
use Rattle.text_grammar.specs.Tokens.{Token}
use Rattle.text_grammar.specs.Place.{StopsOf}
use Rattle.text_grammar.specs.Terms.{OurFields, fields_of}
use Rattle.text_grammar.specs.Read.{Reason, long, grammar, fields, terms, limits, linear, variable, unknown}
use Rattle.text_grammar.specs.Read.{rule, Bad, bad?, place_of_token}
use Rattle.text_grammar.specs.Read.{longer}
use Rattle.text_grammar.specs.Read.{OutcomeOf, chain}
use Rattle.text_grammar.specs.rules.Sides.{Sides, one, two, SaysRule, RuleGrammar}
use Rattle.text_grammar.specs.rules.Place.{parse_rule, place_rule}
use Rattle.text_grammar.specs.rules.Tokens.{left_tokens, right_tokens, all_tokens, Unknown, lacks?, left_side}

-- THE ORDER: 1, 2, 3, 4, 5, 6, 10. Document 02: refusal 10 "is tried after 6"
abbrev pub order : List Reason
order = long ∷ grammar ∷ fields ∷ terms ∷ limits ∷ linear ∷ unknown ∷ []

-- the terms that a reason looks at: 6 at the left side's, since "its list variables may recur and share a field" says it of the right side;
-- 10 at the right side's; 3, 4 and 5 "hold for the right side too"
abbrev pub tokens_for : Reason → Sides → List Token
tokens_for long s = []
tokens_for grammar s = []
tokens_for fields s = all_tokens s
tokens_for terms s = all_tokens s
tokens_for limits s = all_tokens s
tokens_for linear s = left_tokens s
tokens_for variable s = []
tokens_for unknown s = right_tokens s

-- the terms that it is about, behind the terms before them: those of document 01, and the variables that the left side lacks
abbrev pub BadIn : Reason → Sides → List Token → Token → Type 0
BadIn long s b m = ⊥
BadIn grammar s b m = ⊥
BadIn fields s b m = Bad rule.width fields b m
BadIn terms s b m = Bad rule.width terms b m
BadIn limits s b m = Bad rule.width limits b m
BadIn linear s b m = Bad rule.width linear b m
BadIn variable s b m = ⊥
BadIn unknown s b m = Unknown s m

abbrev pub bad_in? : (r : Reason) (s : Sides) (b : List Token) (m : Token) → Dec (BadIn r s b m)
bad_in? long s b m = no (λ h. h)
bad_in? grammar s b m = no (λ h. h)
bad_in? fields s b m = bad? rule.width fields b m
bad_in? terms s b m = bad? rule.width terms b m
bad_in? limits s b m = bad? rule.width limits b m
bad_in? linear s b m = bad? rule.width linear b m
bad_in? variable s b m = no (λ h. h)
bad_in? unknown s b m = lacks? (fields_of (left_side s)) m.raw

-- some term of what t says is bad, and p is the place of the first
abbrev pub FirstIn : Reason → List ℕ → ℕ → Type 0
FirstIn r t p = (s : Sides) × SaysRule t s × LeftmostAt (BadIn r s) place_of_token (tokens_for r s) p

-- THE REFUSALS: t is refused for r at p, if none that is tried before applies
abbrev pub RefusesRule : List ℕ → Reason → ℕ → Type 0
RefusesRule t long p = (rule.bytes < length t) × (p ≡ rule.bytes)
RefusesRule t grammar p = StopsOf RuleGrammar t p
RefusesRule t fields p = FirstIn fields t p
RefusesRule t terms p = FirstIn terms t p
RefusesRule t limits p = FirstIn limits t p
RefusesRule t linear p = FirstIn linear t p
RefusesRule t variable p = FirstIn variable t p
RefusesRule t unknown p = FirstIn unknown t p

-- ---- the same, computed

abbrev pub said_rule : List ℕ → Sides
said_rule t = get_or (parse_rule t) (one [])

abbrev pub first_in : Reason → Sides → Option ℕ
first_in r s = map place_of_token (leftmost (BadIn r s) (bad_in? r s) [] (tokens_for r s))

abbrev pub place_of : List ℕ → Reason → Option ℕ
place_of t long = longer rule.bytes (length t)
place_of t grammar = place_rule t
place_of t fields = first_in fields (said_rule t)
place_of t terms = first_in terms (said_rule t)
place_of t limits = first_in limits (said_rule t)
place_of t linear = first_in linear (said_rule t)
place_of t variable = first_in variable (said_rule t)
place_of t unknown = first_in unknown (said_rule t)

-- ---- READING: the fields of the left side, and those of the right side, none where there is no right side

abbrev pub OurRule : Type 0
OurRule = OurFields × OurFields

abbrev pub both_fields : Sides → OurRule
both_fields (one x) = (fields_of x, [])
both_fields (two x y) = (fields_of x, fields_of y)

abbrev pub read_rule : List ℕ → OutcomeOf OurRule
read_rule t = chain (place_of t) order (both_fields (said_rule t))
