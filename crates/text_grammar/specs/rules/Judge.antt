-- Reading computed side by side: each side by document 01's reading, of their refusals the one that is tried first, then 10.
-- `judge_is` of proofs/ says that this is reading.
use Rattle.std.specs.Prelude.{cond, List, [], ℕ, ◌+◌, ltb, length}
use Rattle.std.proofs.Math.Option.{Option, none, some, map}
use Rattle.text_grammar.specs.Grammar.{Raw}
use Rattle.text_grammar.specs.Leftmost.{leftmost}
use Rattle.text_grammar.specs.Tokens.{Token, tokens}
use Rattle.text_grammar.specs.Terms.{OurFields, fields_of}
use Rattle.text_grammar.specs.Read.{long, grammar, fields, terms, limits, linear, variable, unknown, number, rule, place_of_token, said}
use Rattle.text_grammar.specs.Read.{longer}
use Rattle.text_grammar.specs.Read.{OutcomeOf, refused, accepted, tell, Outcome, read_side}
use Rattle.text_grammar.specs.rules.Place.{cut, place_rule}
use Rattle.text_grammar.specs.rules.Tokens.{Lacks, lacks?}
use Rattle.text_grammar.specs.rules.Read.{OurRule}

-- a text of one side: a rule without right side
abbrev pub as_rule : Outcome → OutcomeOf OurRule
as_rule (refused r p) = refused r p
as_rule (accepted x) = accepted (x, [])

-- what is said of the right side, which begins at place d. Its 6 counts for nothing; and as 6 is the last that one side is tried for, a
-- side that is refused for it has none of 3, 4 and 5
abbrev pub right_told : ℕ → Outcome → Outcome
right_told d (refused long p) = refused long (d + p)
right_told d (refused grammar p) = refused grammar (d + p)
right_told d (refused fields p) = refused fields (d + p)
right_told d (refused terms p) = refused terms (d + p)
right_told d (refused limits p) = refused limits (d + p)
right_told d (refused linear p) = accepted []
right_told d (refused variable p) = refused variable (d + p)
right_told d (refused unknown p) = refused unknown (d + p)
right_told d (accepted y) = accepted y

-- the refusal of the lower number of both, the former's where both have it; and o where there is none
abbrev pub lower : Outcome → Outcome → OutcomeOf OurRule → OutcomeOf OurRule
lower (refused r p) (refused q k) o = cond (ltb (number q) (number r)) (refused q k) (refused r p)
lower (refused r p) (accepted y) o = refused r p
lower (accepted x) (refused q k) o = refused q k
lower (accepted x) (accepted y) o = o

-- the first variable of a side that l lacks, by its place in the side's own text
abbrev pub lacking_at : OurFields → List (List Raw) → Option ℕ
lacking_at l y = map place_of_token (leftmost (λ b (m : Token). Lacks l m.raw) (λ b (m : Token). lacks? l m.raw) [] (tokens y))

-- two sides that none of 3 to 6 applies to
abbrev pub known : ℕ → List (List Raw) → List (List Raw) → OutcomeOf OurRule
known d x y = tell unknown (map (λ q. d + q) (lacking_at (fields_of x) y)) (accepted (fields_of x, fields_of y))

-- the texts of two sides
abbrev pub judge_two : List ℕ → List ℕ → OutcomeOf OurRule
judge_two a u = lower (read_side a) (right_told (length a + 2) (read_side u)) (known (length a + 2) (said a) (said u))

abbrev pub judge_parts : List ℕ → Option (List ℕ × List ℕ) → OutcomeOf OurRule
judge_parts t none = as_rule (read_side t)
judge_parts t (some c) = judge_two c.0 c.1

-- JUDGING: 1 and 2 of the whole text, then its sides
abbrev pub judge : List ℕ → OutcomeOf OurRule
judge t = tell long (longer rule.bytes (length t)) (tell grammar (place_rule t) (judge_parts t (cut t)))
