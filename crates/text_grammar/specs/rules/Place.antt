-- Where the arrow stands, what a rule text says, and the place of refusal 2 in it, all by the machine of one side.
-- `parse_rule_iff` and `place_rule_is` of proofs/ say that these are what the grammar of rule texts says.
use Rattle.std.proofs.Math.Logic.{ite}
use Rattle.std.proofs.Math.Option.{Option, none, some, map}
use Rattle.std.specs.Prelude.{List, [], ◌∷◌, ℕ, suc, ◌+◌, take, drop}
use Rattle.std.proofs.Math.Decide.{ℕ_discrete}
use Rattle.text_grammar.specs.Grammar.{Raw}
use Rattle.text_grammar.specs.Machine.{parse, place2}
use Rattle.text_grammar.specs.rules.Sides.{Sides, one, two}

-- ---- the arrow: where the machine of one side stops, behind a text of its grammar, on `=`, and `>` comes next

abbrev pub arrow2 : List ℕ → Option (List ℕ)
arrow2 [] = none
arrow2 (c ∷ u) = ite (ℕ_discrete c 62) (some u) none

abbrev pub arrow1 : List ℕ → Option (List ℕ)
arrow1 [] = none
arrow1 (b ∷ r) = ite (ℕ_discrete b 61) (arrow2 r) none

-- the part before p, and the part behind the arrow at p
abbrev pub cut_parts : List ℕ → Option ℕ → Option (List ℕ) → Option (List ℕ × List ℕ)
cut_parts a (some q) o = none
cut_parts a none none = none
cut_parts a none (some u) = some (a, u)

abbrev pub cut_at : List ℕ → Option ℕ → Option (List ℕ × List ℕ)
cut_at t none = none
cut_at t (some p) = cut_parts (take p t) (place2 (take p t)) (arrow1 (drop p t))

-- THE CUT: the texts of the two sides, if there are two
abbrev pub cut : List ℕ → Option (List ℕ × List ℕ)
cut t = cut_at t (place2 t)

-- the text of the left side; the whole text where there is no arrow
abbrev pub left_part : List ℕ → Option (List ℕ × List ℕ) → List ℕ
left_part t none = t
left_part t (some c) = c.0

abbrev pub left_text : List ℕ → List ℕ
left_text t = left_part t (cut t)

-- ---- parsing

abbrev pub both_sides : Option (List (List Raw)) → Option (List (List Raw)) → Option Sides
both_sides none o = none
both_sides (some x) o = map (two x) o

abbrev pub parse_parts : List ℕ → Option (List ℕ × List ℕ) → Option Sides
parse_parts t none = map one (parse t)
parse_parts t (some c) = both_sides (parse c.0) (parse c.1)

abbrev pub parse_rule : List ℕ → Option Sides
parse_rule t = parse_parts t (cut t)

-- ---- the place of refusal 2, computed

-- behind `=`, which stands before p
abbrev pub place62 : ℕ → List ℕ → Option ℕ
place62 p [] = some p
place62 p (c ∷ u) = ite (ℕ_discrete c 62) (map (λ q. suc p + q) (place2 u)) (some p)

abbrev pub place61 : ℕ → List ℕ → Option ℕ
place61 p [] = some p
place61 p (b ∷ r) = ite (ℕ_discrete b 61) (place62 (suc p) r) (some p)

-- the machine stopped at p; it is where the left side ends, or not
abbrev pub place_at : ℕ → Option ℕ → List ℕ → Option ℕ
place_at p (some q) r = some p
place_at p none r = place61 p r

abbrev pub place_on : List ℕ → Option ℕ → Option ℕ
place_on t none = none
place_on t (some p) = place_at p (place2 (take p t)) (drop p t)

abbrev pub place_rule : List ℕ → Option ℕ
place_rule t = place_on t (place2 t)
