-- The plain text of a rule: its sides' plain texts, joined by `=>` where there are two.
use Rattle.std.specs.Prelude.{List, [], ◌∷◌, map, ℕ}
use Rattle.text_grammar.specs.Plain.{raw_field, plain}
use Rattle.text_grammar.specs.rules.Sides.{Sides, one, two, joined}
use Rattle.text_grammar.specs.Terms.{OurFields}
use Rattle.text_grammar.specs.rules.Read.{OurRule}

abbrev pub plain_sides : OurFields → OurFields → List ℕ
plain_sides x [] = plain x
plain_sides x (f ∷ y) = joined (plain x) (plain (f ∷ y))

abbrev pub plain_both : OurRule → List ℕ
plain_both w = plain_sides w.0 w.1

-- what it says
abbrev pub raw_sides : OurFields → OurFields → Sides
raw_sides x [] = one (map raw_field x)
raw_sides x (f ∷ y) = two (map raw_field x) (map raw_field (f ∷ y))
