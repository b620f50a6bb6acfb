-- The grammar of a rule text: document 02, "A rule may go on after its left side with `=>` and a right side".
use Rattle.std.specs.Prelude.{◌≡◌, List, ◌∷◌, ◌++◌, ℕ}
use Rattle.text_grammar.specs.Grammar.{Raw, spell_t, TextOk}

-- what a rule text says: one side, or two
pub data Sides : Type 0 where
  one : List (List Raw) → Sides
  two : List (List Raw) → List (List Raw) → Sides

-- a text, `=>`, and a text
abbrev pub joined : List ℕ → List ℕ → List ℕ
joined a u = a ++ 61 ∷ (62 ∷ u)

abbrev pub spell_s : Sides → List ℕ
spell_s (one x) = spell_t x
spell_s (two x y) = joined (spell_t x) (spell_t y)

abbrev pub SidesOk : Sides → Type 0
SidesOk (one x) = TextOk x
SidesOk (two x y) = TextOk x × TextOk y

-- s is what t says
abbrev pub SaysRule : List ℕ → Sides → Type 0
SaysRule t s = SidesOk s × (t ≡ spell_s s)

-- THE GRAMMAR of rule texts
abbrev pub RuleGrammar : List ℕ → Type 0
RuleGrammar t = (s : Sides) × SaysRule t s
