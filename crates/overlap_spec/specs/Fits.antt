-- What a line of the list says of slips. Document 01: "A slip fits fields when it has as many and some filling of their variables,
-- each by its type, makes the two equal under the same laws; it fits an entry when it fits the entry's fields."
use Rattle.std.specs.Prelude.{◌≡◌, ℕ}
use mathlib.Core.List.{List, map, Memᴰ}
use Rattle.base_lists.specs.Seqs.{All}
use Rattle.math_types.specs.Types.{Kind, basics}
use Rattle.math_terms.specs.Terms.{con}
use Rattle.math_terms.specs.Fillings.{Filling, Typed, fill}
use Rattle.text_grammar.specs.Terms.{OurFields, terms_of, SlipFields, items_of}
use Rattle.text_grammar.specs.constants.Constants.{Con, consts}
use Rattle.text_grammar.specs.Limits.{TermIn}
use Rattle.text_grammar.specs.constants.Matching.{Matches}
use Rattle.math_overlaps.specs.Solutions as theory
use Rattle.overlap_spec.specs.Lines.{Binding, Line}
use Rattle.overlap_spec.specs.Variables.{Variable, variables}

-- ---- slips of any length, whose items are document 01's constants

abbrev pub OurCon : Con → Type 0
OurCon c = TermIn (con c)

abbrev pub OurSlip : SlipFields → Type 0
OurSlip w = All (All OurCon) w

-- ---- a slip fits a line's fields

abbrev pub Fits : Line → SlipFields → Type 0
Fits l w = Matches l.fields w

-- "That filling, put into the values that the entry's line shows, gives the fillings of the two rules": for the filling ψ of the line's
-- fields, the bindings name the rule's variables, each once and in order,
-- and every filling of the rule that makes it w gives them those values
abbrev pub name_of : Binding → Variable
name_of b = (b.kind, b.number)

abbrev pub Shows : OurFields → List Binding → Filling Con Kind ℕ → SlipFields → Type 0
Shows rule bs ψ w =
    (map name_of bs ≡ variables (terms_of rule))
    × ((φ : Filling Con Kind ℕ) → Typed basics consts φ → map (fill φ) (terms_of rule) ≡ items_of w
    → (b : Binding) → Memᴰ b bs → φ b.kind b.number ≡ fill ψ b.value)

-- ---- solutions of two of document 01's rules, over any names B

abbrev pub Solution : OurFields → OurFields → Type 0 → Type 0
Solution r₁ r₂ B = theory.Solution basics consts (terms_of r₁) (terms_of r₂) B

abbrev pub Covers : (r₁ r₂ : OurFields) (B : Type 0) → Solution r₁ r₂ B → SlipFields → Type 0
Covers r₁ r₂ B x w = theory.Covers basics consts (terms_of r₁) (terms_of r₂) B x (items_of w)
