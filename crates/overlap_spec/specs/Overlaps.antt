-- THE OVERLAP LIST of two of document 01's rules: its entries, their lines, its bytes.
use Rattle.std.specs.Prelude.{Bool, List, [], ◌∷◌, map, ℕ}
use Rattle.std.proofs.Math.Decide.{ℕ_discrete}
use Rattle.base_lists.specs.Seqs.{is_cons}
use Rattle.math_types.specs.Types.{Kind, basics}
use Rattle.text_grammar.specs.Terms.{OurTerm, OurFields, terms_of}
use Rattle.text_grammar.specs.constants.Constants.{Con, consts}
use Rattle.math_overlaps.specs.Substitutions.{Subst}
use Rattle.math_overlaps.specs.Overlaps.{Entry, overlaps}
use Rattle.overlap_spec.specs.Lines.{Binding, Line, list_text}
use Rattle.overlap_spec.specs.Variables.{variables}

abbrev pub OurEntry : Type 0
OurEntry = Entry basics consts ℕ

-- document 01: "A rule with no fields counts as having no entries"
abbrev pub entries_of : OurFields → OurFields → List OurEntry
entries_of [] r₂ = []
entries_of (f ∷ r₁) r₂ = overlaps basics consts ℕ_discrete (terms_of (f ∷ r₁)) (terms_of r₂)

-- "for each variable of the [..] rule [..] name, `=`, value"
abbrev pub bindings_of : List (List OurTerm) → Subst Con Kind ℕ ℕ → List Binding
bindings_of rule σ = map (λ v. record { kind = v.0; number = v.1; value = σ v.0 v.1 }) (variables rule)

abbrev pub line_of : OurFields → OurFields → OurEntry → Line
line_of r₁ r₂ e = record { fields = e.fields; left = bindings_of (terms_of r₁) e.left; right = bindings_of (terms_of r₂) e.right }

-- "The lines written are those of the entries, in their order"
abbrev pub lines_of : OurFields → OurFields → List Line
lines_of r₁ r₂ = map (line_of r₁ r₂) (entries_of r₁ r₂)

-- the bytes of the whole list
abbrev pub overlap_text : OurFields → OurFields → List ℕ
overlap_text r₁ r₂ = list_text (lines_of r₁ r₂)

-- document 02: whether two rules overlap, which is to say that their list "has an entry"
abbrev pub overlapping : OurFields → OurFields → Bool
overlapping r₁ r₂ = is_cons (lines_of r₁ r₂)
