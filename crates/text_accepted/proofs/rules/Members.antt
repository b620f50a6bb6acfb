-- Whether each term of a field, or each field of a side, passes a test. Assumes nothing.
use mathlib.Core.Path.{◌≡◌, refl, ap}
use mathlib.Core.Bool.{Bool, ◌&&◌}
use mathlib.Core.List.{List, [], ◌∷◌, map}
use Rattle.std.specs.List.{list_all}
use Rattle.text_grammar.specs.Terms.{OurFields}
use Rattle.text_values.specs.declared.Term.{Term}
use Rattle.text_values.specs.Values.{Field}
use Rattle.text_values.specs.Values.{view_term, view_field}
use Rattle.text_accepted.specs.rules.Rules.{known_term, known_field, known}

pub every_term : (x : OurFields) (l : List Term) → known_field x (map view_term l) ≡ list_all (λ (t : Term). known_term x (view_term t)) l
every_term x [] = refl
every_term x (t ∷ l) = ap (λ (b : Bool). known_term x (view_term t) && b) (every_term x l)

pub every_field : (x : OurFields) (l : List Field) → known x (map view_field l) ≡ list_all (λ (f : Field). known_field x (view_field f)) l
every_field x [] = refl
every_field x (f ∷ l) = ap (λ (b : Bool). known_field x (view_field f) && b) (every_field x l)
