-- Whether some term of a field, or some field of a side, passes a test. Assumes nothing.
use mathlib.Core.Path.{◌≡◌, refl, ap}
use mathlib.Core.Bool.{Bool, ◌||◌}
use mathlib.Core.List.{List, [], ◌∷◌, map}
use Prim.Native.Nat.{ℕ}
use Rattle.std.specs.List.{list_any}
use Rattle.math_types.specs.Types.{Kind}
use Rattle.text_values.specs.declared.Term.{Term}
use Rattle.text_values.specs.Values.{Field}
use Rattle.text_values.specs.Values.{view_term, view_field}
use Rattle.overlap_spec.specs.Variables.{is_variable, in_field, occurs}

pub some_term : (k : Kind) (n : ℕ) (l : List Term) → in_field k n (map view_term l) ≡ list_any (λ (t : Term). is_variable k n (view_term t)) l
some_term k n [] = refl
some_term k n (t ∷ l) = ap (λ (b : Bool). is_variable k n (view_term t) || b) (some_term k n l)

pub some_field : (k : Kind) (n : ℕ) (l : List Field) → occurs k n (map view_field l) ≡ list_any (λ (f : Field). in_field k n (view_field f)) l
some_field k n [] = refl
some_field k n (f ∷ l) = ap (λ (b : Bool). in_field k n (view_field f) || b) (some_field k n l)
