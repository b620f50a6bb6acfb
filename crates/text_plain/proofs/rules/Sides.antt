-- The plain text of both sides, by whether there is a right side. Assumes nothing.
use mathlib.Core.Path.{◌≡◌, refl, ap}
use mathlib.Core.List.{List, [], ◌∷◌, ◌++◌, map}
use Prim.Native.Nat.{ℕ}
use native.Mathlib.Omega.{arith}
use lib.ListN.{length, take, length-map, length-take}
use Rattle.text_grammar.specs.Plain.{plain}
use Rattle.text_grammar.specs.Terms.{OurFields}
use Rattle.text_values.specs.declared.Rule.{Rule}
use Rattle.text_values.specs.Values.{view_field, view_side, view_rule}
use Rattle.text_grammar.specs.rules.Plain.{plain_sides, plain_both}
use Rattle.text_write.specs.pieces.Placed.{PlacedOn}
use Rattle.text_write.specs.declared.pieces.Page.{Page}
use Rattle.text_write.proofs.pieces.Pieces.{on_next, on_as}

-- `=>`
abbrev pub arrow : List ℕ
arrow = 61 ∷ (62 ∷ [])

pub two_fields : (x y : OurFields) → (length y ≡ 0 → ⊥) → plain_sides x y ≡ plain x ++ (arrow ++ plain y)
two_fields x [] h = absurd (h refl)
two_fields x (f ∷ y) h = refl

module _ (r : Rule) where
  pub one_side : r.right.n ≡ 0 → plain_both (view_rule r) ≡ plain (view_side r.left)
  one_side e = ap (λ (n : ℕ). plain_sides (view_side r.left) (map view_field (take n r.right.fields))) e

  pub two_sides : length r.right.fields ≡ 4 → (r.right.n ≡ 0 → ⊥)
      → plain_both (view_rule r) ≡ plain (view_side r.left) ++ (arrow ++ plain (view_side r.right))
  two_sides long some =
      let fs = r.right.fields in
      let used = take r.right.n fs in
      two_fields (view_side r.left) (view_side r.right) (λ e. some (omega (arith, e, length-map used view_field, length-take r.right.n fs)))

  -- the left side, the arrow and the right side, put one behind the other
  pub on_both : length r.right.fields ≡ 4 → (r.right.n ≡ 0 → ⊥) → {p q u v : Page}
      → PlacedOn (plain (view_side r.left)) p q → PlacedOn arrow q u → PlacedOn (plain (view_side r.right)) u v → PlacedOn (plain_both (view_rule r)) p v
  on_both long some left middle right = on_as (on_next left (on_next middle right)) (two_sides long some)
