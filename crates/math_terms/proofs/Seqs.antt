-- Laws of lists.
use mathlib.Core.Path.{◌≡◌, refl, ap, ◌∙◌}
use mathlib.Core.Option.{some}
use mathlib.Core.List.{List, [], ◌∷◌, ◌++◌, map, append_assoc}
use Prim.Native.Nat.{ℕ, zero, suc, ◌<◌}
use native.Mathlib.Omega.{arith}
use lib.ListN.{length, get_or, get_elem?}
use Rattle.math_terms.specs.Seqs.{concat_map}

module _ {A B : Type 0} where
  pub concat_map_append : (v : A → List B) (s t : List A) → concat_map v (s ++ t) ≡ concat_map v s ++ concat_map v t
  concat_map_append v [] t = refl
  concat_map_append v (x ∷ s) t = rw (concat_map_append v s t, append_assoc)

module _ {A B C : Type 0} where
  pub concat_mapped : (f : B → List C) (g : A → B) (s : List A) → concat_map f (map g s) ≡ concat_map (λ x. f (g x)) s
  concat_mapped f g [] = refl
  concat_mapped f g (x ∷ s) = ap (λ (l : List C). f (g x) ++ l) (concat_mapped f g s)

  pub concat_map_twice : (g : B → List C) (f : A → List B) (s : List A) → concat_map g (concat_map f s) ≡ concat_map (λ x. concat_map g (f x)) s
  concat_map_twice g f [] = refl
  concat_map_twice g f (x ∷ s) = concat_map_append g (f x) (concat_map f s) ∙ ap (λ (u : List C). concat_map g (f x) ++ u) (concat_map_twice g f s)

-- an item that is there
pub item_at_lem : {A : Type 0} (w : List A) (p : ℕ) (d : A) → p < length w → get_elem? w p ≡ some (get_or w p d)
item_at_lem [] p d h = absurd (omega arith)
item_at_lem (x ∷ w) zero d h = refl
item_at_lem (x ∷ w) (suc p) d h = item_at_lem w p d (omega arith)
