-- Lists: each member replaced by a list, and no member twice.
use mathlib.Core.List.{List, [], ◌∷◌, ◌++◌, Memᴰ}

module _ {A B : Type 0} where
  -- each member replaced by the list that v gives it
  abbrev pub concat_map : (A → List B) → List A → List B
  concat_map v [] = []
  concat_map v (x ∷ xs) = v x ++ concat_map v xs

module _ {A : Type 0} where
  -- no member twice
  abbrev pub Distinct : List A → Type 0
  Distinct [] = Unit {0}
  Distinct (x ∷ xs) = (Memᴰ x xs → ⊥) × Distinct xs
