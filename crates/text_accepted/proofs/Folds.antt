-- A loop that folds a function over what the members of a list stand for. Assumes nothing.
use mathlib.Core.Path.{◌≡◌, sym, ◌∙◌}
use mathlib.Core.List.{List, map, foldl}
use Prim.Native.Nat.{ℕ, ◌+◌, ◌<◌, ◌≤◌}
use native.Mathlib.Numerals.{add-one}
use lib.ListN.{length, get_or, drop, drop_of_length-le}
use lib.Seq.{drop-cons}

module _ {A B S : Type 0} (view : A → B) (f : S → B → S) (s : List A) (x₀ : S) where
  -- what is left to fold from the state x at member i is what was to fold from x₀
  abbrev pub Folded : ℕ → S → Type 0
  Folded i x = foldl f x₀ (map view s) ≡ foldl f x (map view (drop i s))

  pub folded_one : (i : ℕ) (x : S) (d : A) → Folded i x → i < length s → Folded (i + 1) (f x (view (get_or s i d)))
  folded_one i x d v h = v ∙ rw (add-one, drop-cons s i d h)

  pub folded_all : (i : ℕ) (x : S) → Folded i x → length s ≤ i → x ≡ foldl f x₀ (map view s)
  folded_all i x v h = sym (v ∙ rw (drop_of_length-le s {i = i} h))
