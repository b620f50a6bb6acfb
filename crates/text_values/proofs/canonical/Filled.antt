-- Laws of arrays that are filled up to a place: one step of a loop over the places, and where the loop ends.
use mathlib.Core.Path.{◌≡◌, refl, sym, ◌∙◌, ap, ap₂}
use mathlib.Core.Bool.{Bool, true, false, ◌&&◌}
use mathlib.Core.List.{List, [], ◌∷◌}
use Prim.Native.Nat.{ℕ, zero, suc, ◌<◌, ◌≤◌}
use native.Mathlib.Omega.{arith}
use borrow.Author.Tests.{eq-eqb}
use lib.ListN.{length, take, drop}
use Rattle.std.specs.List.{list_all, IsSplitAt}
use Rattle.text_values.specs.canonical.Filled.{filled, filled_to}

module _ {A : Type 0} (good blank : A → Bool) where
  -- fewer places than are used
  filled_over : (n : ℕ) (s : List A) → length s < n → filled good blank n s ≡ false
  filled_over zero s h = absurd (omega arith)
  filled_over (suc n) [] h = refl
  filled_over (suc n) (x ∷ s) h = ap (λ (b : Bool). good x && b) (filled_over n s (omega arith)) ∙ last (good x)
    where
      last : (b : Bool) → (b && false) ≡ false
      last true = refl
      last false = refl

  sized : (w n : ℕ) (s : List A) → length s ≡ w → filled_to w good blank n s ≡ filled good blank n s
  sized w n s e = ap (λ (b : Bool). b && filled good blank n s) (eq-eqb (length s) w e)

  -- ---- by the used places and the others

  and_assoc : (a b c : Bool) → (a && (b && c)) ≡ ((a && b) && c)
  and_assoc true b c = refl
  and_assoc false b c = refl

  filled_rest : (s : List A) → filled good blank zero s ≡ list_all blank s
  filled_rest [] = refl
  filled_rest (x ∷ s) = ap (λ (b : Bool). blank x && b) (filled_rest s)

  filled_parts : (n : ℕ) (s : List A) → n ≤ length s → filled good blank n s ≡ (list_all good (take n s) && list_all blank (drop n s))
  filled_parts zero s h = filled_rest s
  filled_parts (suc n) [] h = absurd (omega arith)
  filled_parts (suc n) (x ∷ s) h =
      ap (λ (b : Bool). good x && b) (filled_parts n s (omega arith)) ∙ and_assoc (good x) (list_all good (take n s)) (list_all blank (drop n s))

  -- AN ARRAY of w places that is split behind the used ones: each of these is good, and each other blank
  module _ (w n : ℕ) (s : List A) (e : length s ≡ w) where
    parted : {u v : List A} → IsSplitAt s n u v → filled_to w good blank n s ≡ (list_all good u && list_all blank v)
    parted p =
        sized w n s e ∙ filled_parts n s p.0
        ∙ ap₂ (λ (x y : List A). list_all good x && list_all blank y) (sym p.1) (sym p.2)

    pub parted_good : {u v : List A} {b c : Bool} → IsSplitAt s n u v → b ≡ list_all good u → b ≡ true → c ≡ list_all blank v
        → c ≡ filled_to w good blank n s
    parted_good {u} {v} p f t g = g ∙ sym (parted p ∙ ap (λ (x : Bool). x && list_all blank v) (sym f ∙ t))

    pub parted_bad : {u v : List A} {b : Bool} → IsSplitAt s n u v → b ≡ list_all good u → b ≡ false → b ≡ filled_to w good blank n s
    parted_bad {u} {v} p f t = t ∙ sym (parted p ∙ ap (λ (x : Bool). x && list_all blank v) (sym f ∙ t))

    -- fewer places than are used
    pub parted_over : length s < n → false ≡ filled_to w good blank n s
    parted_over h = sym (sized w n s e ∙ filled_over n s h)
