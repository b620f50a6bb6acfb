-- Where a field's terms lie in the slip's field: with at most one list variable there is one way only.
-- Each atom takes one item, and the list variable takes what the atoms leave.
use mathlib.Core.Path.{◌≡◌, refl, sym, ◌∙◌, ap, ap₂}
use mathlib.Core.Logic.{◌↔◌}
use mathlib.Core.Bool.{true}
use mathlib.Core.List.{List, [], ◌∷◌, ◌++◌}
use Prim.Native.Nat.{ℕ, ◌+◌, ◌-◌, ◌≤◌}
use native.Mathlib.Omega.{arith}
use lib.ListN.{length, take, drop, length-append, take-append-drop, drop_of_length-le}
use lib.Seq.{take_at, drop_at, drop-drop}
use borrow.Author.Tests.{leb-true, le-leb, eqb-true, eq-eqb}
use Rattle.base_lists.specs.Seqs.{All}
use Rattle.math_types.specs.Order.{Full, basic, list}
use Rattle.math_terms.specs.Terms.{Term, con, var}
use Rattle.math_terms.specs.Seqs.{concat_map}
use Rattle.math_terms.specs.Fillings.{Filling, value, fill}
use Rattle.math_terms.specs.Linear.{lists, OneList}
use Rattle.math_terms.specs.Matcher.{atoms, width, room, has_room}

module _ {C K A : Type 0} (φ : Filling C (Full K) A) (gap : ℕ) (w : List C) where
  -- each term's value is its part of w, the first at item p
  abbrev pub Slices : List (Term C (Full K) A) → ℕ → Type 0
  Slices [] p = Unit {0}
  Slices (t ∷ f) p = (value φ t ≡ take (width gap t) (drop p w)) × Slices f (p + width gap t)

  abbrev Sized : Term C (Full K) A → Type 0
  Sized t = length (value φ t) ≡ width gap t

  slices_of : (f : List (Term C (Full K) A)) (p : ℕ) → All Sized f → fill φ f ≡ drop p w → Slices f p
  slices_of [] p s e = tt
  slices_of (t ∷ f) p s e = (
    sym (take_at (value φ t) (fill φ f) (width gap t) s.0) ∙ ap (take (width gap t)) e,
    slices_of f (p + width gap t) s.1 (sym (drop_at (value φ t) (fill φ f) (width gap t) s.0) ∙ ap (drop (width gap t)) e ∙ drop-drop (width gap t) p w),
  )

-- `gap` for each list variable
abbrev gaps : {A : Type 0} → ℕ → List A → ℕ
gaps gap [] = 0
gaps gap (a ∷ l) = gap + gaps gap l

module _ {C K A : Type 0} where
  -- the items that a field takes
  abbrev pub span : ℕ → List (Term C (Full K) A) → ℕ
  span gap [] = 0
  span gap (t ∷ f) = width gap t + span gap f

  span_is : (gap : ℕ) (f : List (Term C (Full K) A)) → span gap f ≡ atoms f + gaps gap (lists f)
  span_is gap [] = refl
  span_is gap (con c ∷ f) = omega (arith, span_is gap f)
  span_is gap (var (basic k) a ∷ f) = omega (arith, span_is gap f)
  span_is gap (var list a ∷ f) = omega (arith, span_is gap f)

  -- where there is room, the field takes all items
  pub room_span : (f : List (Term C (Full K) A)) → OneList f → (n : ℕ) → has_room f n ≡ true → span (n - atoms f) f ≡ n
  room_span f o n h = go (lists f) refl o h
    where
      go : (l : List A) → lists f ≡ l → length l ≤ 1 → room l (atoms f) n ≡ true → span (n - atoms f) f ≡ n
      go [] e o h = omega (arith, span_is (n - atoms f) f, ap (gaps (n - atoms f)) e, eqb-true (atoms f) n h)
      go (a ∷ []) e o h = omega (arith, span_is (n - atoms f) f, ap (gaps (n - atoms f)) e, leb-true (atoms f) n h)
      go (a ∷ b ∷ l) e o h = absurd (omega arith)

  slices_fill : (φ : Filling C (Full K) A) (gap : ℕ) (w : List C) (f : List (Term C (Full K) A)) (p : ℕ)
      → p + span gap f ≡ length w → Slices φ gap w f p → fill φ f ≡ drop p w
  slices_fill φ gap w [] p e s = sym (drop_of_length-le w {i = p} (omega arith))
  slices_fill φ gap w (t ∷ f) p e s =
      ap₂ (λ (x y : List C). x ++ y) s.0 (slices_fill φ gap w f (p + width gap t) (omega arith) s.1 ∙ sym (drop-drop (width gap t) p w))
      ∙ take-append-drop (width gap t) (drop p w)

-- a filling that gives each atom variable one constant
module _ {C K A : Type 0} (φ : Filling C (Full K) A) (one : (k : K) (a : A) → length (φ (basic k) a) ≡ 1) where
  fill_length : (f : List (Term C (Full K) A)) → length (fill φ f) ≡ atoms f + length (concat_map (φ list) (lists f))
  fill_length [] = refl
  fill_length (con c ∷ f) = omega (arith, fill_length f)
  fill_length (var (basic k) a ∷ f) = simp length-append (omega (arith, fill_length f, one k a))
  fill_length (var list a ∷ f) = simp length-append (omega (arith, fill_length f))

  sized : (gap : ℕ) (w : List C) (f : List (Term C (Full K) A)) → All (λ a. length (φ list a) ≡ gap) (lists f) → All (Sized φ gap w) f
  sized gap w [] h = tt
  sized gap w (con c ∷ f) h = (refl, sized gap w f h)
  sized gap w (var (basic k) a ∷ f) h = (one k a, sized gap w f h)
  sized gap w (var list a ∷ f) h = (h.0, sized gap w f h.1)

  -- the room that there must be, and the value's length of each list variable
  lengths : (f : List (Term C (Full K) A)) → OneList f → (n : ℕ) → length (fill φ f) ≡ n
      → (has_room f n ≡ true) × All (λ a. length (φ list a) ≡ n - atoms f) (lists f)
  lengths f o n e = go (lists f) o (sym e ∙ fill_length f)
    where
      go : (l : List A) → length l ≤ 1 → n ≡ atoms f + length (concat_map (φ list) l)
          → (room l (atoms f) n ≡ true) × All (λ a. length (φ list a) ≡ n - atoms f) l
      go [] o q = (eq-eqb (atoms f) n (omega arith), tt)
      go (a ∷ []) o q = let r = q ∙ ap (λ (m : ℕ). atoms f + m) (length-append (φ list a) []) in (le-leb (atoms f) n (omega arith), (omega arith, tt))
      go (a ∷ b ∷ l) o q = absurd (omega arith)

  -- THE ONE WAY: a field is filled to w exactly when w has room for it and each term's value is its part of w
  pub field_iff : (f : List (Term C (Full K) A)) → OneList f → (w : List C)
      → (fill φ f ≡ w) ↔ ((has_room f (length w) ≡ true) × Slices φ (length w - atoms f) w f 0)
  field_iff f o w = (to, λ s. slices_fill φ (length w - atoms f) w f 0 (omega (arith, room_span f o (length w) s.0)) s.1)
    where
      to : fill φ f ≡ w → (has_room f (length w) ≡ true) × Slices φ (length w - atoms f) w f 0
      to e = let h = lengths f o (length w) (ap length e) in (h.0, slices_of φ (length w - atoms f) w f 0 (sized (length w - atoms f) w f h.1) e)
