-- Laws of lists: cutting, members, no member twice, the pigeonhole.
use mathlib.Core.Path.{◌≡◌, refl, sym, ◌∙◌, ap, ap₂, subst}
use mathlib.Core.Logic.{◌⊎◌, inl, inr}
use mathlib.Core.List.{List, [], ◌∷◌, ◌++◌, map, head-eq_of_cons-eq, tail-eq_of_cons-eq}
use mathlib.Core.List.Memᴰ
use mathlib.Core.List.{Memᴰ}
use Prim.Native.Nat.{ℕ, zero, suc, ◌+◌, ◌-◌, ◌≤◌}
use native.Mathlib.Omega.{arith}
use Rattle.math_terms.specs.Seqs.{Distinct}
use mathlib.Core.Option.{some, none-ne-some, some-injective}
use lib.ListN.{get_elem?, length, take, drop, length-append, length-take, length-drop, take-append-drop}

module _ {A : Type 0} where
  -- equal lists, cut at the same place
  pub cut : (s₁ s₂ t₁ t₂ : List A) → length s₁ ≡ length s₂ → s₁ ++ t₁ ≡ s₂ ++ t₂ → (s₁ ≡ s₂) × (t₁ ≡ t₂)
  cut [] [] t₁ t₂ h e = (refl, e)
  cut [] (y ∷ s₂) t₁ t₂ h e = absurd (omega arith)
  cut (x ∷ s₁) [] t₁ t₂ h e = absurd (omega arith)
  cut (x ∷ s₁) (y ∷ s₂) t₁ t₂ h e =
      let r = cut s₁ s₂ t₁ t₂ (omega arith) (tail-eq_of_cons-eq e) in
      (ap₂ (λ (z : A) (l : List A). z ∷ l) (head-eq_of_cons-eq e) r.0, r.1)

  -- a shorter beginning begins a longer one
  pub pre_of : (p x a y : List A) → p ++ x ≡ a ++ y → length p ≤ length a → (r : List A) × (a ≡ p ++ r)
  pre_of [] x a y e h = (a, refl)
  pre_of (c ∷ p) x [] y e h = absurd (omega arith)
  pre_of (c ∷ p) x (d ∷ a) y e h =
      let r = pre_of p x a y (tail-eq_of_cons-eq e) (omega arith) in
      (r.0, ap₂ (λ (z : A) (l : List A). z ∷ l) (sym (head-eq_of_cons-eq e)) r.1)

  -- a shorter end ends a longer one
  pub suf_of : (x p y b : List A) → x ++ p ≡ y ++ b → length p ≤ length b → (r : List A) × (b ≡ r ++ p)
  suf_of x p [] b e h = (x, sym e)
  suf_of [] p (d ∷ y) b e h = absurd (omega (arith, simp length-append at (ap length e)))
  suf_of (c ∷ x) p (d ∷ y) b e h = suf_of x p y b (tail-eq_of_cons-eq e) h

  -- a list of at least h + t items is h items, a run, and t items
  pub split3 : (h t : ℕ) (w : List A) → h + t ≤ length w → (a m b : List A) × (w ≡ a ++ (m ++ b)) × (length a ≡ h) × (length b ≡ t)
  split3 h t w q =
      let r = drop h w in
      let k = length r - t in (
        take h w,
        take k r,
        drop k r,
        sym (take-append-drop h w) ∙ ap (λ (l : List A). take h w ++ l) (sym (take-append-drop k r)),
        simp length-take (omega arith),
        simp (length-drop, length-drop) (omega arith),
      )

  pub in_middle : (l r : List A) (y z : A) → Memᴰ z (l ++ y ∷ r) → Memᴰ z (l ++ r) ⊎ (z ≡ y)
  in_middle l r y z h = go (Memᴰ.append_cases l h)
    where
      go₂ : (z ≡ y) ⊎ Memᴰ z r → Memᴰ z (l ++ r) ⊎ (z ≡ y)
      go₂ (inl e) = inr e
      go₂ (inr i) = inl (Memᴰ.append_right l i)

      go : Memᴰ z l ⊎ Memᴰ z (y ∷ r) → Memᴰ z (l ++ r) ⊎ (z ≡ y)
      go (inl i) = inl (Memᴰ.append_left r i)
      go (inr i) = go₂ (Memᴰ.cases_cons i)

  pub take_out : (z : A) (l : List A) → Memᴰ z l → (p r : List A) × (l ≡ p ++ z ∷ r)
  take_out z [] i = absurd (Memᴰ.not-nil i)
  take_out z (y ∷ l) i = go (λ i'. take_out z l i') (Memᴰ.cases_cons i)
    where
      go : (Memᴰ z l → (p r : List A) × (l ≡ p ++ z ∷ r)) → (z ≡ y) ⊎ Memᴰ z l → (p r : List A) × (y ∷ l ≡ p ++ z ∷ r)
      go rec (inl e) = ([], l, ap (λ (u : A). u ∷ l) (sym e))
      go rec (inr i') = let q = rec i' in (y ∷ q.0, q.1, ap (λ (u : List A). y ∷ u) q.2)

module _ {A : Type 0} where
  pub distinct_append : (s t : List A) → Distinct s → Distinct t → ((z : A) → Memᴰ z s → Memᴰ z t → ⊥) → Distinct (s ++ t)
  distinct_append [] t p q h = q
  distinct_append (x ∷ s) t p q h = (λ i. go (Memᴰ.append_cases s i), distinct_append s t p.1 q (λ z i j. h z (Memᴰ.tail i) j))
    where
      go : Memᴰ x s ⊎ Memᴰ x t → ⊥
      go (inl i) = p.0 i
      go (inr i) = h x (Memᴰ.head refl) i

module _ {A B : Type 0} where
  -- f need be one-to-one on the members only
  pub distinct_map_in : (f : A → B) (s : List A) → ((x y : A) → Memᴰ x s → Memᴰ y s → f x ≡ f y → x ≡ y) → Distinct s → Distinct (map f s)
  distinct_map_in f [] inj d = tt
  distinct_map_in f (x ∷ s) inj d = (
    λ i. let u = Memᴰ.of_map f s i in d.0 (Memᴰ.cast (inj x u.0 (Memᴰ.head refl) (Memᴰ.tail u.1) (sym u.2)) u.1),
    distinct_map_in f s (λ y z i j. inj y z (Memᴰ.tail i) (Memᴰ.tail j)) d.1,
  )

  pub distinct_map : (f : A → B) (s : List A) → ((x y : A) → f x ≡ f y → x ≡ y) → Distinct s → Distinct (map f s)
  distinct_map f s inj d = distinct_map_in f s (λ x y i j e. inj x y e) d

module _ {A : Type 0} where
  pub at_in : (l : List A) (i : ℕ) (x : A) → get_elem? l i ≡ some x → Memᴰ x l
  at_in [] i x e = absurd (none-ne-some x e)
  at_in (y ∷ l) zero x e = Memᴰ.head (sym (some-injective y x e))
  at_in (y ∷ l) (suc i) x e = Memᴰ.tail (at_in l i x e)

  -- no member stands at two places
  pub same_place : (l : List A) → Distinct l → (i j : ℕ) (x : A) → get_elem? l i ≡ some x → get_elem? l j ≡ some x → i ≡ j
  same_place [] d i j x e f = absurd (none-ne-some x e)
  same_place (y ∷ l) d zero zero x e f = refl
  same_place (y ∷ l) d zero (suc j) x e f = absurd (d.0 (Memᴰ.cast (some-injective y x e) (at_in l j x f)))
  same_place (y ∷ l) d (suc i) zero x e f = absurd (d.0 (Memᴰ.cast (some-injective y x f) (at_in l i x e)))
  same_place (y ∷ l) d (suc i) (suc j) x e f = ap suc (same_place l d.1 i j x e f)

-- v makes the two sides of every equation equal
module _ {A C : Type 0} where
  abbrev pub SolvesV : (A → C) → List (A × A) → Type 0
  SolvesV v [] = Unit {0}
  SolvesV v (e ∷ es) = (v e.0 ≡ v e.1) × SolvesV v es

-- THE PIGEONHOLE: distinct members, each related to a member of ys, no two to the same: ys is at least as long
pub pigeon : {A B : Type 0} (R : A → B → Type 0) (xs : List A) (ys : List B) → Distinct xs
    → ((x : A) → Memᴰ x xs → (y : B) × Memᴰ y ys × R x y)
    → ((x x' : A) (y : B) → R x y → R x' y → x ≡ x')
    → length xs ≤ length ys
pigeon R [] ys d f inj = omega arith
pigeon {A} {B} R (x ∷ xs) ys d f inj =
    let rec = pigeon R xs (cut_out.0 ++ cut_out.1) d.1 smaller inj in
    omega (arith, simp length-append at rec, simp length-append at (ap length cut_out.2))
  where
    own : (y : B) × Memᴰ y ys × R x y
    own = f x (Memᴰ.head refl)

    cut_out : (p r : List B) × (ys ≡ p ++ own.0 ∷ r)
    cut_out = take_out own.0 ys own.1

    smaller : (x' : A) → Memᴰ x' xs → (y : B) × Memᴰ y (cut_out.0 ++ cut_out.1) × R x' y
    smaller x' i = go (in_middle cut_out.0 cut_out.1 own.0 other.0 (subst (λ (l : List B). Memᴰ other.0 l) cut_out.2 other.1))
      where
        other : (y : B) × Memᴰ y ys × R x' y
        other = f x' (Memᴰ.tail i)

        go : Memᴰ other.0 (cut_out.0 ++ cut_out.1) ⊎ (other.0 ≡ own.0) → (y : B) × Memᴰ y (cut_out.0 ++ cut_out.1) × R x' y
        go (inl j) = (other.0, j, other.2)
        go (inr e) = absurd (d.0 (Memᴰ.cast (inj x x' own.0 own.2 (subst (R x') e other.2)) i))
