-- A list kept in a row of `cap` places as a ring: from the place `head` on, round the end.
--     next_place, place     the next place; the place of number i behind the head
--     Ring                 the row has the members of the list at those places
--     ring-put, ring-take  a member is put in behind the last; the first is taken out
use mathlib.Core.Path.{◌≡◌, refl, sym, ◌∙◌, ap}
use mathlib.Core.Logic.{◌⊎◌, inl, inr}
use mathlib.Core.Bool.{Bool, true, false, cond}
use mathlib.Core.List.{List, [], ◌∷◌, ◌++◌}
use Prim.Native.Nat.{ℕ, suc, ◌+◌, ◌-◌, ◌≤◌, ◌<◌}
use native.Mathlib.Omega.{arith}
use lib.Dec.{ltb}
use lib.ListN.{length, length-append, length-set, get_or, set, get_or-append}
use lib.Seq.{get_or-set_same, get_or-set_other, get_or-append_seam}
use borrow.Author.Tests.{ltb-true, ltb-false}

abbrev pub next_place : ℕ → ℕ → ℕ
next_place i cap = cond (ltb i (cap - 1)) (i + 1) 0

abbrev pub place : ℕ → ℕ → ℕ → ℕ
place head i cap = cond (ltb (head + i) cap) (head + i) (head + i - cap)

-- where a place is
place_is : (head i cap : ℕ) → ((head + i < cap) × (place head i cap ≡ head + i)) ⊎ ((cap ≤ head + i) × (place head i cap ≡ head + i - cap))
place_is head i cap = go (ltb (head + i) cap) refl
  where
    go : (b : Bool) → ltb (head + i) cap ≡ b
        → ((head + i < cap) × (cond b (head + i) (head + i - cap) ≡ head + i)) ⊎ ((cap ≤ head + i) × (cond b (head + i) (head + i - cap) ≡ head + i - cap))
    go true e = inl (ltb-true (head + i) cap e, refl)
    go false e = inr (ltb-false (head + i) cap e, refl)

next_is : (i cap : ℕ) → ((i + 1 < cap) × (next_place i cap ≡ i + 1)) ⊎ ((cap ≤ i + 1) × (next_place i cap ≡ 0))
next_is i cap = go (ltb i (cap - 1)) refl
  where
    go : (b : Bool) → ltb i (cap - 1) ≡ b → ((i + 1 < cap) × (cond b (i + 1) 0 ≡ i + 1)) ⊎ ((cap ≤ i + 1) × (cond b (i + 1) 0 ≡ 0))
    go true e = inl (omega (arith, ltb-true i (cap - 1) e), refl)
    go false e = inr (omega (arith, ltb-false i (cap - 1) e), refl)

pub place_low : (head i cap : ℕ) → head < cap → i ≤ cap → place head i cap < cap
place_low head i cap h k = go (place_is head i cap)
  where
    go : ((head + i < cap) × (place head i cap ≡ head + i)) ⊎ ((cap ≤ head + i) × (place head i cap ≡ head + i - cap)) → place head i cap < cap
    go (inl a) = omega (arith, a.0, a.1)
    go (inr a) = omega (arith, a.0, a.1)

pub next_low : (i cap : ℕ) → 1 ≤ cap → next_place i cap < cap
next_low i cap h = go (next_is i cap)
  where
    go : ((i + 1 < cap) × (next_place i cap ≡ i + 1)) ⊎ ((cap ≤ i + 1) × (next_place i cap ≡ 0)) → next_place i cap < cap
    go (inl a) = omega (arith, a.0, a.1)
    go (inr a) = omega (arith, a.0, a.1)

-- the first place is the head
pub place_first : (head cap : ℕ) → head < cap → place head 0 cap ≡ head
place_first head cap h = go (place_is head 0 cap)
  where
    go : ((head + 0 < cap) × (place head 0 cap ≡ head + 0)) ⊎ ((cap ≤ head + 0) × (place head 0 cap ≡ head + 0 - cap)) → place head 0 cap ≡ head
    go (inl a) = omega (arith, a.1)
    go (inr a) = absurd (omega (arith, a.0))

-- the place behind a place
pub place_next : (head i cap : ℕ) → head < cap → i < cap → next_place (place head i cap) cap ≡ place head (i + 1) cap
place_next head i cap h k = go (next_is (place head i cap) cap) (place_is head i cap) (place_is head (i + 1) cap)
  where
    go : ((place head i cap + 1 < cap) × (next_place (place head i cap) cap ≡ place head i cap + 1))
        ⊎ ((cap ≤ place head i cap + 1) × (next_place (place head i cap) cap ≡ 0))
        → ((head + i < cap) × (place head i cap ≡ head + i)) ⊎ ((cap ≤ head + i) × (place head i cap ≡ head + i - cap))
        → ((head + (i + 1) < cap) × (place head (i + 1) cap ≡ head + (i + 1))) ⊎ ((cap ≤ head + (i + 1)) × (place head (i + 1) cap ≡ head + (i + 1) - cap))
        → next_place (place head i cap) cap ≡ place head (i + 1) cap
    go (inl a) (inl b) (inl c) = omega (arith, a.0, a.1, b.0, b.1, c.0, c.1)
    go (inl a) (inl b) (inr c) = omega (arith, a.0, a.1, b.0, b.1, c.0, c.1)
    go (inl a) (inr b) (inl c) = omega (arith, a.0, a.1, b.0, b.1, c.0, c.1)
    go (inl a) (inr b) (inr c) = omega (arith, a.0, a.1, b.0, b.1, c.0, c.1)
    go (inr a) (inl b) (inl c) = omega (arith, a.0, a.1, b.0, b.1, c.0, c.1)
    go (inr a) (inl b) (inr c) = omega (arith, a.0, a.1, b.0, b.1, c.0, c.1)
    go (inr a) (inr b) (inl c) = omega (arith, a.0, a.1, b.0, b.1, c.0, c.1)
    go (inr a) (inr b) (inr c) = omega (arith, a.0, a.1, b.0, b.1, c.0, c.1)

-- a place behind the head is a place behind the next one
pub place_after : (head i cap : ℕ) → head < cap → i < cap → place (next_place head cap) i cap ≡ place head (i + 1) cap
place_after head i cap h k = go (next_is head cap) (place_is (next_place head cap) i cap) (place_is head (i + 1) cap)
  where
    go : ((head + 1 < cap) × (next_place head cap ≡ head + 1)) ⊎ ((cap ≤ head + 1) × (next_place head cap ≡ 0))
        → ((next_place head cap + i < cap) × (place (next_place head cap) i cap ≡ next_place head cap + i))
        ⊎ ((cap ≤ next_place head cap + i) × (place (next_place head cap) i cap ≡ next_place head cap + i - cap))
        → ((head + (i + 1) < cap) × (place head (i + 1) cap ≡ head + (i + 1))) ⊎ ((cap ≤ head + (i + 1)) × (place head (i + 1) cap ≡ head + (i + 1) - cap))
        → place (next_place head cap) i cap ≡ place head (i + 1) cap
    go (inl a) (inl b) (inl c) = omega (arith, a.0, a.1, b.0, b.1, c.0, c.1)
    go (inl a) (inl b) (inr c) = omega (arith, a.0, a.1, b.0, b.1, c.0, c.1)
    go (inl a) (inr b) (inl c) = omega (arith, a.0, a.1, b.0, b.1, c.0, c.1)
    go (inl a) (inr b) (inr c) = omega (arith, a.0, a.1, b.0, b.1, c.0, c.1)
    go (inr a) (inl b) (inl c) = omega (arith, a.0, a.1, b.0, b.1, c.0, c.1)
    go (inr a) (inl b) (inr c) = omega (arith, a.0, a.1, b.0, b.1, c.0, c.1)
    go (inr a) (inr b) (inl c) = omega (arith, a.0, a.1, b.0, b.1, c.0, c.1)
    go (inr a) (inr b) (inr c) = omega (arith, a.0, a.1, b.0, b.1, c.0, c.1)

-- two places are one only at one number
place_once : (head i j cap : ℕ) → head < cap → i < j → j < cap → place head i cap ≡ place head j cap → ⊥
place_once head i j cap h k l e = go (place_is head i cap) (place_is head j cap)
  where
    go : ((head + i < cap) × (place head i cap ≡ head + i)) ⊎ ((cap ≤ head + i) × (place head i cap ≡ head + i - cap))
        → ((head + j < cap) × (place head j cap ≡ head + j)) ⊎ ((cap ≤ head + j) × (place head j cap ≡ head + j - cap)) → ⊥
    go (inl a) (inl b) = omega (arith, a.0, a.1, b.0, b.1)
    go (inl a) (inr b) = omega (arith, a.0, a.1, b.0, b.1)
    go (inr a) (inl b) = omega (arith, a.0, a.1, b.0, b.1)
    go (inr a) (inr b) = omega (arith, a.0, a.1, b.0, b.1)

module _ {A : Type 0} (d : A) where
  pub record Ring (row : List A) (cap head : ℕ) (q : List A) : Type 0 where
    pub size : length row ≡ cap
    pub inside : head < cap
    pub fits : length q ≤ cap
    pub holds : (i : ℕ) → i < length q → get_or row (place head i cap) d ≡ get_or q i d

  pub ring_put : (row : List A) (cap head : ℕ) (q : List A) (p : A) → Ring row cap head q
      → length q < cap → Ring (set row (place head (length q) cap) p) cap head (q ++ p ∷ [])
  ring_put row cap head q p r l = record {
    size = length-set row (place head (length q) cap) p ∙ r.size;
    inside = r.inside;
    fits = omega (arith, length-append q (p ∷ []));
    holds = λ i h. at i (before i (omega (arith, length-append q (p ∷ []))));
  }
    where
      before : (i : ℕ) → i < length q + 1 → (i < length q) ⊎ (i ≡ length q)
      before i h = go (ltb i (length q)) refl
        where
          go : (b : Bool) → ltb i (length q) ≡ b → (i < length q) ⊎ (i ≡ length q)
          go true e = inl (ltb-true i (length q) e)
          go false e = inr (omega (arith, ltb-false i (length q) e))

      at : (i : ℕ) → (i < length q) ⊎ (i ≡ length q) → get_or (set row (place head (length q) cap) p) (place head i cap) d ≡ get_or (q ++ p ∷ []) i d
      at i (inl h) =
          get_or-set_other row (place head (length q) cap) (place head i cap) p d (λ e. place_once head i (length q) cap r.inside h l e)
          ∙ r.holds i h
          ∙ sym (get_or-append q (p ∷ []) d i h)
      at i (inr e) =
          ap (λ (j : ℕ). get_or (set row (place head (length q) cap) p) (place head j cap) d) e
          ∙ get_or-set_same row (place head (length q) cap) p d (omega (arith, r.size, place_low head (length q) cap r.inside r.fits))
          ∙ sym (get_or-append_seam q p [] d) ∙ ap (λ (j : ℕ). get_or (q ++ p ∷ []) j d) (sym e)

  pub ring_head : (row : List A) (cap head : ℕ) (p : A) (q : List A) → Ring row cap head (p ∷ q) → get_or row head d ≡ p
  ring_head row cap head p q r = ap (λ (j : ℕ). get_or row j d) (sym (place_first head cap r.inside)) ∙ r.holds 0 (omega arith)

  -- the head's place gets anything
  pub ring_take : (row : List A) (cap head : ℕ) (p : A) (q : List A) (x : A) → Ring row cap head (p ∷ q) → Ring (set row head x) cap (next_place head cap) q
  ring_take row cap head p q x r = record {
    size = length-set row head x ∙ r.size;
    inside = next_low head cap (omega (arith, r.inside));
    fits = omega (arith, r.fits);
    holds = λ i h. at i h;
  }
    where
      at : (i : ℕ) → i < length q → get_or (set row head x) (place (next_place head cap) i cap) d ≡ get_or q i d
      at i h =
          ap (λ (j : ℕ). get_or (set row head x) j d) (place_after head i cap r.inside (omega (arith, r.fits)))
          ∙ get_or-set_other row head (place head (i + 1) cap) x d
          (λ e. place_once head 0 (i + 1) cap r.inside (omega arith) (omega (arith, r.fits)) (place_first head cap r.inside ∙ sym e))
          ∙ r.holds (i + 1) (omega arith)
          ∙ ap (λ (j : ℕ). get_or (p ∷ q) j d) one_more
        where
          one_more : i + 1 ≡ suc i
          one_more = omega arith

  -- one member alone, at the head
  pub ring_one : (row : List A) (cap head : ℕ) (p : A) → length row ≡ cap → head < cap → get_or row head d ≡ p → Ring row cap head (p ∷ [])
  ring_one row cap head p s h e = record { size = s; inside = h; fits = omega arith; holds = λ i k. at i (omega arith) }
    where
      at : (i : ℕ) → i ≡ 0 → get_or row (place head i cap) d ≡ get_or (p ∷ []) i d
      at i z =
          ap (λ (j : ℕ). get_or row (place head j cap) d) z
          ∙ ap (λ (j : ℕ). get_or row j d) (place_first head cap h)
          ∙ e
          ∙ ap (λ (j : ℕ). get_or (p ∷ []) j d) (sym z)
