-- Laws of rising lists, and of the members that pass a test.
use mathlib.Core.Path.{◌≡◌, refl, sym, ◌∙◌, ap}
use mathlib.Core.Logic.{◌↔◌, ◌⊎◌, inl, inr}
use mathlib.Core.Bool.{Bool, true, false, cond, true≢false}
use mathlib.Core.List.Memᴰ
use mathlib.Core.List.{List, [], ◌∷◌, ◌++◌, map, Memᴰ}
use Prim.Native.Nat.{suc, ◌≤◌}
use native.Mathlib.Omega.{arith}
use lib.ListN.{length}
use Rattle.base_lists.specs.Seqs.{All, all_append, all_mem, all_map, all_mapped}
use Rattle.math_terms.specs.Seqs.{concat_map, Distinct}
use Rattle.overlap_spec.specs.Variables.{keep, Rising}

module _ {A : Type 0} where
  pub rising_append : (R : A → A → Type 0) (s t : List A) → Rising R s → Rising R t → All (λ x. All (R x) t) s → Rising R (s ++ t)
  rising_append R [] t p q h = q
  rising_append R (x ∷ s) t p q h = (all_append (R x) s t p.0 h.0, rising_append R s t p.1 q h.1)

  -- where no member stands in R to itself, none comes twice
  pub rising_distinct : (R : A → A → Type 0) → ((x : A) → R x x → ⊥) → (xs : List A) → Rising R xs → Distinct xs
  rising_distinct R n [] h = tt
  rising_distinct R n (x ∷ xs) h = (λ m. n x (all_mem (R x) xs h.0 x m), rising_distinct R n xs h.1)

  keep_all : (P : A → Type 0) (p : A → Bool) (xs : List A) → All P xs → All P (keep p xs)
  keep_all P p [] h = tt
  keep_all P p (x ∷ xs) h = go (p x) (keep_all P p xs h.1)
    where
      go : (b : Bool) → All P (keep p xs) → All P (cond b (x ∷ keep p xs) (keep p xs))
      go true rec = (h.0, rec)
      go false rec = rec

  pub keep_rising : (R : A → A → Type 0) (p : A → Bool) (xs : List A) → Rising R xs → Rising R (keep p xs)
  keep_rising R p [] h = tt
  keep_rising R p (x ∷ xs) h = go (p x) (keep_rising R p xs h.1)
    where
      go : (b : Bool) → Rising R (keep p xs) → Rising R (cond b (x ∷ keep p xs) (keep p xs))
      go true rec = (keep_all (R x) p xs h.0, rec)
      go false rec = rec

  -- exactly the members that pass
  pub keep_mem : (p : A → Bool) (x : A) (xs : List A) → Memᴰ x (keep p xs) ↔ (Memᴰ x xs × (p x ≡ true))
  keep_mem p x [] = (λ m. absurd (Memᴰ.not-nil m), λ h. h.0)
  keep_mem p x (y ∷ xs) = go (p y) refl (keep_mem p x xs)
    where
      go : (b : Bool) → p y ≡ b → (Memᴰ x (keep p xs) ↔ (Memᴰ x xs × (p x ≡ true)))
          → Memᴰ x (cond b (y ∷ keep p xs) (keep p xs)) ↔ (Memᴰ x (y ∷ xs) × (p x ≡ true))
      go true e rec = (λ m. to (Memᴰ.cases_cons m), λ h. from h.1 (Memᴰ.cases_cons h.0))
        where
          to : (x ≡ y) ⊎ Memᴰ x (keep p xs) → Memᴰ x (y ∷ xs) × (p x ≡ true)
          to (inl q) = (Memᴰ.head q, ap p q ∙ e)
          to (inr m) = let r = rec.0 m in (Memᴰ.tail r.0, r.1)

          from : p x ≡ true → (x ≡ y) ⊎ Memᴰ x xs → Memᴰ x (y ∷ keep p xs)
          from t (inl q) = Memᴰ.head q
          from t (inr m) = Memᴰ.tail (rec.1 (m, t))
      go false e rec = (λ m. let r = rec.0 m in (Memᴰ.tail r.0, r.1), λ h. from h.1 (Memᴰ.cases_cons h.0))
        where
          from : p x ≡ true → (x ≡ y) ⊎ Memᴰ x xs → Memᴰ x (keep p xs)
          from t (inl q) = absurd (true≢false (sym t ∙ ap p q ∙ e))
          from t (inr m) = rec.1 (m, t)

module _ {A B : Type 0} where
  pub rising_under : (R : A → A → Type 0) (S : B → B → Type 0) (f : A → B)
      → ((x y : A) → R x y → S (f x) (f y)) → (xs : List A) → Rising R xs → Rising S (map f xs)
  rising_under R S f g [] h = tt
  rising_under R S f g (x ∷ xs) h = (all_mapped (S (f x)) f xs (all_map (R x) (λ y. S (f x) (f y)) (g x) xs h.0), rising_under R S f g xs h.1)

  all_back : (Q : B → Type 0) (f : A → B) (xs : List A) → All Q (map f xs) → All (λ x. Q (f x)) xs
  all_back Q f [] h = tt
  all_back Q f (x ∷ xs) h = (h.0, all_back Q f xs h.1)

  pub rising_back : (S : B → B → Type 0) (f : A → B) (xs : List A) → Rising S (map f xs) → Rising (λ x y. S (f x) (f y)) xs
  rising_back S f [] h = tt
  rising_back S f (x ∷ xs) h = (all_back (S (f x)) f xs h.0, rising_back S f xs h.1)

-- ---- what is kept of lists put one behind the other, and how much

module _ {Y : Type 0} (p : Y → Bool) where
  pub keep_append : (s t : List Y) → keep p (s ++ t) ≡ keep p s ++ keep p t
  keep_append [] t = refl
  keep_append (y ∷ s) t = go (p y) (keep_append s t)
    where
      go : (b : Bool) → keep p (s ++ t) ≡ keep p s ++ keep p t
          → cond b (y ∷ keep p (s ++ t)) (keep p (s ++ t)) ≡ cond b (y ∷ keep p s) (keep p s) ++ keep p t
      go true rec = ap (λ (l : List Y). y ∷ l) rec
      go false rec = rec

  pub keep_short : (l : List Y) → length (keep p l) ≤ length l
  keep_short [] = omega arith
  keep_short (y ∷ l) = go (p y) (keep_short l)
    where
      go : (b : Bool) → length (keep p l) ≤ length l → length (cond b (y ∷ keep p l) (keep p l)) ≤ suc (length l)
      go true rec = omega arith
      go false rec = omega arith

pub keep_concat : {X Y : Type 0} (p : Y → Bool) (f : X → List Y) (l : List X) → keep p (concat_map f l) ≡ concat_map (λ x. keep p (f x)) l
keep_concat p f [] = refl
keep_concat p f (x ∷ l) = keep_append p (f x) (concat_map f l) ∙ ap (λ (u : List _). keep p (f x) ++ u) (keep_concat p f l)
