-- Laws of lists as arrays have them: reads, the places in use, parts, one list behind another, stores.
use Rattle.std.specs.Prelude.{◌≡◌, refl, List, [], ◌∷◌, ◌++◌, map, ℕ, zero, suc, ◌+◌, ◌≤◌, ◌<◌, min, length, get_or, take, drop, set, replicate}
use Rattle.std.proofs.Common.{sym, ◌∙◌, ap, append_assoc, add-zero, add-suc, suc-add, add-one, arith, length-append, length-take, drop_of_length-le, drop-cons, get_or-take}
use Rattle.std.proofs.lemmas.List.{length-map}
use Rattle.std.proofs.Math.ListN.{get_or-map}
use Rattle.std.proofs.Math.Seq.{take-nil}
use Rattle.std.proofs.lemmas.List.Edits.{sets}

module _ {A : Type 0} where
  -- within a list, what stands for its absent members plays no part
  pub entry_any : (l : List A) (i : ℕ) (d e : A) → i < length l → get_or l i d ≡ get_or l i e
  entry_any [] i d e h = absurd (omega arith)
  entry_any (x ∷ l) zero d e h = refl
  entry_any (x ∷ l) (suc i) d e h = entry_any l i d e (omega arith)

  -- a list of one thing only
  pub get_d_blank : (n i : ℕ) (a : A) → get_or (replicate n a) i a ≡ a
  get_d_blank zero i a = refl
  get_d_blank (suc n) zero a = refl
  get_d_blank (suc n) (suc i) a = get_d_blank n i a

  -- no member
  pub empty : (l : List A) → length l ≤ 0 → l ≡ []
  empty [] h = refl
  empty (x ∷ l) h = absurd (omega arith)

  -- ---- the first n members

  -- the one at i, and those behind it
  pub here : (n : ℕ) (s : List A) (i : ℕ) (d : A) → i < n → i < length s → drop i (take n s) ≡ get_or s i d ∷ drop (i + 1) (take n s)
  here n s i d h k =
      let l : i < length (take n s) = omega (arith, length-take n s) in
      rw (add-one, drop-cons (take n s) i d l, get_or-take n s i d h)

  -- none is left behind the last
  pub no_more : (n : ℕ) (s : List A) (w i : ℕ) → length s ≡ w → min n w ≤ i → drop i (take n s) ≡ []
  no_more n s w i e h = drop_of_length-le (take n s) {i = i} (omega (arith, length-take n s))

  -- the first k of what stands behind n are among the first n + k
  pub part_of : (n k : ℕ) (l : List A) → take k (drop n l) ≡ drop n (take (n + k) l)
  part_of zero k l = ap (λ (m : ℕ). take m l) (let e : k ≡ 0 + k = omega arith in e)
  part_of (suc n) k [] = take-nil k ∙ ap (drop (suc n)) (sym (take-nil (suc n + k)))
  part_of (suc n) k (x ∷ l) =
      part_of n k l ∙ ap (λ (m : ℕ). drop (suc n) (take m (x ∷ l))) (let e : suc (n + k) ≡ suc n + k = omega arith in e)

  -- ---- a list behind another

  -- what stands behind w and c
  pub shift_eq : (pre w rest : List A) (c : A) → pre ++ (w ++ (c ∷ rest)) ≡ (pre ++ (w ++ c ∷ [])) ++ rest
  shift_eq pre w rest c = simp append_assoc

  -- and where it begins
  pub shift_length : (pre w : List A) (c : A) (p : ℕ) → length pre ≡ p → length (pre ++ (w ++ c ∷ [])) ≡ suc (p + length w)
  shift_length pre w c p e = simp (length-append, length-append) (omega arith)

  -- ---- stores

  -- a stored at i, and b behind it
  pub sets_append : (a b l : List A) (i : ℕ) → sets (sets l i a) (i + length a) b ≡ sets l i (a ++ b)
  sets_append [] b l i = rw add-zero
  sets_append (x ∷ a) b l i =
      ap (λ (k : ℕ). sets (sets (set l i x) (suc i) a) k b) (add-suc i (length a) ∙ sym (suc-add i (length a)))
      ∙ sets_append a b (set l i x) (suc i)

-- ---- a list under a map

module _ {A B : Type 0} where
  -- the member at a place
  pub mapped_at : (f : A → B) (l : List A) (i : ℕ) (d : A) (e : B) → i < length l → get_or (map f l) i e ≡ f (get_or l i d)
  mapped_at f l i d e h = entry_any (map f l) i e (f d) (omega (arith, length-map l f)) ∙ get_or-map f l i d

  pub map_take : (g : A → B) (n : ℕ) (l : List A) → map g (take n l) ≡ take n (map g l)
  map_take g zero l = refl
  map_take g (suc n) [] = refl
  map_take g (suc n) (x ∷ l) = ap (λ (r : List B). g x ∷ r) (map_take g n l)

  pub map_drop : (g : A → B) (n : ℕ) (l : List A) → map g (drop n l) ≡ drop n (map g l)
  map_drop g zero l = refl
  map_drop g (suc n) [] = refl
  map_drop g (suc n) (x ∷ l) = map_drop g n l
