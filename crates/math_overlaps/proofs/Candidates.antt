-- The candidate that a run picks by its length: it is one of the list, and no other candidate is for the run.
use mathlib.Core.Path.{◌≡◌, refl, sym, ◌∙◌, ap, subst as along}
use mathlib.Core.Logic.{◌⊎◌, inl, inr, ite, if_pos, if_neg}
use mathlib.Core.Bool.{Bool, true, false, cond}
use mathlib.Core.List.Memᴰ
use mathlib.Core.List.{[], ◌∷◌, ◌++◌, map, Memᴰ}
use Prim.Native.Nat.{ℕ, zero, suc, ◌+◌, ◌-◌, ◌≤◌, ◌<◌, max}
use native.Mathlib.Omega.{arith}
use native.Mathlib.Decide.{dec_lt, ℕ_discrete}
use borrow.Author.Tests.{leb-true, le-leb, eqb-true, eq-eqb}
use lib.ListN.{length, length-append, length-map}
use Rattle.base_limits.specs.Limits.{most_terms}
use Rattle.math_terms.specs.Seqs.{Distinct}
use Rattle.math_overlaps.specs.Shapes.{Shape, closed, gapped}
use Rattle.math_overlaps.specs.Candidates.{Cand, exact, long, range, can_have, wide, cands}
use Rattle.math_overlaps.proofs.Seqs.{distinct_append, distinct_map}

pub in_range : (a k n : ℕ) → a ≤ n → n < a + k → Memᴰ n (range a k)
in_range a zero n p q = absurd (omega arith)
in_range a (suc k) n p q = go (ℕ_discrete n a) (λ h. in_range (suc a) k n h (omega arith))
  where
    go : Dec (n ≡ a) → (suc a ≤ n → Memᴰ n (range (suc a) k)) → Memᴰ n (range a (suc k))
    go (yes e) rec = Memᴰ.head e
    go (no h) rec = Memᴰ.tail (rec (omega arith))

pub range_bounds : (a k n : ℕ) → Memᴰ n (range a k) → (a ≤ n) × (n < a + k)
range_bounds a zero n i = absurd (Memᴰ.not-nil i)
range_bounds a (suc k) n i = go (λ j. range_bounds (suc a) k n j) (Memᴰ.cases_cons i)
  where
    go : (Memᴰ n (range (suc a) k) → (suc a ≤ n) × (n < suc a + k)) → (n ≡ a) ⊎ Memᴰ n (range (suc a) k) → (a ≤ n) × (n < a + suc k)
    go rec (inl e) = omega arith
    go rec (inr j) = let h = rec j in omega arith

pub range_distinct : (a k : ℕ) → Distinct (range a k)
range_distinct a zero = tt
range_distinct a (suc k) = (λ i. let h = range_bounds (suc a) k a i in omega arith, range_distinct (suc a) k)

pub exact≢long : {n : ℕ} → exact n ≡ long → ⊥
exact≢long {n} e = let o : ◌≡◌ {A = ℕ} 0 1 = cc in omega arith

one_distinct : (b : Bool) (c : Cand) → Distinct (cond b (c ∷ []) [])
one_distinct true c = (λ i. Memᴰ.not-nil i, tt)
one_distinct false c = tt

module _ {A L : Type 0} where
  -- a run of n items has room for the shape
  abbrev pub Room : Shape A L → ℕ → Type 0
  Room (closed xs) n = n ≡ length xs
  Room (gapped f l t) n = length f + length t ≤ n

  pub room_can : (S : Shape A L) (n : ℕ) → Room S n → can_have S n ≡ true
  room_can (closed xs) n h = eq-eqb (length xs) n (sym h)
  room_can (gapped f l t) n h = le-leb (length f + length t) n h

  pub can_room : (S : Shape A L) (n : ℕ) → can_have S n ≡ true → Room S n
  can_room (closed xs) n h = sym (eqb-true (length xs) n h)
  can_room (gapped f l t) n h = leb-true (length f + length t) n h

module _ {A L R : Type 0} where
  -- the candidate that a run of n items picks
  abbrev pub pick : Shape A L → Shape A R → ℕ → Cand
  pick (closed xs) S₂ n = exact n
  pick (gapped f l t) (closed xs) n = exact n
  pick (gapped f l t) (gapped f' l' t') n = ite (dec_lt n (wide (gapped f l t) (gapped f' l' t'))) (exact n) long

  -- the runs that a candidate is for, by their number of items
  abbrev pub Runs : Shape A L → Shape A R → Cand → ℕ → Type 0
  Runs S₁ S₂ (exact k) n = n ≡ k
  Runs S₁ S₂ long n = wide S₁ S₂ ≤ n

  pub pick_in_lem : (S₁ : Shape A L) (S₂ : Shape A R) (n : ℕ) → Room S₁ n → Room S₂ n → Memᴰ (pick S₁ S₂ n) (cands S₁ S₂)
  pick_in_lem (closed xs) T n p q =
      along (λ (b : Bool). Memᴰ (exact n) (cond b (exact (length xs) ∷ []) []))
      (sym (room_can T (length xs) (along (Room T) p q))) (Memᴰ.head (ap exact p))
  pick_in_lem (gapped f l t) (closed ys) n p q =
      along (λ (b : Bool). Memᴰ (exact n) (cond b (exact (length ys) ∷ []) []))
      (sym (room_can (gapped f l t) (length ys) (along (Room (gapped f l t)) q p))) (Memᴰ.head (ap exact q))
  pick_in_lem (gapped f l t) (gapped f' l' t') n p q = go (dec_lt n (wide (gapped f l t) (gapped f' l' t')))
    where
      M : ℕ
      M = max (length f + length t) (length f' + length t')

      W : ℕ
      W = max (length f) (length f') + max (length t) (length t')

      go : (d : Dec (n < W)) → Memᴰ (ite d (exact n) long) (map exact (range M (W - M)) ++ long ∷ [])
      go (yes e) = Memᴰ.append_left (long ∷ []) (Memᴰ.map exact (in_range M (W - M) n (omega arith) (omega arith)))
      go (no h) = Memᴰ.append_right (map exact (range M (W - M))) (Memᴰ.head refl)

  -- a candidate is for runs that pick it and have room for both shapes
  pub pick_of : (S₁ : Shape A L) (S₂ : Shape A R) (c : Cand) → Memᴰ c (cands S₁ S₂) → (n : ℕ) → Runs S₁ S₂ c n
      → (pick S₁ S₂ n ≡ c) × Room S₁ n × Room S₂ n
  pick_of (closed xs) T c i n r = go (can_have T (length xs)) refl i
    where
      at : c ≡ exact (length xs) → Room T (length xs) → (exact n ≡ c) × (n ≡ length xs) × Room T n
      at e h = let r' : n ≡ length xs = along (λ (z : Cand). Runs (closed xs) T z n) e r in (ap exact r' ∙ sym e, r', along (Room T) (sym r') h)

      go : (b : Bool) → can_have T (length xs) ≡ b → Memᴰ c (cond b (exact (length xs) ∷ []) []) → (exact n ≡ c) × (n ≡ length xs) × Room T n
      go true e j = at (Memᴰ.eq_of_singleton j) (can_room T (length xs) e)
      go false e j = absurd (Memᴰ.not-nil j)
  pick_of (gapped f l t) (closed ys) c i n r = go (can_have (gapped f l t) (length ys)) refl i
    where
      at : c ≡ exact (length ys) → length f + length t ≤ length ys → (exact n ≡ c) × (length f + length t ≤ n) × (n ≡ length ys)
      at e h = let r' : n ≡ length ys = along (λ (z : Cand). Runs (gapped f l t) (closed ys) z n) e r in (ap exact r' ∙ sym e, omega arith, r')

      go : (b : Bool) → can_have (gapped f l t) (length ys) ≡ b → Memᴰ c (cond b (exact (length ys) ∷ []) [])
          → (exact n ≡ c) × (length f + length t ≤ n) × (n ≡ length ys)
      go true e j = at (Memᴰ.eq_of_singleton j) (leb-true (length f + length t) (length ys) e)
      go false e j = absurd (Memᴰ.not-nil j)
  pick_of (gapped f l t) (gapped f' l' t') c i n r = go (Memᴰ.append_cases (map exact (range M (W - M))) i)
    where
      M : ℕ
      M = max (length f + length t) (length f' + length t')

      W : ℕ
      W = max (length f) (length f') + max (length t) (length t')

      Goal : Type 0
      Goal = (ite (dec_lt n W) (exact n) long ≡ c) × (length f + length t ≤ n) × (length f' + length t' ≤ n)

      short : (k : ℕ) → M ≤ k → k < M + (W - M) → exact k ≡ c → Goal
      short k a b e =
          let r' : n ≡ k = along (λ (z : Cand). Runs (gapped f l t) (gapped f' l' t') z n) (sym e) r in
          (if_pos (dec_lt n W) (omega arith) (exact n) long ∙ ap exact r' ∙ e, omega arith, omega arith)

      broad : c ≡ long → Goal
      broad e =
          let r' : W ≤ n = along (λ (z : Cand). Runs (gapped f l t) (gapped f' l' t') z n) e r in
          (if_neg (dec_lt n W) (omega arith) (exact n) long ∙ sym e, omega arith, omega arith)

      from_range : (k : ℕ) × Memᴰ k (range M (W - M)) × (exact k ≡ c) → Goal
      from_range u = let b = range_bounds M (W - M) u.0 u.1 in short u.0 b.0 b.1 u.2

      go : Memᴰ c (map exact (range M (W - M))) ⊎ Memᴰ c (long ∷ []) → Goal
      go (inl j) = from_range (Memᴰ.of_map exact (range M (W - M)) j)
      go (inr j) = broad (Memᴰ.eq_of_singleton j)

  pub cands_distinct : (S₁ : Shape A L) (S₂ : Shape A R) → Distinct (cands S₁ S₂)
  cands_distinct (closed xs) T = one_distinct (can_have T (length xs)) (exact (length xs))
  cands_distinct (gapped f l t) (closed ys) = one_distinct (can_have (gapped f l t) (length ys)) (exact (length ys))
  cands_distinct (gapped f l t) (gapped f' l' t') =
      distinct_append (map exact (range M (W - M))) (long ∷ []) (distinct_map exact (range M (W - M)) (λ x y e. cc) (range_distinct M (W - M)))
      (λ i. Memᴰ.not-nil i, tt) (λ z i j. apart z (Memᴰ.of_map exact (range M (W - M)) i) (Memᴰ.eq_of_singleton j))
    where
      M : ℕ
      M = max (length f + length t) (length f' + length t')

      W : ℕ
      W = max (length f) (length f') + max (length t) (length t')

      apart : (z : Cand) → (k : ℕ) × Memᴰ k (range M (W - M)) × (exact k ≡ z) → z ≡ long → ⊥
      apart z u e = let q : exact u.0 ≡ long = u.2 ∙ e in let o : ◌≡◌ {A = ℕ} 0 1 = cc in omega arith

  pub pick_runs : (S₁ : Shape A L) (S₂ : Shape A R) (n : ℕ) → Runs S₁ S₂ (pick S₁ S₂ n) n
  pick_runs (closed xs) S₂ n = refl
  pick_runs (gapped f l t) (closed ys) n = refl
  pick_runs (gapped f l t) (gapped f' l' t') n = go (dec_lt n W)
    where
      W : ℕ
      W = max (length f) (length f') + max (length t) (length t')

      go : (d : Dec (n < W)) → Runs (gapped f l t) (gapped f' l' t') (ite d (exact n) long) n
      go (yes h) = refl
      go (no h) = omega arith

pub range_length : (a k : ℕ) → length (range a k) ≡ k
range_length a zero = refl
range_length a (suc k) = ap suc (range_length (suc a) k)

-- a field of at most 16 terms: at most 16 candidates, and at most 31 terms in an entry's field
module _ {A L : Type 0} where
  abbrev pub terms : Shape A L → ℕ
  terms (closed xs) = length xs
  terms (gapped f l t) = suc (length f + length t)

one_few : (b : Bool) (c : Cand) → length (cond b (c ∷ []) []) ≤ most_terms
one_few true c = omega arith
one_few false c = omega arith

module _ {A L R : Type 0} where
  pub cands_few : (S₁ : Shape A L) (S₂ : Shape A R) → terms S₁ ≤ most_terms → terms S₂ ≤ most_terms → length (cands S₁ S₂) ≤ most_terms
  cands_few (closed xs) T p q = one_few (can_have T (length xs)) (exact (length xs))
  cands_few (gapped f l t) (closed ys) p q = one_few (can_have (gapped f l t) (length ys)) (exact (length ys))
  cands_few (gapped f l t) (gapped f' l' t') p q = simp (length-append, length-map, range_length) (omega arith)
