-- Picking the first position that passes a test, whatever the test. In the own order the pick is the lowest; where at most one passes, every
-- order picks the same; where two pass, one order picks the one and another the other.
--     pick-head, pick-lowest, none_passes   what is picked
--     pick-behind                           the same one position on
--     own-order, order_is                   what is an order
--     orders-free, orders-matter            whether the order matters, for a test of positions and of anything else
use mathlib.Core.Path.{◌≡◌, refl, sym, ◌∙◌, ap, subst}
use mathlib.Core.Logic.{◌↔◌, ◌⊎◌, inl, inr}
use mathlib.Core.Bool.{Bool, true, false, cond, not, false≢true, true≢false}
use mathlib.Core.Option.{Option, none, some, map, none-ne-some, some-injective}
use mathlib.Core.List.Memᴰ
use mathlib.Core.List.{List, [], ◌∷◌, Memᴰ}
use Prim.Native.Nat.{ℕ, zero, suc, ◌+◌, ◌≤◌, ◌<◌}
use native.Mathlib.Omega.{arith}
use native.Mathlib.Decide.{ℕ_discrete}
use lib.Dec.{eqb}
use lib.ListN.{length}
use borrow.Author.Tests.{eqb-true, eq-eqb}
use Rattle.base_lists.specs.Seqs.{All, all_mem, mem?}
use Rattle.base_lists.specs.Truths.{not_is}
use Rattle.math_terms.specs.Seqs.{Distinct}
use Rattle.math_overlaps.proofs.Seqs.{pigeon}
use Rattle.overlap_spec.specs.Variables.{numbers_from, keep}
use Rattle.overlap_spec.proofs.Rising.{rising_distinct, keep_rising, keep_mem}
use Rattle.overlap_spec.proofs.Variables.{numbers_rising, numbers_mem}
use Rattle.book_spec.specs.Picks.{pick_in, IsOrder}

-- ---- what is picked

module _ (g : ℕ → Bool) where
  -- what is picked is there, and passes
  picked : (p : List ℕ) (i : ℕ) → pick_in g p ≡ some i → Memᴰ i p × (g i ≡ true)
  picked [] i e = absurd (none-ne-some i e)
  picked (j ∷ p) i e = go (g j) refl e (λ q. picked p i q)
    where
      go : (b : Bool) → g j ≡ b → cond b (some j) (pick_in g p) ≡ some i → (pick_in g p ≡ some i → Memᴰ i p × (g i ≡ true))
          → Memᴰ i (j ∷ p) × (g i ≡ true)
      go true h q rec = let s = some-injective j i q in (Memᴰ.head (sym s), ap g (sym s) ∙ h)
      go false h q rec = let r = rec q in (Memᴰ.tail r.0, r.1)

  -- nothing is picked where none passes
  pub none_passes : (p : List ℕ) → (pick_in g p ≡ none) ↔ ((i : ℕ) → Memᴰ i p → g i ≡ false)
  none_passes [] = (λ e i m. absurd (Memᴰ.not-nil m), λ h. refl)
  none_passes (j ∷ p) = go (g j) refl (none_passes p)
    where
      go : (b : Bool) → g j ≡ b → ((pick_in g p ≡ none) ↔ ((i : ℕ) → Memᴰ i p → g i ≡ false))
          → (cond b (some j) (pick_in g p) ≡ none) ↔ ((i : ℕ) → Memᴰ i (j ∷ p) → g i ≡ false)
      go true t rec = (λ e. absurd (none-ne-some j (sym e)), λ h. absurd (true≢false (sym t ∙ h j (Memᴰ.head refl))))
      go false t rec = (λ e i m. to e i (Memᴰ.cases_cons m), λ h. rec.1 (λ i m. h i (Memᴰ.tail m)))
        where
          to : pick_in g p ≡ none → (i : ℕ) → (i ≡ j) ⊎ Memᴰ i p → g i ≡ false
          to e i (inl s) = ap g s ∙ t
          to e i (inr m) = rec.0 e i m

  -- the first of an order is picked where it passes
  pub pick_head : (i : ℕ) (p : List ℕ) → g i ≡ true → pick_in g (i ∷ p) ≡ some i
  pick_head i p t = ap (λ (b : Bool). cond b (some i) (pick_in g p)) t

  -- where at most one passes, two orders of the same positions pick the same
  picks_same : (p q : List ℕ) → ((i : ℕ) → Memᴰ i p ↔ Memᴰ i q)
      → ((i j : ℕ) → Memᴰ i p → Memᴰ j p → g i ≡ true → g j ≡ true → i ≡ j) → pick_in g p ≡ pick_in g q
  picks_same p q m one = go (pick_in g p) refl (pick_in g q) refl
    where
      go : (o : Option ℕ) → pick_in g p ≡ o → (o' : Option ℕ) → pick_in g q ≡ o' → o ≡ o'
      go none e none e' = refl
      go none e (some j) e' = let s = picked q j e' in absurd (true≢false (sym s.1 ∙ (none_passes p).0 e j ((m j).1 s.0)))
      go (some i) e none e' = let s = picked p i e in absurd (true≢false (sym s.1 ∙ (none_passes q).0 e' i ((m i).0 s.0)))
      go (some i) e (some j) e' = let s = picked p i e in let t = picked q j e' in ap some (one i j s.0 ((m j).1 t.0) s.1 t.1)

  -- in rising order, the pick is the lowest that passes
  pub pick_lowest : (n a i : ℕ)
      → (pick_in g (numbers_from n a) ≡ some i) ↔ ((a ≤ i) × (i < a + n) × (g i ≡ true) × ((j : ℕ) → a ≤ j → j < i → g j ≡ false))
  pick_lowest zero a i = (λ e. absurd (none-ne-some i e), λ h. let l = h.0 in let u = h.1 in absurd (omega arith))
  pick_lowest (suc n) a i = go (g a) refl (pick_lowest n (suc a) i)
    where
      Lowest : ℕ → ℕ → Type 0
      Lowest m b = (b ≤ i) × (i < b + m) × (g i ≡ true) × ((j : ℕ) → b ≤ j → j < i → g j ≡ false)

      go : (b : Bool) → g a ≡ b → ((pick_in g (numbers_from n (suc a)) ≡ some i) ↔ Lowest n (suc a))
          → (cond b (some a) (pick_in g (numbers_from n (suc a))) ≡ some i) ↔ Lowest (suc n) a
      go true t rec = (λ e. to (some-injective a i e), λ h. from h (ℕ_discrete a i))
        where
          to : a ≡ i → Lowest (suc n) a
          to e = (omega arith, omega arith, ap g (sym e) ∙ t, λ j l u. absurd (omega arith))

          from : Lowest (suc n) a → Dec (a ≡ i) → ◌≡◌ {A = Option ℕ} (some a) (some i)
          from h (yes e) = ap some e
          from h (no d) = let l = h.0 in absurd (false≢true (sym (h.3 a (omega arith) (omega (arith, d))) ∙ t))
      go false t rec = (λ e. to (rec.0 e), λ h. rec.1 (from h))
        where
          lower : Lowest n (suc a) → (j : ℕ) → a ≤ j → j < i → Dec (a ≡ j) → g j ≡ false
          lower h j l u (yes e) = ap g (sym e) ∙ t
          lower h j l u (no d) = h.3 j (omega (arith, d)) u

          to : Lowest n (suc a) → Lowest (suc n) a
          to h = let l = h.0 in let u = h.1 in (omega arith, omega arith, h.2, λ j b c. lower h j b c (ℕ_discrete a j))

          other : Lowest (suc n) a → a ≡ i → ⊥
          other h e = true≢false (sym h.2 ∙ ap g (sym e) ∙ t)

          from : Lowest (suc n) a → Lowest n (suc a)
          from h = let l = h.0 in let u = h.1 in (omega (arith, other h), omega arith, h.2, λ j b c. h.3 j (omega arith) c)

-- positions one further on
pub pick_behind : (g : ℕ → Bool) (n a : ℕ) → pick_in g (numbers_from n (suc a)) ≡ map suc (pick_in (λ i. g (suc i)) (numbers_from n a))
pick_behind g zero a = refl
pick_behind g (suc n) a = go (g (suc a)) (pick_behind g n (suc a))
  where
    go : (b : Bool) → pick_in g (numbers_from n (suc (suc a))) ≡ map suc (pick_in (λ i. g (suc i)) (numbers_from n (suc a)))
        → cond b (some (suc a)) (pick_in g (numbers_from n (suc (suc a))))
        ≡ map suc (cond b (some a) (pick_in (λ i. g (suc i)) (numbers_from n (suc a))))
    go true rec = refl
    go false rec = rec

-- ---- what is an order

-- the positions as they stand
pub own_order : (n : ℕ) → IsOrder n (numbers_from n 0)
own_order n = (
  rising_distinct ◌<◌ (λ x l. omega arith) (numbers_from n 0) (numbers_rising n 0),
  λ i. let m = numbers_mem n 0 i in (λ k. let h = m.0 k in omega (arith, h.1), λ l. m.1 (omega arith, omega arith)),
)

pub numbers_long : (n a : ℕ) → length (numbers_from n a) ≡ n
numbers_long zero a = refl
numbers_long (suc n) a = ap suc (numbers_long n (suc a))

-- no more different positions than there are
few_positions : (n : ℕ) (p : List ℕ) → Distinct p → All (λ i. i < n) p → length p ≤ n
few_positions n p d h = subst (λ (m : ℕ). length p ≤ m) (numbers_long n 0) (pigeon (λ (i j : ℕ). i ≡ j) p (numbers_from n 0) d there (λ i j k a b. a ∙ sym b))
  where
    there : (i : ℕ) → Memᴰ i p → (j : ℕ) × Memᴰ j (numbers_from n 0) × (i ≡ j)
    there i m = let l = all_mem (λ i. i < n) p h i m in (i, (numbers_mem n 0 i).1 (omega arith, omega arith), refl)

-- an order is as well: n different positions below n
pub order_is : (n : ℕ) (p : List ℕ) → IsOrder n p ↔ (Distinct p × All (λ i. i < n) p × (length p ≡ n))
order_is n p = (
  λ o. (o.0, below o p (λ i m. m), count o),
  λ h. (h.0, λ i. (λ m. all_mem (λ i. i < n) p h.1 i m, λ l. has h i l (mem? ℕ_discrete i p))),
)
  where
    below : IsOrder n p → (q : List ℕ) → ((i : ℕ) → Memᴰ i q → Memᴰ i p) → All (λ i. i < n) q
    below o [] k = tt
    below o (i ∷ q) k = ((o.1 i).0 (k i (Memᴰ.head refl)), below o q (λ j m. k j (Memᴰ.tail m)))

    count : IsOrder n p → length p ≡ n
    count o =
        let few = few_positions n p o.0 (below o p (λ i m. m)) in
        let own = own_order n in
        let all = pigeon (λ (i j : ℕ). i ≡ j) (numbers_from n 0) p own.0 (λ i m. (i, (o.1 i).1 ((own.1 i).0 m), refl)) (λ i j k a b. a ∙ sym b) in
        omega (arith, numbers_long n 0)

    has : Distinct p × All (λ i. i < n) p × (length p ≡ n) → (i : ℕ) → i < n → Dec (Memᴰ i p) → Memᴰ i p
    has h i l (yes m) = m
    has h i l (no k) = absurd (omega (arith, few_positions n (i ∷ p) (k, h.0) (l, h.1), h.2))

-- one position first, and the others in their order

abbrev others : ℕ → ℕ → List ℕ
others n i = keep (λ j. not (eqb j i)) (numbers_from n 0)

firstly_order : (n i : ℕ) → i < n → IsOrder n (i ∷ others n i)
firstly_order n i h = ((λ m. other i ((rest i).0 m).1 refl, distinct), λ j. (λ m. to j (Memᴰ.cases_cons m), λ l. from j l (ℕ_discrete j i)))
  where
    rest : (j : ℕ) → Memᴰ j (others n i) ↔ (Memᴰ j (numbers_from n 0) × (not (eqb j i) ≡ true))
    rest j = keep_mem (λ j. not (eqb j i)) j (numbers_from n 0)

    other : (j : ℕ) → not (eqb j i) ≡ true → j ≡ i → ⊥
    other j t e = (not_is (eqb j i)).0 t (eq-eqb j i e)

    distinct : Distinct (others n i)
    distinct = rising_distinct ◌<◌ (λ x l. omega arith) (others n i) (keep_rising ◌<◌ (λ j. not (eqb j i)) (numbers_from n 0) (numbers_rising n 0))

    to : (j : ℕ) → (j ≡ i) ⊎ Memᴰ j (others n i) → j < n
    to j (inl e) = omega arith
    to j (inr m) = let b = (numbers_mem n 0 j).0 ((rest j).0 m).0 in omega arith

    from : (j : ℕ) → j < n → Dec (j ≡ i) → Memᴰ j (i ∷ others n i)
    from j l (yes e) = Memᴰ.head e
    from j l (no d) = Memᴰ.tail ((rest j).1 ((numbers_mem n 0 j).1 (omega arith, omega arith), (not_is (eqb j i)).1 (λ t. d (eqb-true j i t))))

-- ---- whether the order matters: position i gives w where g i w is true

module _ {W : Type 0} (n : ℕ) (g : ℕ → W → Bool) where
  -- where no two positions meet, and two that give a thing in common do, two orders pick the same
  pub orders_free : (Meet : ℕ → ℕ → Type 0) → ((i j : ℕ) → i < n → j < n → (i ≡ j → ⊥) → Meet i j → ⊥)
      → ((i j : ℕ) (w : W) → g i w ≡ true → g j w ≡ true → Meet i j)
      → (p q : List ℕ) → IsOrder n p → IsOrder n q → (w : W) → pick_in (λ i. g i w) p ≡ pick_in (λ i. g i w) q
  orders_free Meet apart meet p q op oq w = picks_same (λ i. g i w) p q (λ i. (λ m. (oq.1 i).1 ((op.1 i).0 m), λ m. (op.1 i).1 ((oq.1 i).0 m))) one
    where
      one : (i j : ℕ) → Memᴰ i p → Memᴰ j p → g i w ≡ true → g j w ≡ true → i ≡ j
      one i j k m a b = go (ℕ_discrete i j)
        where
          go : Dec (i ≡ j) → i ≡ j
          go (yes e) = e
          go (no d) = absurd (apart i j ((op.1 i).0 k) ((op.1 j).0 m) d (meet i j w a b))

  -- what two positions give: two orders pick the one and the other
  pub orders_matter : (i j : ℕ) → i < n → j < n → (w : W) → g i w ≡ true → g j w ≡ true
      → (p q : List ℕ) × IsOrder n p × IsOrder n q × (pick_in (λ k. g k w) p ≡ some i) × (pick_in (λ k. g k w) q ≡ some j)
  orders_matter i j li lj w a b = (
    i ∷ others n i,
    j ∷ others n j,
    firstly_order n i li,
    firstly_order n j lj,
    pick_head (λ k. g k w) i (others n i) a,
    pick_head (λ k. g k w) j (others n j) b,
  )
