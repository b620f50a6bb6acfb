-- The variables of a rule: exactly those that occur, each once, in document 01's order.
use mathlib.Core.Path.{◌≡◌, refl, sym, ap, subst}
use mathlib.Core.Logic.{◌↔◌, ◌⊎◌, inl, inr}
use mathlib.Core.Bool.{Bool, true, false, ◌||◌, false≢true}
use mathlib.Core.List.{List, [], ◌∷◌, map, Memᴰ}
use Prim.Native.Nat.{ℕ, zero, suc, ◌+◌, ◌≤◌, ◌<◌}
use native.Mathlib.Omega.{arith}
use native.Mathlib.Decide.{ℕ_discrete}
use lib.Dec.{eqb}
use lib.ListN.{length}
use borrow.Author.Tests.{eqb-true, eq-eqb}
use Rattle.base_limits.specs.Limits.{largest_number}
use Rattle.base_lists.specs.Seqs.{All, Any, all_append, all_map}
use Rattle.base_lists.specs.Truths.{both_is}
use Rattle.math_types.specs.Types.{Kind, kinds, rank, rank_kinds, rank_once, same, same_is}
use Rattle.math_terms.specs.Terms.{con, var}
use Rattle.math_terms.specs.Seqs.{concat_map, Distinct}
use Rattle.math_terms.specs.Fillings.{Occurs}
use Rattle.text_grammar.specs.Terms.{OurTerm}
use Rattle.text_grammar.specs.Limits.{TermIn}
use Rattle.overlap_spec.specs.Variables.{Variable, numbers_from, numbers, of_kind, every, is_variable, in_field, occurs, variables, Before, Rising}
use Rattle.text_grammar.proofs.Limited.{number_rule}
use Rattle.overlap_spec.proofs.Rising.{rising_append, rising_distinct, keep_rising, keep_mem, rising_under, rising_back}

-- ---- the numbers

above : (m n b : ℕ) → b < n → All (λ k. b < k) (numbers_from m n)
above zero n b h = tt
above (suc m) n b h = (h, above m (suc n) b (omega arith))

pub numbers_rising : (m n : ℕ) → Rising ◌<◌ (numbers_from m n)
numbers_rising zero n = tt
numbers_rising (suc m) n = (above m (suc n) n (omega arith), numbers_rising m (suc n))

pub numbers_mem : (m n k : ℕ) → Memᴰ k (numbers_from m n) ↔ ((n ≤ k) × (k < n + m))
numbers_mem zero n k = (λ i. absurd (mathlib.Core.List.Memᴰ.not-nil i), λ h. absurd (omega arith))
numbers_mem (suc m) n k = go (numbers_mem m (suc n) k)
  where
    go : (Memᴰ k (numbers_from m (suc n)) ↔ ((suc n ≤ k) × (k < suc n + m))) → Memᴰ k (numbers_from (suc m) n) ↔ ((n ≤ k) × (k < n + suc m))
    go rec = (λ i. to (mathlib.Core.List.Memᴰ.cases_cons i), λ h. from h (ℕ_discrete k n))
      where
        to : (k ≡ n) ⊎ Memᴰ k (numbers_from m (suc n)) → (n ≤ k) × (k < n + suc m)
        to (inl e) = (omega arith, omega arith)
        to (inr i) = let h = rec.0 i in (omega arith, omega arith)

        from : (n ≤ k) × (k < n + suc m) → Dec (k ≡ n) → Memᴰ k (numbers_from (suc m) n)
        from h (yes e) = mathlib.Core.List.Memᴰ.head e
        from h (no d) = mathlib.Core.List.Memᴰ.tail (rec.1 (omega (arith, d, h.0), omega arith))

-- ---- the types

-- the types stand by their ranks
pub kinds_ranked : map rank kinds ≡ numbers_from (length kinds) 0
kinds_ranked = refl

pub kinds_rising : Rising (λ (j k : Kind). rank j < rank k) kinds
kinds_rising = rising_back ◌<◌ rank kinds (subst (Rising ◌<◌) (sym kinds_ranked) (numbers_rising (length kinds) 0))

-- every type is there, since its rank is
pub kinds_all : (k : Kind) → Memᴰ k kinds
kinds_all k =
    let b = rank_kinds k in
    let m : Memᴰ (rank k) (numbers_from (length kinds) 0) = (numbers_mem (length kinds) 0 (rank k)).1 (omega arith, omega arith) in
    let j = mathlib.Core.List.Memᴰ.of_map rank kinds (subst (Memᴰ (rank k)) (sym kinds_ranked) m) in
    mathlib.Core.List.Memᴰ.cast (rank_once k j.0 (sym j.2)) j.1

-- ---- every variable, in order

kind_rising : (k : Kind) → Rising Before (of_kind k)
kind_rising k = rising_under ◌<◌ Before (λ (n : ℕ). (k, n)) (λ m n h. inr (refl, h)) numbers (numbers_rising (suc largest_number) 0)

-- a rank below those of the types is below those of their variables
below_all : (b : ℕ) (ks : List Kind) → All (λ k. b < rank k) ks → All (λ (v : Variable). b < rank v.0) (concat_map of_kind ks)
below_all b [] h = tt
below_all b (k ∷ ks) h = all_append (λ (v : Variable). b < rank v.0) (of_kind k) (concat_map of_kind ks) (each numbers) (below_all b ks h.1)
  where
    each : (ns : List ℕ) → All (λ (v : Variable). b < rank v.0) (map (λ (n : ℕ). (k, n)) ns)
    each [] = tt
    each (n ∷ ns) = (h.0, each ns)

of_rising : (ks : List Kind) → Rising (λ (j k : Kind). rank j < rank k) ks → Rising Before (concat_map of_kind ks)
of_rising [] h = tt
of_rising (k ∷ ks) h = rising_append Before (of_kind k) (concat_map of_kind ks) (kind_rising k) (of_rising ks h.1) (each numbers)
  where
    each : (ns : List ℕ) → All (λ x. All (Before x) (concat_map of_kind ks)) (map (λ (n : ℕ). (k, n)) ns)
    each [] = tt
    each (n ∷ ns) =
        (all_map (λ (v : Variable). rank k < rank v.0) (Before (k, n)) (λ v l. inl l) (concat_map of_kind ks) (below_all (rank k) ks h.0), each ns)

pub every_rising : Rising Before every
every_rising = of_rising kinds kinds_rising

-- a variable is there exactly when its number is within the limit
pub every_mem : (k : Kind) (n : ℕ) → Memᴰ (k, n) every ↔ (n ≤ largest_number)
every_mem k n = (to kinds, λ h. from kinds (kinds_all k) ((numbers_mem (suc largest_number) 0 n).1 (omega arith, omega arith)))
  where
    number_in : (j : Kind) → Memᴰ (k, n) (of_kind j) → n ≤ largest_number
    number_in j i =
        let m = mathlib.Core.List.Memᴰ.of_map (λ (x : ℕ). (j, x)) numbers i in
        let h = (numbers_mem (suc largest_number) 0 m.0).0 m.1 in
        let e : m.0 ≡ n = ap (λ (v : Variable). v.1) m.2 in
        omega arith

    to : (ks : List Kind) → Memᴰ (k, n) (concat_map of_kind ks) → n ≤ largest_number
    to [] i = absurd (mathlib.Core.List.Memᴰ.not-nil i)
    to (j ∷ ks) i = go (λ m. to ks m) (mathlib.Core.List.Memᴰ.append_cases (of_kind j) i)
      where
        go : (Memᴰ (k, n) (concat_map of_kind ks) → n ≤ largest_number)
            → Memᴰ (k, n) (of_kind j) ⊎ Memᴰ (k, n) (concat_map of_kind ks) → n ≤ largest_number
        go rec (inl m) = number_in j m
        go rec (inr m) = rec m

    from : (ks : List Kind) → Memᴰ k ks → Memᴰ n numbers → Memᴰ (k, n) (concat_map of_kind ks)
    from [] i m = absurd (mathlib.Core.List.Memᴰ.not-nil i)
    from (j ∷ ks) i m = go (λ x. from ks x m) (mathlib.Core.List.Memᴰ.cases_cons i)
      where
        go : (Memᴰ k ks → Memᴰ (k, n) (concat_map of_kind ks)) → (k ≡ j) ⊎ Memᴰ k ks → Memᴰ (k, n) (concat_map of_kind (j ∷ ks))
        go rec (inl e) = mathlib.Core.List.Memᴰ.append_left (concat_map of_kind ks) (mathlib.Core.List.Memᴰ.cast (ap (λ (x : Kind). (x, n)) e) (mathlib.Core.List.Memᴰ.map (λ (x : ℕ). (j, x)) m))
        go rec (inr x) = mathlib.Core.List.Memᴰ.append_right (of_kind j) (rec x)

-- ---- those that occur

either_is : (a b : Bool) → ((a || b) ≡ true) ↔ ((a ≡ true) ⊎ (b ≡ true))
either_is true b = (λ e. inl refl, λ h. refl)
either_is false b = (λ e. inr e, λ h. go h)
  where
    go : (false ≡ true) ⊎ (b ≡ true) → b ≡ true
    go (inl e) = absurd (false≢true e)
    go (inr e) = e

in_field_lem : (k : Kind) (n : ℕ) (f : List OurTerm) → (in_field k n f ≡ true) ↔ Occurs k n f
in_field_lem k n [] = (λ e. false≢true e, λ h. absurd h)
in_field_lem k n (con c ∷ f) = in_field_lem k n f
in_field_lem k n (var j m ∷ f) = go (in_field_lem k n f)
  where
    go : ((in_field k n f ≡ true) ↔ Occurs k n f) → (in_field k n (var j m ∷ f) ≡ true) ↔ Occurs k n (var j m ∷ f)
    go rec = (λ e. to ((either_is (is_variable k n (var j m)) (in_field k n f)).0 e), λ h. (either_is (is_variable k n (var j m)) (in_field k n f)).1 (from h))
      where
        to : (is_variable k n (var j m) ≡ true) ⊎ (in_field k n f ≡ true) → Occurs k n (var j m ∷ f)
        to (inl e) = let h = (both_is (same k j) (eqb n m)).0 e in inl ((same_is k j).0 h.0, eqb-true n m h.1)
        to (inr e) = inr (rec.0 e)

        from : Occurs k n (var j m ∷ f) → (is_variable k n (var j m) ≡ true) ⊎ (in_field k n f ≡ true)
        from (inl h) = inl ((both_is (same k j) (eqb n m)).1 ((same_is k j).1 h.0, eq-eqb n m h.1))
        from (inr h) = inr (rec.1 h)

-- THE TEST is occurrence in some field
pub occurs_is : (k : Kind) (n : ℕ) (r : List (List OurTerm)) → (occurs k n r ≡ true) ↔ Any (Occurs k n) r
occurs_is k n [] = (λ e. false≢true e, λ h. absurd h)
occurs_is k n (f ∷ r) = go (occurs_is k n r)
  where
    go : ((occurs k n r ≡ true) ↔ Any (Occurs k n) r) → (occurs k n (f ∷ r) ≡ true) ↔ Any (Occurs k n) (f ∷ r)
    go rec = (λ e. to ((either_is (in_field k n f) (occurs k n r)).0 e), λ h. (either_is (in_field k n f) (occurs k n r)).1 (from h))
      where
        to : (in_field k n f ≡ true) ⊎ (occurs k n r ≡ true) → Any (Occurs k n) (f ∷ r)
        to (inl e) = inl ((in_field_lem k n f).0 e)
        to (inr e) = inr (rec.0 e)

        from : Any (Occurs k n) (f ∷ r) → (in_field k n f ≡ true) ⊎ (occurs k n r ≡ true)
        from (inl h) = inl ((in_field_lem k n f).1 h)
        from (inr h) = inr (rec.1 h)

-- ---- THE VARIABLES

-- exactly those that occur
pub in_variables : (r : List (List OurTerm)) → All (All TermIn) r → (k : Kind) (n : ℕ) → Memᴰ (k, n) (variables r) ↔ Any (Occurs k n) r
in_variables r h k n =
    let m = keep_mem (λ (v : Variable). occurs v.0 v.1 r) (k, n) every in
    (λ i. (occurs_is k n r).0 (m.0 i).1, λ o. m.1 ((every_mem k n).1 (number_rule k n r h o), (occurs_is k n r).1 o))

-- in document 01's order
pub variables_rising : (r : List (List OurTerm)) → Rising Before (variables r)
variables_rising r = keep_rising Before (λ (v : Variable). occurs v.0 v.1 r) every every_rising

-- each once
pub variables_distinct : (r : List (List OurTerm)) → Distinct (variables r)
variables_distinct r = rising_distinct Before itself (variables r) (variables_rising r)
  where
    itself : (v : Variable) → Before v v → ⊥
    itself v (inl h) = omega arith
    itself v (inr h) = let l = h.1 in omega arith
