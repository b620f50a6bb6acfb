-- How often a list variable stands in a field; what putting a field for a term keeps.
use mathlib.Core.Path.{◌≡◌, refl, sym, ◌∙◌, ap}
use mathlib.Core.Logic.{ite, if_pos, if_neg}
use mathlib.Core.Bool.{true, false, true≢false}
use mathlib.Core.List.{List, [], ◌∷◌, ◌++◌, append-nil}
use Prim.Native.Nat.{ℕ, suc, ◌+◌, ◌≤◌}
use native.Mathlib.Omega.{arith}
use lib.ListN.{length}
use Rattle.base_lists.specs.Seqs.{All, all_map}
use Rattle.math_terms.specs.Seqs.{concat_map}
use Rattle.math_terms.proofs.Seqs.{concat_map_twice}
use Rattle.math_search.specs.Problems.{Setting, atomic, listvar, At, Tm, Field, tm_eq, put, Rest, solved, equation}
use Rattle.math_search.specs.Rules.{occurs}
use Rattle.math_search.specs.Answers.{listvars, is_name, count_of, Linear}
use Rattle.math_search.proofs.Seqs.{all_both, all_every, concat_map_agree, all_concat_map}
use Rattle.math_search.proofs.Terms.{listvar_once, atomic≢listvar}

module _ (E : Setting) where
  open E use {names}
  open names use {Name, name_eq}

  pub same_le : (n m : Name) → is_name E n m ≤ 1
  same_le n m = go (name_eq m n)
    where
      go : (d : Dec (m ≡ n)) → ite d 1 0 ≤ 1
      go (yes e) = omega arith
      go (no e) = omega arith

  pub same_self : (n : Name) → is_name E n n ≡ 1
  same_self n = if_pos (name_eq n n) refl 1 0

  pub count_le : (n : Name) (L : Field E) → count_of E n L ≤ listvars E L
  count_le n [] = omega arith
  count_le n (atomic a ∷ L) = count_le n L
  count_le n (listvar m ∷ L) = omega (arith, count_le n L, same_le n m)

  -- a term more takes none away
  pub count_cons : (n : Name) (t : Tm E) (M : Field E) → count_of E n M ≤ count_of E n (t ∷ M)
  count_cons n (atomic a) M = omega arith
  count_cons n (listvar m) M = omega arith

  pub lists_cons : (t : Tm E) (M : Field E) → listvars E M ≤ listvars E (t ∷ M)
  lists_cons (atomic a) M = omega arith
  lists_cons (listvar m) M = omega arith

  -- what is left is linear
  abbrev pub LinearRest : Rest E → Type 0
  LinearRest solved = Unit {0}
  LinearRest (equation L M) = Linear E L M

  -- a fresh name beside a field that lacks it
  pub same_count : (f : Name) (M : Field E) → listvars E M ≤ 1 → count_of E f M ≡ 0 → (n : Name) → is_name E n f + count_of E n M ≤ 1
  same_count f M h e n = go (name_eq f n)
    where
      go : (d : Dec (f ≡ n)) → ite d 1 0 + count_of E n M ≤ 1
      go (yes p) = let q : count_of E n M ≡ 0 = ap (λ (k : Name). count_of E k M) (sym p) ∙ e in omega arith
      go (no p) = omega (arith, count_le n M)

  -- ---- a field put for a term

  -- t is not x
  abbrev pub Other : Tm E → Tm E → Type 0
  Other x t = t ≡ x → ⊥

  pub put_self : (x : Tm E) (s : Field E) → put E x s x ≡ s
  put_self x s = if_pos (tm_eq E x x) refl s (x ∷ [])

  pub put_ne : (x : Tm E) (s : Field E) (t : Tm E) → Other x t → put E x s t ≡ t ∷ []
  put_ne x s t n = if_neg (tm_eq E t x) n s (t ∷ [])

  put_fill : {B : Type 0} (θ : Tm E → List B) (x : Tm E) (s : Field E) → θ x ≡ concat_map θ s → (t : Tm E) → concat_map θ (put E x s t) ≡ θ t
  put_fill {B} θ x s h t = go (tm_eq E t x)
    where
      go : (d : Dec (t ≡ x)) → concat_map θ (ite d s (t ∷ [])) ≡ θ t
      go (yes e) = sym h ∙ ap θ (sym e)
      go (no n) = append-nil (θ t)

  pub put_fill_all : {B : Type 0} (θ : Tm E → List B) (x : Tm E) (s : Field E) → θ x ≡ concat_map θ s
      → (L : Field E) → concat_map θ (concat_map (put E x s) L) ≡ concat_map θ L
  put_fill_all θ x s h L =
      concat_map_twice θ (put E x s) L
      ∙ concat_map_agree (λ t. concat_map θ (put E x s t)) θ L (all_every (λ t. concat_map θ (put E x s t) ≡ θ t) L (put_fill θ x s h))

  pub put_all : (P : Tm E → Type 0) (x : Tm E) (s : Field E) → All P s → (t : Tm E) → (Other x t → P t) → All P (put E x s t)
  put_all P x s h t k = go (tm_eq E t x)
    where
      go : (d : Dec (t ≡ x)) → All P (ite d s (t ∷ []))
      go (yes e) = h
      go (no n) = (k n, tt)

  pub all_put_in : (P : Tm E → Type 0) (x : Tm E) (s : Field E) → All P s → (L : Field E) → All (λ t. Other x t → P t) L → All P (concat_map (put E x s) L)
  all_put_in P x s h L k = all_concat_map P (put E x s) L (all_map (λ t. Other x t → P t) (λ t. All P (put E x s t)) (λ t q. put_all P x s h t q) L k)

  -- an atom variable's putting keeps the length and the list variables
  pub put_length : (x a : At E) (L : Field E) → length (concat_map (put E (atomic x) (atomic a ∷ [])) L) ≡ length L
  put_length x a [] = refl
  put_length x a (t ∷ L) = go (tm_eq E t (atomic x)) (put_length x a L)
    where
      go : (d : Dec (t ≡ atomic x)) → length (concat_map (put E (atomic x) (atomic a ∷ [])) L) ≡ length L
          → length (ite d (atomic a ∷ []) (t ∷ []) ++ concat_map (put E (atomic x) (atomic a ∷ [])) L) ≡ suc (length L)
      go (yes e) h = ap suc h
      go (no n) h = ap suc h

  pub put_lists : (x a : At E) (L : Field E) → listvars E (concat_map (put E (atomic x) (atomic a ∷ [])) L) ≡ listvars E L
  put_lists x a [] = refl
  put_lists x a (listvar n ∷ L) = ap suc (put_lists x a L)
  put_lists x a (atomic b ∷ L) = go (tm_eq E (atomic b) (atomic x)) (put_lists x a L)
    where
      go : (d : Dec (◌≡◌ {A = Tm E} (atomic b) (atomic x))) → listvars E (concat_map (put E (atomic x) (atomic a ∷ [])) L) ≡ listvars E L
          → listvars E (ite d (atomic a ∷ []) (atomic b ∷ []) ++ concat_map (put E (atomic x) (atomic a ∷ [])) L) ≡ listvars E L
      go (yes e) h = h
      go (no n) h = h

  pub put_count : (m : Name) (x a : At E) (L : Field E) → count_of E m (concat_map (put E (atomic x) (atomic a ∷ [])) L) ≡ count_of E m L
  put_count m x a [] = refl
  put_count m x a (listvar n ∷ L) = ap (λ (k : ℕ). is_name E m n + k) (put_count m x a L)
  put_count m x a (atomic b ∷ L) = go (tm_eq E (atomic b) (atomic x)) (put_count m x a L)
    where
      go : (d : Dec (◌≡◌ {A = Tm E} (atomic b) (atomic x))) → count_of E m (concat_map (put E (atomic x) (atomic a ∷ [])) L) ≡ count_of E m L
          → count_of E m (ite d (atomic a ∷ []) (atomic b ∷ []) ++ concat_map (put E (atomic x) (atomic a ∷ [])) L) ≡ count_of E m L
      go (yes e) h = h
      go (no n) h = h

  -- ---- names that are absent

  pub absent : (n : Name) (L : Field E) → count_of E n L ≡ 0 → All (Other (listvar n)) L
  absent n [] h = tt
  absent n (atomic a ∷ L) h = (λ p. atomic≢listvar p, absent n L h)
  absent n (listvar m ∷ L) h = (λ p. go (listvar_once p), absent n L (omega arith))
    where
      go : m ≡ n → ⊥
      go e = let q : is_name E n m ≡ 1 = if_pos (name_eq m n) e 1 0 in omega arith

  pub count_absent : (n : Name) (L : Field E) → All (Other (listvar n)) L → count_of E n L ≡ 0
  count_absent n [] h = refl
  count_absent n (atomic a ∷ L) h = count_absent n L h.1
  count_absent n (listvar m ∷ L) h =
      let q : is_name E n m ≡ 0 = if_neg (name_eq m n) (λ e. h.0 (ap {B = Tm E} listvar e)) 1 0 in omega (arith, count_absent n L h.1)

  pub not_occurs : (x : Tm E) (L : Field E) → occurs E x L ≡ false → All (Other x) L
  not_occurs x [] h = tt
  not_occurs x (t ∷ L) h = go (tm_eq E t x) h (λ k. not_occurs x L k)
    where
      go : (d : Dec (t ≡ x)) → ite d true (occurs E x L) ≡ false → (occurs E x L ≡ false → All (Other x) L) → All (Other x) (t ∷ L)
      go (yes e) h rec = absurd (true≢false h)
      go (no n) h rec = (n, rec h)

  pub occurs_not : (x : Tm E) (L : Field E) → All (Other x) L → occurs E x L ≡ false
  occurs_not x [] h = refl
  occurs_not x (t ∷ L) h = if_neg (tm_eq E t x) h.0 true (occurs E x L) ∙ occurs_not x L h.1

  -- from the terms other than x, and x absent, all terms
  pub without : (P : Tm E → Type 0) (n : Name) (L : Field E) → count_of E n L ≡ 0 → All (λ t. Other (listvar n) t → P t) L → All P L
  without P n L h k = all_both (Other (listvar n)) P L k (absent n L h)
