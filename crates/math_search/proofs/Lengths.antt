-- How long a value gets, from step to step: no value of the equation's own variables ever has more terms than the equation.
use mathlib.Core.Path.{◌≡◌, refl, sym, ◌∙◌, ap, subst, subst₂}
use mathlib.Core.Logic.{◌⊎◌, inl, inr, ite, if_pos}
use mathlib.Core.Option.{Option, some}
use mathlib.Core.List.Memᴰ
use mathlib.Core.List.{List, [], ◌∷◌, ◌++◌, append_assoc, Memᴰ}
use Prim.Native.Nat.{ℕ, ◌+◌, ◌≤◌}
use native.Mathlib.Omega.{arith}
use lib.ListN.{length, length-append}
use Rattle.base_lists.specs.Seqs.{All, all_map, all_left, all_mapped}
use Rattle.math_terms.specs.Seqs.{concat_map}
use Rattle.math_terms.proofs.Seqs.{concat_map_append, concat_map_twice}
use Rattle.math_overlaps.specs.Shapes.{fixed, free}
use Rattle.math_search.specs.Problems.{Setting, atomic, listvar, Tm, Field, Bindings, put, Rest, solved, equation, problem, rest, bindings, root}
use Rattle.math_search.specs.Rules.{Move, keep, bind, moves, apply, children}
use Rattle.math_search.specs.Queue.{terms_in}
use Rattle.math_search.specs.Answers.{StandsIn, is_name, count_of, Fits}
use Rattle.math_search.proofs.Seqs.{one_or_none, all_every, all_concat_map, concat_map_self}
use Rattle.math_search.proofs.Terms.{listvar_once, atomic≢listvar}
use Rattle.math_search.proofs.Counts.{Other, put_length, put_count, absent, count_absent, count_cons}
use Rattle.math_search.proofs.Effects.{AllRest, terms_left, Does}
use Rattle.math_search.proofs.Invariant.{Known, Unbound, Invariant}
use Rattle.math_search.proofs.Children.{Is, moves_is, move_does}
use Rattle.math_search.proofs.Cuts.{left_of, right_of, Same, Cut, Cuts, put_away_name, rule_cuts}

module _ (E : Setting) where
  open E use {names}
  open names use {Name, name_eq, pick, pick_new}

  count_append : (k : Name) (s t : Field E) → count_of E k (s ++ t) ≡ count_of E k s + count_of E k t
  count_append k [] t = omega arith
  count_append k (atomic a ∷ s) t = count_append k s t
  count_append k (listvar n ∷ s) t = omega (arith, count_append k s t)

  prefix_step : (P Q A L K : Field E) → A ≡ P ++ L → L ≡ Q ++ K → A ≡ (P ++ Q) ++ K
  prefix_step P Q A L K e h = e ∙ ap (λ (J : Field E). P ++ J) h ∙ sym (append_assoc P Q K)

  same_step : (A B P L M Q : Field E) (n : Rest E) → Same E A B P (equation L M) → Same E L M Q n → Same E A B (P ++ Q) n
  same_step A B P L M Q n (inl a) (inl b) = inl (prefix_step P Q A L (left_of E n) a.0 b.0, prefix_step P Q B M (right_of E n) a.1 b.1)
  same_step A B P L M Q n (inl a) (inr b) = inr (prefix_step P Q A L (right_of E n) a.0 b.0, prefix_step P Q B M (left_of E n) a.1 b.1)
  same_step A B P L M Q n (inr a) (inl b) = inr (prefix_step P Q A M (right_of E n) a.0 b.1, prefix_step P Q B L (left_of E n) a.1 b.0)
  same_step A B P L M Q n (inr a) (inr b) = inl (prefix_step P Q A M (left_of E n) a.0 b.1, prefix_step P Q B L (right_of E n) a.1 b.0)

  same_more : (k : Name) (L M Q : Field E) (n : Rest E) → Same E L M Q n → count_of E k (left_of E n) + count_of E k (right_of E n) ≤ count_of E k L + count_of E k M
  same_more k L M Q n (inl a) = omega (arith, ap (count_of E k) a.0, ap (count_of E k) a.1, count_append k Q (left_of E n), count_append k Q (right_of E n))
  same_more k L M Q n (inr a) = omega (arith, ap (count_of E k) a.0, ap (count_of E k) a.1, count_append k Q (left_of E n), count_append k Q (right_of E n))

  same_map : (g : Field E → Field E) → ((s t : Field E) → g (s ++ t) ≡ g s ++ g t) → (A B P L M : Field E)
      → Same E A B P (equation L M) → Same E (g A) (g B) (g P) (equation (g L) (g M))
  same_map g h A B P L M (inl a) = inl (ap g a.0 ∙ h P L, ap g a.1 ∙ h P M)
  same_map g h A B P L M (inr a) = inr (ap g a.0 ∙ h P M, ap g a.1 ∙ h P L)

  same_all : (R : Tm E → Type 0) (A B P : Field E) (n : Rest E) → Same E A B P n → All R A → All R P
  same_all R A B P n (inl a) h = all_left R P (left_of E n) (subst (λ (K : Field E). All R K) a.0 h)
  same_all R A B P n (inr a) h = all_left R P (right_of E n) (subst (λ (K : Field E). All R K) a.0 h)

  -- a binding of a name that P lacks, or of an atom, changes neither P's length nor its names
  abbrev Plain : Tm E → Field E → Type 0
  Plain (atomic a) P = Unit {0}
  Plain (listvar j) P = count_of E j P ≡ 0

  plain_put : (x : Tm E) (s P : Field E) → Fits E x s → Plain x P
      → (length (concat_map (put E x s) P) ≡ length P) × ((k : Name) → count_of E k (concat_map (put E x s) P) ≡ count_of E k P)
  plain_put (atomic (fixed c)) s P g h =
      subst (λ (s : Field E). (length (concat_map (put E (atomic (fixed c)) s) P) ≡ length P)
      × ((k : Name) → count_of E k (concat_map (put E (atomic (fixed c)) s) P) ≡ count_of E k P)) (sym g)
      (put_length E (fixed c) (fixed c) P, λ k. put_count E k (fixed c) (fixed c) P)
  plain_put (atomic (free x)) s P g h =
      subst (λ (s : Field E). (length (concat_map (put E (atomic (free x)) s) P) ≡ length P)
      × ((k : Name) → count_of E k (concat_map (put E (atomic (free x)) s) P) ≡ count_of E k P)) (sym g.1)
      (put_length E (free x) g.0 P, λ k. put_count E k (free x) g.0 P)
  plain_put (listvar j) s P g h = (ap (λ (K : Field E). length K) (put_away_name E j s P h), λ k. ap (count_of E k) (put_away_name E j s P h))

  -- a name that is in K
  occ : (G : Type 0) (k : Name) (K : Field E) → All (λ t. t ≡ listvar k → G) K → 1 ≤ count_of E k K → G
  occ G k [] h g = absurd (omega arith)
  occ G k (atomic a ∷ K) h g = occ G k K h.1 g
  occ G k (listvar j ∷ K) h g = go (name_eq j k) g (λ q. occ G k K h.1 q)
    where
      go : (d : Dec (j ≡ k)) → 1 ≤ ite d 1 0 + count_of E k K → (1 ≤ count_of E k K → G) → G
      go (yes e) g rec = h.0 (ap {B = Tm E} listvar e)
      go (no n) g rec = rec (omega arith)

  occ_all : (k : Name) (K : Field E) → All (λ t. t ≡ listvar k → 1 ≤ count_of E k K) K
  occ_all k [] = tt
  occ_all k (t ∷ K) = (
    λ e. head t e,
    all_map (λ u. u ≡ listvar k → 1 ≤ count_of E k K) (λ u. u ≡ listvar k → 1 ≤ count_of E k (t ∷ K))
        (λ u h e. omega (arith, h e, count_cons E k t K)) K (occ_all k K),
  )
    where
      head : (t : Tm E) → t ≡ listvar k → 1 ≤ count_of E k (t ∷ K)
      head (atomic a) e = absurd (atomic≢listvar e)
      head (listvar j) e = let q : is_name E k j ≡ 1 = if_pos (name_eq j k) (listvar_once e) 1 0 in omega arith

  cut_move : (A B L M : Field E) (bnd : ℕ) (f : Name) (σ : Bindings E) (u : List Name) (m : Move E)
      → (Memᴰ f u → ⊥) → Does E L M f (some m) → Cuts E L M (some m)
      → Invariant E (problem (equation L M) σ u) → All (Known E u) A → Cut E (concat_map σ A) (concat_map σ B) bnd (equation L M)
      → Cut E (concat_map (bindings E (apply E σ u m)) A) (concat_map (bindings E (apply E σ u m)) B) bnd (rest E (apply E σ u m))
  cut_move A B L M bnd f σ u (keep n) fr d q i o c = record {
    pre = c.pre ++ q.pre;
    same_as = same_step (concat_map σ A) (concat_map σ B) c.pre L M q.pre n c.same_as q.same_as;
    few = omega (arith, c.few, q.few, length-append c.pre q.pre);
    away = λ k h. omega (arith, count_append k c.pre q.pre, q.away k h, c.away k (omega (arith, same_more k L M q.pre n q.same_as)));
  }
  cut_move A B L M bnd f σ u (bind x s v n) fr d q i o c = record {
    pre = concat_map (put E x s) c.pre ++ q.pre;
    same_as =
        subst₂ (λ (a b : Field E). Same E a b (concat_map (put E x s) c.pre ++ q.pre) n) (concat_map_twice (put E x s) σ A)
        (concat_map_twice (put E x s) σ B)
        (same_step (concat_map (put E x s) (concat_map σ A)) (concat_map (put E x s) (concat_map σ B)) (concat_map (put E x s) c.pre)
        (concat_map (put E x s) L) (concat_map (put E x s) M) q.pre n
        (same_map (λ K. concat_map (put E x s) K) (concat_map_append (put E x s)) (concat_map σ A) (concat_map σ B) c.pre L M c.same_as) q.same_as);
    few = omega (arith, c.few, q.few, length-append (concat_map (put E x s) c.pre) q.pre, kept_as.0);
    away = λ k h. omega (arith, count_append k (concat_map (put E x s) c.pre) q.pre, q.away k h, kept_as.1 k, gone k h);
  }
    where
      old_pre : All (Known E u) c.pre
      old_pre = same_all (Known E u) (concat_map σ A) (concat_map σ B) c.pre (equation L M) c.same_as
          (all_concat_map (Known E u) σ A
          (all_map (Known E u) (λ t. All (Known E u) (σ t)) (λ t p. all_map (Unbound E σ u) (Known E u) (λ w r. r.1) (σ t) (i.vals t p)) A o))

      plain : (y : Tm E) → x ≡ y → Plain y c.pre
      plain (atomic a) e = tt
      plain (listvar j) e = go (one_or_none (count_of E j L + count_of E j M))
        where
          go : (count_of E j L + count_of E j M ≡ 0) ⊎ (1 ≤ count_of E j L + count_of E j M) → count_of E j c.pre ≡ 0
          go (inl z) = absurd (d.here (Other E (listvar j)) (absent E j L (omega arith)) (absent E j M (omega arith)) e)
          go (inr z) = c.away j z

      kept_as : (length (concat_map (put E x s) c.pre) ≡ length c.pre)
          × ((k : Name) → count_of E k (concat_map (put E x s) c.pre) ≡ count_of E k c.pre)
      kept_as = plain_put x s c.pre d.fits (plain x refl)

      gone : (k : Name) → 1 ≤ count_of E k (left_of E n) + count_of E k (right_of E n) → count_of E k c.pre ≡ 0
      gone k h = known (found n (d.from i.lin (λ t. t ≡ listvar k → G)
          (all_map (λ t. t ≡ listvar k → 1 ≤ count_of E k L) (λ t. Other E x t → t ≡ listvar k → G) (λ t p ne e. inr (omega (arith, p e))) L (occ_all k L))
          (all_map (λ t. t ≡ listvar k → 1 ≤ count_of E k M) (λ t. Other E x t → t ≡ listvar k → G) (λ t p ne e. inr (omega (arith, p e))) M (occ_all k M))
          (all_map (λ j. j ≡ f) (λ j. listvar j ≡ listvar k → G) (λ j p e. inl (sym (listvar_once e) ∙ p)) v d.new)).1 h)
        where
          G : Type 0
          G = (k ≡ f) ⊎ (1 ≤ count_of E k L + count_of E k M)

          known : (k ≡ f) ⊎ (1 ≤ count_of E k L + count_of E k M) → count_of E k c.pre ≡ 0
          known (inl e) = count_absent E k c.pre (all_map (Known E u) (Other E (listvar k)) (λ t p. p k (λ j. fr (Memᴰ.cast (sym e) j))) c.pre old_pre)
          known (inr z) = c.away k z

          found : (n : Rest E) → AllRest E (λ t. t ≡ listvar k → G) n → 1 ≤ count_of E k (left_of E n) + count_of E k (right_of E n) → G
          found solved a h = absurd (omega arith)
          found (equation L' M') a h = go (one_or_none (count_of E k L'))
            where
              go : (count_of E k L' ≡ 0) ⊎ (1 ≤ count_of E k L') → G
              go (inl z) = occ G k M' a.1 (omega arith)
              go (inr z) = occ G k L' a.0 z

  -- at every child the two sides of the root are still a common beginning and what is left, within the same bound
  pub children_cut : (A B : Field E) (bnd : ℕ) (L M : Field E) (σ : Bindings E) (u : List Name)
      → Invariant E (problem (equation L M) σ u) → All (Known E u) A → Cut E (concat_map σ A) (concat_map σ B) bnd (equation L M)
      → All (λ c. Cut E (concat_map (bindings E c.1) A) (concat_map (bindings E c.1) B) bnd (rest E c.1)) (children E (problem (equation L M) σ u))
  children_cut A B bnd L M σ u i o c =
      all_mapped (λ c. Cut E (concat_map (bindings E c.1) A) (concat_map (bindings E c.1) B) bnd (rest E c.1))
      (λ q. (q.0, apply E σ u q.1)) (moves E L M (pick u))
      (all_map (Is E L M (pick u))
      (λ q. Cut E (concat_map (bindings E (apply E σ u q.1)) A) (concat_map (bindings E (apply E σ u q.1)) B) bnd (rest E (apply E σ u q.1)))
      (λ q e. cut_move A B L M bnd (pick u) σ u q.1 (pick_new u) (move_does E L M (pick u) q e) (subst (λ (o : Option (Move E)). Cuts E L M o) e
      (rule_cuts E q.0 L M (pick u) i.lin n_l n_m)) i o c) (moves E L M (pick u)) (moves_is E L M (pick u)))
    where
      n_l : count_of E (pick u) L ≡ 0
      n_l = count_absent E (pick u) L (all_map (Unbound E σ u) (Other E (listvar (pick u))) (λ t o. o.1 (pick u) (pick_new u)) L i.ok.0)

      n_m : count_of E (pick u) M ≡ 0
      n_m = count_absent E (pick u) M (all_map (Unbound E σ u) (Other E (listvar (pick u))) (λ t o. o.1 (pick u) (pick_new u)) M i.ok.1)

  -- and so no value of a variable of the root is longer than the bound
  pub cut_long : (A B : Field E) (bnd : ℕ) (n : Rest E) → Cut E A B bnd n → (length A ≤ bnd) × (length B ≤ bnd)
  cut_long A B bnd n c = go c.same_as
    where
      sizes : (n : Rest E) → (length (left_of E n) ≤ terms_left E n) × (length (right_of E n) ≤ terms_left E n)
      sizes solved = (omega arith, omega arith)
      sizes (equation L M) = (omega arith, omega arith)

      go : Same E A B c.pre n → (length A ≤ bnd) × (length B ≤ bnd)
      go (inl a) = (
        omega (arith, ap (λ (K : Field E). length K) a.0, length-append c.pre (left_of E n), c.few, (sizes n).0),
        omega (arith, ap (λ (K : Field E). length K) a.1, length-append c.pre (right_of E n), c.few, (sizes n).1),
      )
      go (inr a) = (
        omega (arith, ap (λ (K : Field E). length K) a.0, length-append c.pre (right_of E n), c.few, (sizes n).1),
        omega (arith, ap (λ (K : Field E). length K) a.1, length-append c.pre (left_of E n), c.few, (sizes n).0),
      )

  part_long : (σ : Bindings E) (A : Field E) (t : Tm E) → Memᴰ t A → length (σ t) ≤ length (concat_map σ A)
  part_long σ [] t i = absurd (Memᴰ.not-nil i)
  part_long σ (x ∷ A) t i = go (λ j. part_long σ A t j) (Memᴰ.cases_cons i)
    where
      go : (Memᴰ t A → length (σ t) ≤ length (concat_map σ A)) → (t ≡ x) ⊎ Memᴰ t A → length (σ t) ≤ length (σ x ++ concat_map σ A)
      go rec (inl e) = omega (arith, length-append (σ x) (concat_map σ A), ap (λ (y : Tm E). length (σ y)) e)
      go rec (inr j) = omega (arith, length-append (σ x) (concat_map σ A), rec j)

  pub value_long : (A B : Field E) (bnd : ℕ) (n : Rest E) (σ : Bindings E)
      → Cut E (concat_map σ A) (concat_map σ B) bnd n → (t : Tm E) → StandsIn E A B t → length (σ t) ≤ bnd
  value_long A B bnd n σ c t (inl i) = omega (arith, part_long σ A t i, (cut_long (concat_map σ A) (concat_map σ B) bnd n c).0)
  value_long A B bnd n σ c t (inr i) = omega (arith, part_long σ B t i, (cut_long (concat_map σ A) (concat_map σ B) bnd n c).1)

  pub root_cut : (L M : Field E) → Cut E (concat_map (bindings E (root E L M)) L) (concat_map (bindings E (root E L M)) M) (terms_in E L M) (equation L M)
  root_cut L M = record {
    pre = [];
    same_as = inl (
      concat_map_self (λ t. t ∷ []) L (all_every (λ t. t ∷ [] ≡ t ∷ []) L (λ t. refl)),
      concat_map_self (λ t. t ∷ []) M (all_every (λ t. t ∷ [] ≡ t ∷ []) M (λ t. refl)),
    );
    few = omega arith;
    away = λ k h. refl;
  }
