-- How long a value gets. The two sides of the equation, filled by the bindings, are a common beginning and what is left; here for each rule.
use mathlib.Core.Path.{◌≡◌, refl, sym, ◌∙◌, ap, ap₂, subst}
use mathlib.Core.Logic.{◌⊎◌, inl, inr, ite}
use mathlib.Core.Bool.{Bool, true, false, cond}
use mathlib.Core.Option.{Option, none, some}
use mathlib.Core.List.{[], ◌∷◌, ◌++◌, append-nil}
use Prim.Native.Nat.{ℕ, ◌+◌, ◌≤◌}
use native.Mathlib.Omega.{arith}
use lib.ListN.{length}
use Rattle.base_lists.specs.Seqs.{All, all_map}
use Rattle.math_types.specs.Order.{basic, list, full_le}
use Rattle.math_terms.specs.Seqs.{concat_map}
use Rattle.math_overlaps.specs.Shapes.{fixed, free}
use Rattle.math_search.specs.Problems.{Setting, atomic, listvar, At, Tm, Field, at_eq, tm_eq, field_eq, kind_of, field_type, put, Rest, solved}
use Rattle.math_search.specs.Problems.{equation}
use Rattle.math_search.specs.Rules.{Rule, Remove, Decomp1, Decomp1', Decomp2, Decomp2', Decomp3, Decomp4, Subst1, Subst2, Subst3, Orient1, Orient2}
use Rattle.math_search.specs.Rules.{Orient3}
use Rattle.math_search.specs.Rules.{Orient4, below, occurs, Move, keep, bind, remove, decomp1, bind_atom, decomp1', decomp2, decomp2', decomp3, decomp4}
use Rattle.math_search.specs.Rules.{subst1, subst2, subst3, orient1, orient2, orient3, orient4, rule}
use Rattle.math_search.specs.Queue.{terms_in}
use Rattle.math_search.specs.Answers.{is_name, count_of, Linear}
use Rattle.math_search.proofs.Seqs.{concat_map_self}
use Rattle.math_search.proofs.Terms.{atomic_once}
use Rattle.math_search.proofs.Counts.{same_self, Other, put_self, put_ne, put_length, absent, not_occurs}
use Rattle.math_search.proofs.Effects.{terms_left}
use Rattle.math_search.proofs.Kept.{lin_swap}
use Rattle.math_search.proofs.Bound.{rest_left, rest_right, rest_both}

module _ (E : Setting) where
  open E use {order, variables, names}
  open order use {kind_eq, le}
  open variables use {Var, sort}
  open names use {Name, name_eq}

  abbrev pub left_of : Rest E → Field E
  left_of solved = []
  left_of (equation L M) = L

  abbrev pub right_of : Rest E → Field E
  right_of solved = []
  right_of (equation L M) = M

  -- A and B are the beginning P, and behind it what is left
  abbrev pub Same : Field E → Field E → Field E → Rest E → Type 0
  Same A B P n = ((A ≡ P ++ left_of n) × (B ≡ P ++ right_of n)) ⊎ ((A ≡ P ++ right_of n) × (B ≡ P ++ left_of n))

  -- with at most `bnd` terms in all, and none of the list variables left in the beginning
  pub record Cut (A B : Field E) (bnd : ℕ) (n : Rest E) : Type 0 where
    pub pre : Field E
    pub same_as : Same A B pre n
    pub few : length pre + terms_left E n ≤ bnd
    pub away : (k : Name) → 1 ≤ count_of E k (left_of n) + count_of E k (right_of n) → count_of E k pre ≡ 0

  -- so it is behind each move, the binding put in
  abbrev pub Cuts : Field E → Field E → Option (Move E) → Type 0
  Cuts L M none = Unit {0}
  Cuts L M (some (keep n)) = Cut L M (terms_in E L M) n
  Cuts L M (some (bind x s v n)) = Cut (concat_map (put E x s) L) (concat_map (put E x s) M) (terms_in E L M) n

  put_away : (x : Tm E) (s K : Field E) → All (Other E x) K → concat_map (put E x s) K ≡ K
  put_away x s K h = concat_map_self (put E x s) K (all_map (Other E x) (λ t. put E x s t ≡ t ∷ []) (put_ne E x s) K h)

  pub put_away_name : (k : Name) (s K : Field E) → count_of E k K ≡ 0 → concat_map (put E (listvar k) s) K ≡ K
  put_away_name k s K h = put_away (listvar k) s K (absent E k K h)

  put_head : (x : Tm E) (s K K' : Field E) → concat_map (put E x s) K ≡ K' → concat_map (put E x s) (x ∷ K) ≡ s ++ K'
  put_head x s K K' h = ap₂ (λ (a b : Field E). a ++ b) (put_self E x s) h

  remove_cuts : (L M : Field E) → Cuts L M (remove E L M)
  remove_cuts L M = go (field_eq E L M)
    where
      go : (d : Dec (L ≡ M)) → Cuts L M (ite d (some (keep solved)) none)
      go (yes e) = record { pre = L; same_as = inl (sym (append-nil L), sym e ∙ sym (append-nil L)); few = omega arith; away = λ k h. absurd (omega arith) }
      go (no n) = tt

  twice : (s : Tm E) (L M : Field E) → Linear E (s ∷ L) (s ∷ M) → (k : Name) → count_of E k (s ∷ []) ≡ 0
  twice (atomic a) L M l k = refl
  twice (listvar j) L M l k = absurd (omega (arith, l.once j, same_self E j))

  decomp3_cuts : (L M : Field E) → Linear E L M → Cuts L M (decomp3 E L M)
  decomp3_cuts [] M l = tt
  decomp3_cuts (s ∷ L) [] l = tt
  decomp3_cuts (s ∷ L) (t ∷ M) l = go (tm_eq E s t)
    where
      go : (d : Dec (s ≡ t)) → Cuts (s ∷ L) (t ∷ M) (ite d (some (keep (equation L M))) none)
      go (yes e) = record {
        pre = s ∷ [];
        same_as = inl (refl, ap (λ (u : Tm E). u ∷ M) (sym e));
        few = omega arith;
        away = λ k h. twice s L M (subst (λ (u : Tm E). Linear E (s ∷ L) (u ∷ M)) (sym e) l) k;
      }
      go (no n) = tt

  swap_cuts : (L M : Field E) → Cut L M (terms_in E L M) (equation M L)
  swap_cuts L M = record { pre = []; same_as = inr (refl, refl); few = omega arith; away = λ k h. refl }

  maybe_swap : (L M : Field E) (b : Bool) → Cuts L M (cond b (some (keep (equation M L))) none)
  maybe_swap L M true = swap_cuts L M
  maybe_swap L M false = tt

  swap_if : {Q : Type 0} (L M : Field E) (d : Dec Q) → Cuts L M (ite d (some (keep (equation M L))) none)
  swap_if L M (yes e) = swap_cuts L M
  swap_if L M (no n) = tt

  orient1_cuts : (L M : Field E) → Cuts L M (orient1 E L M)
  orient1_cuts [] M = tt
  orient1_cuts (atomic (fixed c) ∷ L) [] = tt
  orient1_cuts (atomic (fixed c) ∷ L) (atomic (fixed d) ∷ M) = tt
  orient1_cuts (atomic (fixed c) ∷ L) (atomic (free y) ∷ M) = swap_cuts (atomic (fixed c) ∷ L) (atomic (free y) ∷ M)
  orient1_cuts (atomic (fixed c) ∷ L) (listvar y ∷ M) = swap_cuts (atomic (fixed c) ∷ L) (listvar y ∷ M)
  orient1_cuts (atomic (free x) ∷ L) M = tt
  orient1_cuts (listvar x ∷ L) M = tt

  orient2_cuts : (L M : Field E) → Cuts L M (orient2 E L M)
  orient2_cuts [] M = tt
  orient2_cuts (t ∷ []) M = tt
  orient2_cuts (t ∷ (u ∷ L)) [] = tt
  orient2_cuts (atomic (fixed c) ∷ (u ∷ L)) (s ∷ []) = tt
  orient2_cuts (atomic (free x) ∷ (u ∷ L)) (atomic (fixed d) ∷ []) = tt
  orient2_cuts (atomic (free x) ∷ (u ∷ L)) (atomic (free y) ∷ []) = swap_if (atomic (free x) ∷ (u ∷ L)) (atomic (free y) ∷ []) (kind_eq (sort x) (sort y))
  orient2_cuts (atomic (free x) ∷ (u ∷ L)) (listvar y ∷ []) = tt
  orient2_cuts (listvar x ∷ (u ∷ L)) (atomic b ∷ []) = tt
  orient2_cuts (listvar x ∷ (u ∷ L)) (listvar y ∷ []) = swap_cuts (listvar x ∷ (u ∷ L)) (listvar y ∷ [])
  orient2_cuts (t ∷ (u ∷ L)) (s ∷ (v ∷ M)) = tt

  orient3_cuts : (L M : Field E) → Cuts L M (orient3 E L M)
  orient3_cuts [] M = tt
  orient3_cuts (atomic (fixed c) ∷ L) M = tt
  orient3_cuts (atomic (free x) ∷ L) [] = tt
  orient3_cuts (atomic (free x) ∷ L) (atomic (fixed d) ∷ M) = tt
  orient3_cuts (atomic (free x) ∷ L) (atomic (free y) ∷ M) = maybe_swap (atomic (free x) ∷ L) (atomic (free y) ∷ M) (below E (basic (sort x)) (basic (sort y)))
  orient3_cuts (atomic (free x) ∷ L) (listvar y ∷ M) = swap_cuts (atomic (free x) ∷ L) (listvar y ∷ M)
  orient3_cuts (listvar x ∷ L) M = tt

  orient4_cuts : (L M : Field E) → Cuts L M (orient4 E L M)
  orient4_cuts [] [] = tt
  orient4_cuts [] (atomic a ∷ M) = tt
  orient4_cuts [] (listvar y ∷ M) = swap_cuts [] (listvar y ∷ M)
  orient4_cuts (t ∷ L) M = tt

  decomp1_cuts : (L M : Field E) → Linear E L M → Cuts L M (decomp1 E L M)
  decomp1_cuts [] M l = tt
  decomp1_cuts (atomic a ∷ L) M l = tt
  decomp1_cuts (listvar x ∷ []) M l = tt
  decomp1_cuts (listvar x ∷ (t ∷ L)) [] l = tt
  decomp1_cuts (listvar x ∷ (t ∷ L)) (s ∷ M) l = record {
    pre = s ∷ [];
    same_as = inl (
      put_head (listvar x) (s ∷ []) (t ∷ L) (t ∷ L) (put_away_name x (s ∷ []) (t ∷ L) (rest_left E x (t ∷ L) (s ∷ M) l x)),
      put_away_name x (s ∷ []) (s ∷ M) (rest_right E x (t ∷ L) (s ∷ M) l),
    );
    few = omega arith;
    away = far s l;
  }
    where
      far : (s : Tm E) → Linear E (listvar x ∷ (t ∷ L)) (s ∷ M) → (k : Name) → 1 ≤ count_of E k (t ∷ L) + count_of E k M → count_of E k (s ∷ []) ≡ 0
      far (atomic a) l k h = refl
      far (listvar y) l k h = absurd (omega (arith, rest_left E x (t ∷ L) (listvar y ∷ M) l k, rest_both E x y (t ∷ L) M l k))

  subst2_cuts : (L M : Field E) → Linear E L M → Cuts L M (subst2 E L M)
  subst2_cuts [] M l = tt
  subst2_cuts (atomic a ∷ L) M l = tt
  subst2_cuts (listvar x ∷ []) M l = tt
  subst2_cuts (listvar x ∷ (t ∷ L)) M l = record {
    pre = [];
    same_as = inl (
      put_head (listvar x) [] (t ∷ L) (t ∷ L) (put_away_name x [] (t ∷ L) (rest_left E x (t ∷ L) M l x)),
      put_away_name x [] M (rest_right E x (t ∷ L) M l),
    );
    few = omega arith;
    away = λ k h. refl;
  }

  subst3_cuts : (L M : Field E) (f : Name) → Linear E L M → Cuts L M (subst3 E L M f)
  subst3_cuts [] M f l = tt
  subst3_cuts (atomic a ∷ L) M f l = tt
  subst3_cuts (listvar x ∷ []) M f l = tt
  subst3_cuts (listvar x ∷ (t ∷ L)) [] f l = tt
  subst3_cuts (listvar x ∷ (t ∷ L)) (atomic a ∷ M) f l = record {
    pre = atomic a ∷ [];
    same_as = inl (
      put_head (listvar x) (atomic a ∷ (listvar f ∷ [])) (t ∷ L) (t ∷ L)
          (put_away_name x (atomic a ∷ (listvar f ∷ [])) (t ∷ L) (rest_left E x (t ∷ L) (atomic a ∷ M) l x)),
      put_away_name x (atomic a ∷ (listvar f ∷ [])) (atomic a ∷ M) (rest_right E x (t ∷ L) (atomic a ∷ M) l),
    );
    few = omega arith;
    away = λ k h. refl;
  }
  subst3_cuts (listvar x ∷ (t ∷ L)) (listvar y ∷ M) f l = tt

  -- a fresh name is not another
  far_fresh : (f y : Name) (K : Field E) → count_of E f (listvar y ∷ K) ≡ 0 → (k : Name) → 1 ≤ is_name E k f → is_name E k y + 0 ≡ 0
  far_fresh f y K q k h = go (name_eq f k) h
    where
      go : (d : Dec (f ≡ k)) → 1 ≤ ite d 1 0 → is_name E k y + 0 ≡ 0
      go (yes e) h = let z : count_of E k (listvar y ∷ K) ≡ 0 = ap (λ (j : Name). count_of E j (listvar y ∷ K)) (sym e) ∙ q in omega arith
      go (no n) h = absurd (omega arith)

  decomp2_cuts : (L M : Field E) (f : Name) → Linear E L M → count_of E f M ≡ 0 → Cuts L M (decomp2 E L M f)
  decomp2_cuts [] M f l q = tt
  decomp2_cuts (atomic a ∷ L) M f l q = tt
  decomp2_cuts (listvar x ∷ []) M f l q = tt
  decomp2_cuts (listvar x ∷ (t ∷ L)) [] f l q = tt
  decomp2_cuts (listvar x ∷ (t ∷ L)) (atomic a ∷ M) f l q = tt
  decomp2_cuts (listvar x ∷ (t ∷ L)) (listvar y ∷ M) f l q = record {
    pre = listvar y ∷ [];
    same_as = inl (
      put_head (listvar x) (listvar y ∷ (listvar f ∷ [])) (t ∷ L) (t ∷ L)
          (put_away_name x (listvar y ∷ (listvar f ∷ [])) (t ∷ L) (rest_left E x (t ∷ L) (listvar y ∷ M) l x)),
      put_away_name x (listvar y ∷ (listvar f ∷ [])) (listvar y ∷ M) (rest_right E x (t ∷ L) (listvar y ∷ M) l),
    );
    few = omega arith;
    away = λ k h. far_fresh f y M q k (omega (arith, rest_left E x (t ∷ L) (listvar y ∷ M) l k, rest_both E x y (t ∷ L) M l k));
  }

  decomp2'_cuts : (L M : Field E) (f : Name) → Linear E L M → count_of E f L ≡ 0 → Cuts L M (decomp2' E L M f)
  decomp2'_cuts [] M f l p = tt
  decomp2'_cuts (atomic a ∷ L) M f l p = tt
  decomp2'_cuts (listvar x ∷ []) M f l p = tt
  decomp2'_cuts (listvar x ∷ (t ∷ L)) [] f l p = tt
  decomp2'_cuts (listvar x ∷ (t ∷ L)) (atomic a ∷ M) f l p = tt
  decomp2'_cuts (listvar x ∷ (t ∷ L)) (listvar y ∷ M) f l p = record {
    pre = listvar x ∷ [];
    same_as = inl (
      put_away_name y (listvar x ∷ (listvar f ∷ [])) (listvar x ∷ (t ∷ L))
          (rest_right E y M (listvar x ∷ (t ∷ L)) (lin_swap E (listvar x ∷ (t ∷ L)) (listvar y ∷ M) l)),
      put_head (listvar y) (listvar x ∷ (listvar f ∷ [])) M M (put_away_name y (listvar x ∷ (listvar f ∷ [])) M (rest_both E x y (t ∷ L) M l y)),
    );
    few = omega arith;
    away = λ k h. far_fresh f x (t ∷ L) p k (omega (arith, rest_left E x (t ∷ L) (listvar y ∷ M) l k, rest_both E x y (t ∷ L) M l k));
  }

  bind_atom_cuts : (L M : Field E) (x : Var) (a : At E) (n : Rest E)
      → ((a ≡ free x → ⊥)
      → Cut (concat_map (put E (atomic (free x)) (atomic a ∷ [])) L) (concat_map (put E (atomic (free x)) (atomic a ∷ [])) M) (terms_in E L M) n)
      → Cuts L M (bind_atom E x a n)
  bind_atom_cuts L M x a n k = go (at_eq E a (free x))
    where
      go₂ : (a ≡ free x → ⊥) → (b : Bool) → Cuts L M (cond b (some (bind (atomic (free x)) (atomic a ∷ []) [] n)) none)
      go₂ d true = k d
      go₂ d false = tt

      go : (d : Dec (a ≡ free x)) → Cuts L M (ite d none (cond (le (kind_of E a) (sort x)) (some (bind (atomic (free x)) (atomic a ∷ []) [] n)) none))
      go (yes e) = tt
      go (no d) = go₂ d (le (kind_of E a) (sort x))

  decomp1'_cuts : (L M : Field E) → Cuts L M (decomp1' E L M)
  decomp1'_cuts [] M = tt
  decomp1'_cuts (atomic (fixed c) ∷ L) M = tt
  decomp1'_cuts (atomic (free x) ∷ []) M = tt
  decomp1'_cuts (atomic (free x) ∷ (t ∷ L)) [] = tt
  decomp1'_cuts (atomic (free x) ∷ (t ∷ L)) (atomic a ∷ M) =
      bind_atom_cuts (atomic (free x) ∷ (t ∷ L)) (atomic a ∷ M) x a
      (equation (concat_map (put E (atomic (free x)) (atomic a ∷ [])) (t ∷ L)) (concat_map (put E (atomic (free x)) (atomic a ∷ [])) M)) (λ d. record {
        pre = atomic a ∷ [];
        same_as = inl (
          put_head (atomic (free x)) (atomic a ∷ []) (t ∷ L) (concat_map (put E (atomic (free x)) (atomic a ∷ [])) (t ∷ L)) refl,
          ap (λ (K : Field E). K ++ concat_map (put E (atomic (free x)) (atomic a ∷ [])) M)
              (put_ne E (atomic (free x)) (atomic a ∷ []) (atomic a) (λ p. d (atomic_once p))),
        );
        few = omega (arith, put_length E (free x) a (t ∷ L), put_length E (free x) a M);
        away = λ k h. refl;
      })
  decomp1'_cuts (atomic (free x) ∷ (t ∷ L)) (listvar y ∷ M) = tt
  decomp1'_cuts (listvar x ∷ L) M = tt

  decomp4_cuts : (L M : Field E) → Cuts L M (decomp4 E L M)
  decomp4_cuts [] M = tt
  decomp4_cuts (atomic (fixed c) ∷ L) M = tt
  decomp4_cuts (atomic (free x) ∷ []) [] = tt
  decomp4_cuts (atomic (free x) ∷ []) (atomic a ∷ []) = tt
  decomp4_cuts (atomic (free x) ∷ []) (atomic a ∷ (atomic b ∷ M)) = tt
  decomp4_cuts (atomic (free x) ∷ []) (atomic a ∷ (listvar y ∷ [])) =
      bind_atom_cuts (atomic (free x) ∷ []) (atomic a ∷ (listvar y ∷ [])) x a (equation [] (listvar y ∷ [])) (λ d. record {
        pre = atomic a ∷ [];
        same_as = inl (
          put_head (atomic (free x)) (atomic a ∷ []) [] [] refl,
          ap (λ (K : Field E). K ++ (listvar y ∷ [])) (put_ne E (atomic (free x)) (atomic a ∷ []) (atomic a) (λ p. d (atomic_once p))),
        );
        few = omega arith;
        away = λ k h. refl;
      })
  decomp4_cuts (atomic (free x) ∷ []) (atomic a ∷ (listvar y ∷ (t ∷ M))) = tt
  decomp4_cuts (atomic (free x) ∷ []) (listvar y ∷ M) = tt
  decomp4_cuts (atomic (free x) ∷ (t ∷ L)) M = tt
  decomp4_cuts (listvar x ∷ L) M = tt

  solve_cuts : (x : Tm E) (M : Field E) (b : Bool) → Cuts (x ∷ []) M (cond b (cond (occurs E x M) none (some (bind x M [] solved))) none)
  solve_cuts x M false = tt
  solve_cuts x M true = go (occurs E x M) refl
    where
      go : (b : Bool) → occurs E x M ≡ b → Cuts (x ∷ []) M (cond b none (some (bind x M [] solved)))
      go true h = tt
      go false h = record {
        pre = M;
        same_as = inl (put_head x M [] [] refl, put_away x M M (not_occurs E x M h) ∙ sym (append-nil M));
        few = omega arith;
        away = λ k g. absurd (omega arith);
      }

  subst1_cuts : (L M : Field E) → Cuts L M (subst1 E L M)
  subst1_cuts [] M = tt
  subst1_cuts (atomic (fixed c) ∷ L) M = tt
  subst1_cuts (atomic (free x) ∷ []) M = solve_cuts (atomic (free x)) M (full_le order (field_type E M) (basic (sort x)))
  subst1_cuts (atomic (free x) ∷ (t ∷ L)) M = tt
  subst1_cuts (listvar x ∷ []) M = solve_cuts (listvar x) M (full_le order (field_type E M) list)
  subst1_cuts (listvar x ∷ (t ∷ L)) M = tt

  pub rule_cuts : (r : Rule) (L M : Field E) (f : Name) → Linear E L M → count_of E f L ≡ 0 → count_of E f M ≡ 0 → Cuts L M (rule E r L M f)
  rule_cuts Remove L M f l p q = remove_cuts L M
  rule_cuts Decomp1 L M f l p q = decomp1_cuts L M l
  rule_cuts Decomp1' L M f l p q = decomp1'_cuts L M
  rule_cuts Decomp2 L M f l p q = decomp2_cuts L M f l q
  rule_cuts Decomp2' L M f l p q = decomp2'_cuts L M f l p
  rule_cuts Decomp3 L M f l p q = decomp3_cuts L M l
  rule_cuts Decomp4 L M f l p q = decomp4_cuts L M
  rule_cuts Subst1 L M f l p q = subst1_cuts L M
  rule_cuts Subst2 L M f l p q = subst2_cuts L M l
  rule_cuts Subst3 L M f l p q = subst3_cuts L M f l
  rule_cuts Orient1 L M f l p q = orient1_cuts L M
  rule_cuts Orient2 L M f l p q = orient2_cuts L M
  rule_cuts Orient3 L M f l p q = orient3_cuts L M
  rule_cuts Orient4 L M f l p q = orient4_cuts L M
