-- THE SET of list variables of a problem that is met is exactly "the list variables of a problem and its bindings, bound ones too" (`used_is`).
use mathlib.Core.Path.{◌≡◌, refl, sym, ◌∙◌, ap, subst}
use mathlib.Core.Logic.{◌≢◌, ◌↔◌, ◌⊎◌, inl, inr, ite}
use mathlib.Core.Bool.{Bool, true, false, cond}
use mathlib.Core.Option.{Option, none, some}
use mathlib.Core.List.Memᴰ
use mathlib.Core.List.{List, [], ◌∷◌, ◌++◌, append-nil, Memᴰ}
use Rattle.base_lists.specs.Seqs.{All, all_map, all_mem, all_mapped, mem?}
use Rattle.math_types.specs.Order.{basic, full_le}
use Rattle.math_terms.specs.Seqs.{concat_map}
use Rattle.math_overlaps.specs.Shapes.{fixed, free}
use Rattle.math_search.specs.Problems.{Setting, atomic, listvar, At, Tm, Field, at_eq, tm_eq, field_eq, kind_of, term_type, field_type, Bindings, put}
use Rattle.math_search.specs.Problems.{compose, Rest, solved, equation, Problem, problem, rest, bindings, used, names_in, root}
use Rattle.math_search.specs.Rules.{Rule, Remove, Decomp1, Decomp1', Decomp2, Decomp2', Decomp3, Decomp4, Subst1, Subst2, Subst3, Orient1, Orient2}
use Rattle.math_search.specs.Rules.{Orient3}
use Rattle.math_search.specs.Rules.{Orient4, Move, keep, bind, below, occurs, rule, bind_atom, solve_by, apply, moves, children, Met, start, step}
use Rattle.math_search.specs.Answers.{StandsIn, InRest, ListVariableOf, Linear}
use Rattle.math_search.proofs.Seqs.{all_every, all_from}
use Rattle.math_search.proofs.Terms.{listvar_once}
use Rattle.math_search.proofs.Counts.{Other, put_self, put_ne, all_put_in}
use Rattle.math_search.proofs.Effects.{AllRest, Does}
use Rattle.math_search.proofs.Invariant.{Fixed, Unbound, Invariant, old_mem}
use Rattle.math_search.proofs.Children.{Is, moves_is, move_does}
use Rattle.math_search.proofs.Tree.{Fine, met_fine, fine_known}

module _ (E : Setting) where
  open E use {order, variables, names}
  open order use {kind_eq, le}
  open variables use {Var, sort}
  open names use {Name, pick, pick_new}

  -- ---- a rule that brings in a list variable binds a list variable to a value that has it

  abbrev IsList : Tm E → Type 0
  IsList (atomic a) = ⊥
  IsList (listvar n) = Unit {0}

  abbrev Brings : Option (Move E) → Type 0
  Brings none = Unit {0}
  Brings (some (keep n)) = Unit {0}
  Brings (some (bind x s v n)) = All (λ k. IsList x × Memᴰ (listvar k) s) v

  kept_if : {Q : Type 0} (d : Dec Q) (n : Rest E) → Brings (ite d (some (keep n)) none)
  kept_if (yes e) n = tt
  kept_if (no e) n = tt

  kept_when : (b : Bool) (n : Rest E) → Brings (cond b (some (keep n)) none)
  kept_when true n = tt
  kept_when false n = tt

  atom_brings : (x : Var) (a : At E) (n : Rest E) → Brings (bind_atom E x a n)
  atom_brings x a n = go (at_eq E a (free x)) (le (kind_of E a) (sort x))
    where
      go : (d : Dec (a ≡ free x)) (b : Bool) → Brings (ite d none (cond b (some (bind (atomic (free x)) (atomic a ∷ []) [] n)) none))
      go (yes e) b = tt
      go (no e) true = tt
      go (no e) false = tt

  solve_brings : (x : Tm E) (M : Field E) → Brings (solve_by E x M)
  solve_brings x M = go (full_le order (field_type E M) (term_type E x)) (occurs E x M)
    where
      go : (a b : Bool) → Brings (cond a (cond b none (some (bind x M [] solved))) none)
      go true true = tt
      go true false = tt
      go false b = tt

  rule_brings : (r : Rule) (L M : Field E) (f : Name) → Brings (rule E r L M f)
  rule_brings Remove L M f = kept_if (field_eq E L M) solved
  rule_brings Decomp1 [] M f = tt
  rule_brings Decomp1 (atomic a ∷ L) M f = tt
  rule_brings Decomp1 (listvar x ∷ []) M f = tt
  rule_brings Decomp1 (listvar x ∷ (t ∷ L)) [] f = tt
  rule_brings Decomp1 (listvar x ∷ (t ∷ L)) (s ∷ M) f = tt
  rule_brings Decomp1' [] M f = tt
  rule_brings Decomp1' (atomic (fixed c) ∷ L) M f = tt
  rule_brings Decomp1' (atomic (free x) ∷ []) M f = tt
  rule_brings Decomp1' (atomic (free x) ∷ (t ∷ L)) [] f = tt
  rule_brings Decomp1' (atomic (free x) ∷ (t ∷ L)) (atomic a ∷ M) f = atom_brings x a _
  rule_brings Decomp1' (atomic (free x) ∷ (t ∷ L)) (listvar y ∷ M) f = tt
  rule_brings Decomp1' (listvar x ∷ L) M f = tt
  rule_brings Decomp2 [] M f = tt
  rule_brings Decomp2 (atomic a ∷ L) M f = tt
  rule_brings Decomp2 (listvar x ∷ []) M f = tt
  rule_brings Decomp2 (listvar x ∷ (t ∷ L)) [] f = tt
  rule_brings Decomp2 (listvar x ∷ (t ∷ L)) (atomic a ∷ M) f = tt
  rule_brings Decomp2 (listvar x ∷ (t ∷ L)) (listvar y ∷ M) f = ((tt, Memᴰ.tail (Memᴰ.head refl)), tt)
  rule_brings Decomp2' [] M f = tt
  rule_brings Decomp2' (atomic a ∷ L) M f = tt
  rule_brings Decomp2' (listvar x ∷ []) M f = tt
  rule_brings Decomp2' (listvar x ∷ (t ∷ L)) [] f = tt
  rule_brings Decomp2' (listvar x ∷ (t ∷ L)) (atomic a ∷ M) f = tt
  rule_brings Decomp2' (listvar x ∷ (t ∷ L)) (listvar y ∷ M) f = ((tt, Memᴰ.tail (Memᴰ.head refl)), tt)
  rule_brings Decomp3 [] M f = tt
  rule_brings Decomp3 (s ∷ L) [] f = tt
  rule_brings Decomp3 (s ∷ L) (t ∷ M) f = kept_if (tm_eq E s t) (equation L M)
  rule_brings Decomp4 [] M f = tt
  rule_brings Decomp4 (atomic (fixed c) ∷ L) M f = tt
  rule_brings Decomp4 (atomic (free x) ∷ []) [] f = tt
  rule_brings Decomp4 (atomic (free x) ∷ []) (atomic a ∷ []) f = tt
  rule_brings Decomp4 (atomic (free x) ∷ []) (atomic a ∷ (atomic b ∷ M)) f = tt
  rule_brings Decomp4 (atomic (free x) ∷ []) (atomic a ∷ (listvar y ∷ [])) f = atom_brings x a _
  rule_brings Decomp4 (atomic (free x) ∷ []) (atomic a ∷ (listvar y ∷ (t ∷ M))) f = tt
  rule_brings Decomp4 (atomic (free x) ∷ []) (listvar y ∷ M) f = tt
  rule_brings Decomp4 (atomic (free x) ∷ (t ∷ L)) M f = tt
  rule_brings Decomp4 (listvar x ∷ L) M f = tt
  rule_brings Subst1 [] M f = tt
  rule_brings Subst1 (atomic (fixed c) ∷ L) M f = tt
  rule_brings Subst1 (atomic (free x) ∷ []) M f = solve_brings (atomic (free x)) M
  rule_brings Subst1 (atomic (free x) ∷ (t ∷ L)) M f = tt
  rule_brings Subst1 (listvar x ∷ []) M f = solve_brings (listvar x) M
  rule_brings Subst1 (listvar x ∷ (t ∷ L)) M f = tt
  rule_brings Subst2 [] M f = tt
  rule_brings Subst2 (atomic a ∷ L) M f = tt
  rule_brings Subst2 (listvar x ∷ []) M f = tt
  rule_brings Subst2 (listvar x ∷ (t ∷ L)) M f = tt
  rule_brings Subst3 [] M f = tt
  rule_brings Subst3 (atomic a ∷ L) M f = tt
  rule_brings Subst3 (listvar x ∷ []) M f = tt
  rule_brings Subst3 (listvar x ∷ (t ∷ L)) [] f = tt
  rule_brings Subst3 (listvar x ∷ (t ∷ L)) (atomic a ∷ M) f = ((tt, Memᴰ.tail (Memᴰ.head refl)), tt)
  rule_brings Subst3 (listvar x ∷ (t ∷ L)) (listvar y ∷ M) f = tt
  rule_brings Orient1 [] M f = tt
  rule_brings Orient1 (atomic (fixed c) ∷ L) [] f = tt
  rule_brings Orient1 (atomic (fixed c) ∷ L) (atomic (fixed d) ∷ M) f = tt
  rule_brings Orient1 (atomic (fixed c) ∷ L) (atomic (free y) ∷ M) f = tt
  rule_brings Orient1 (atomic (fixed c) ∷ L) (listvar y ∷ M) f = tt
  rule_brings Orient1 (atomic (free x) ∷ L) M f = tt
  rule_brings Orient1 (listvar x ∷ L) M f = tt
  rule_brings Orient2 [] M f = tt
  rule_brings Orient2 (t ∷ []) M f = tt
  rule_brings Orient2 (t ∷ (u ∷ L)) [] f = tt
  rule_brings Orient2 (atomic (fixed c) ∷ (u ∷ L)) (s ∷ []) f = tt
  rule_brings Orient2 (atomic (free x) ∷ (u ∷ L)) (atomic (fixed d) ∷ []) f = tt
  rule_brings Orient2 (atomic (free x) ∷ (u ∷ L)) (atomic (free y) ∷ []) f = kept_if (kind_eq (sort x) (sort y)) _
  rule_brings Orient2 (atomic (free x) ∷ (u ∷ L)) (listvar y ∷ []) f = tt
  rule_brings Orient2 (listvar x ∷ (u ∷ L)) (atomic b ∷ []) f = tt
  rule_brings Orient2 (listvar x ∷ (u ∷ L)) (listvar y ∷ []) f = tt
  rule_brings Orient2 (t ∷ (u ∷ L)) (s ∷ (v ∷ M)) f = tt
  rule_brings Orient3 [] M f = tt
  rule_brings Orient3 (atomic (fixed c) ∷ L) M f = tt
  rule_brings Orient3 (atomic (free x) ∷ L) [] f = tt
  rule_brings Orient3 (atomic (free x) ∷ L) (atomic (fixed d) ∷ M) f = tt
  rule_brings Orient3 (atomic (free x) ∷ L) (atomic (free y) ∷ M) f = kept_when (below E (basic (sort x)) (basic (sort y)))
      (equation (atomic (free y) ∷ M) (atomic (free x) ∷ L))
  rule_brings Orient3 (atomic (free x) ∷ L) (listvar y ∷ M) f = tt
  rule_brings Orient3 (listvar x ∷ L) M f = tt
  rule_brings Orient4 [] [] f = tt
  rule_brings Orient4 [] (atomic a ∷ M) f = tt
  rule_brings Orient4 [] (listvar y ∷ M) f = tt
  rule_brings Orient4 (t ∷ L) M f = tt

  -- ---- what a value has, after one more binding

  in_put : (x y t : Tm E) (s K : Field E) → Memᴰ t K → Memᴰ y (put E x s t) → Memᴰ y (concat_map (put E x s) K)
  in_put x y t s [] i j = absurd (Memᴰ.not-nil i)
  in_put x y t s (z ∷ K) i j = go (Memᴰ.cases_cons i) (λ k. in_put x y t s K k j)
    where
      go : (t ≡ z) ⊎ Memᴰ t K → (Memᴰ t K → Memᴰ y (concat_map (put E x s) K)) → Memᴰ y (put E x s z ++ concat_map (put E x s) K)
      go (inl e) rec = Memᴰ.append_left (concat_map (put E x s) K) (subst (λ (w : Tm E). Memᴰ y (put E x s w)) e j)
      go (inr k) rec = Memᴰ.append_right (put E x s z) (rec k)

  stays_in : (x y : Tm E) (s K : Field E) → Other E x y → Memᴰ y K → Memᴰ y (concat_map (put E x s) K)
  stays_in x y s K ne i = in_put x y y s K i (subst (λ (l : Field E). Memᴰ y l) (sym (put_ne E x s y ne)) (Memᴰ.head refl))

  comes_in : (x y : Tm E) (s K : Field E) → Memᴰ x K → Memᴰ y s → Memᴰ y (concat_map (put E x s) K)
  comes_in x y s K i j = in_put x y x s K i (subst (λ (l : Field E). Memᴰ y l) (sym (put_self E x s)) j)

  names_in_lem : (n : Name) (L : Field E) → Memᴰ n (names_in E L) → Memᴰ (listvar n) L
  names_in_lem n [] i = absurd (Memᴰ.not-nil i)
  names_in_lem n (atomic a ∷ L) i = Memᴰ.tail (names_in_lem n L i)
  names_in_lem n (listvar m ∷ L) i = go (Memᴰ.cases_cons i) (λ j. names_in_lem n L j)
    where
      go : (n ≡ m) ⊎ Memᴰ n (names_in E L) → (Memᴰ n (names_in E L) → Memᴰ (listvar n) L) → Memᴰ (listvar n) (listvar m ∷ L)
      go (inl e) rec = Memᴰ.head (ap listvar e)
      go (inr j) rec = Memᴰ.tail (rec j)

  -- ---- every list variable that is used is in a value or is bound

  module _ (A B : Field E) where
    -- some value has it
    abbrev Shown : Bindings E → Name → Type 0
    Shown σ n = (t : Tm E) × StandsIn E A B t × Memᴰ (listvar n) (σ t)

    abbrev Seen : Bindings E → Tm E → Type 0
    Seen σ (atomic a) = Unit {0}
    Seen σ (listvar n) = Shown σ n

    abbrev Bound : Bindings E → Name → Type 0
    Bound σ n = σ (listvar n) ≢ listvar n ∷ []

    abbrev Comes : Problem E → Type 0
    Comes p = AllRest E (Seen (bindings E p)) (rest E p) × ((n : Name) → Memᴰ n (used E p) → Shown (bindings E p) n ⊎ Bound (bindings E p) n)

    seen_still : (σ : Bindings E) (x : Tm E) (s : Field E) (t : Tm E) → Seen σ t → Other E x t → Seen (compose E σ x s) t
    seen_still σ x s (atomic a) h ne = tt
    seen_still σ x s (listvar n) h ne = (h.0, h.1, stays_in x (listvar n) s (σ h.0) ne h.2)

    seen_new : (σ : Bindings E) (x : Tm E) (s : Field E) → IsList x → Seen σ x → (k : Name) → Memᴰ (listvar k) s → Shown (compose E σ x s) k
    seen_new σ (atomic a) s l h k j = absurd l
    seen_new σ (listvar n) s l h k j = (h.0, h.1, comes_in (listvar n) (listvar k) s (σ h.0) h.2 j)

    module _ (L M : Field E) (σ : Bindings E) (u : List Name) (i : Invariant E (problem (equation L M) σ u)) (c : Comes (problem (equation L M) σ u)) where
      stepped : (m : Move E) → Does E L M (pick u) (some m) → Brings (some m) → Comes (apply E σ u m)
      stepped (keep n) d b = (d.from (Seen σ) c.0.0 c.0.1, c.1)
      stepped (bind x s v n) d b = ((d.from i.lin (Seen (compose E σ x s)) (still L c.0.0) (still M c.0.1) new).1, used_by)
        where
          still : (K : Field E) → All (Seen σ) K → All (λ t. Other E x t → Seen (compose E σ x s) t) K
          still K h = all_map (Seen σ) (λ t. Other E x t → Seen (compose E σ x s) t) (seen_still σ x s) K h

          seen_x : Seen σ x
          seen_x = d.here (Seen σ) c.0.0 c.0.1

          open_x : Unbound E σ u x
          open_x = d.here (Unbound E σ u) i.ok.0 i.ok.1

          new : All (λ k. Shown (compose E σ x s) k) v
          new = all_map (λ k. IsList x × Memᴰ (listvar k) s) (λ k. Shown (compose E σ x s) k) (λ k h. seen_new σ x s h.0 seen_x k h.1) v b

          -- a list variable that is brought in was not used
          unused : (k : Name) → Memᴰ k v → Memᴰ k u → ⊥
          unused k j j' = pick_new u (Memᴰ.cast (sym (all_mem (λ k. k ≡ pick u) v d.new k j)) j')

          -- the value of x lacks x
          without_x : All (Other E x) s
          without_x = (d.from i.lin (Other E x) (all_every (λ t. Other E x t → Other E x t) L (λ t o. o))
              (all_every (λ t. Other E x t → Other E x t) M (λ t o. o))
              (all_from (λ k. Other E x (listvar k)) v (λ k j e. open_x.1 k (unused k j) (sym e)))).0

          now_bound : (n : Name) → listvar n ≡ x → Bound (compose E σ x s) n
          now_bound n e q = all_mem (Other E x) s without_x (listvar n) (subst (λ (l : Field E). Memᴰ (listvar n) l) value here) e
            where
              here : Memᴰ (listvar n) (compose E σ x s (listvar n))
              here = subst (λ (l : Field E). Memᴰ (listvar n) l) (sym q) (Memᴰ.head refl)

              value : compose E σ x s (listvar n) ≡ s
              value =
                  ap (λ (t : Tm E). compose E σ x s t) e ∙ ap (λ (K : Field E). concat_map (put E x s) K) open_x.0 ∙ append-nil (put E x s x)
                  ∙ put_self E x s

          still_bound : (n : Name) → Memᴰ n u → Bound σ n → Bound (compose E σ x s) n
          still_bound n j h q = all_mem (Other E (listvar n)) (compose E σ x s (listvar n)) lacks (listvar n)
              (subst (λ (l : Field E). Memᴰ (listvar n) l) (sym q) (Memᴰ.head refl)) refl
            where
              open_not : (K : Field E) → All (Unbound E σ u) K → All (λ t. Other E x t → Other E (listvar n) t) K
              open_not K k = all_map (Unbound E σ u) (λ t. Other E x t → Other E (listvar n) t) (λ t o ne e. h (subst (Fixed E σ) e o.0)) K k

              in_s : All (Other E (listvar n)) s
              in_s = (d.from i.lin (Other E (listvar n)) (open_not L i.ok.0) (open_not M i.ok.1)
                  (all_from (λ k. Other E (listvar n) (listvar k)) v (λ k y e. unused k y (Memᴰ.cast (listvar_once e) j)))).0

              lacks : All (Other E (listvar n)) (compose E σ x s (listvar n))
              lacks = all_put_in E (Other E (listvar n)) x s in_s (σ (listvar n)) (open_not (σ (listvar n)) (i.vals (listvar n) (old_mem E u n j)))

          used_by : (n : Name) → Memᴰ n (v ++ u) → Shown (compose E σ x s) n ⊎ Bound (compose E σ x s) n
          used_by n j = go (Memᴰ.append_cases v j)
            where
              by : Memᴰ n u → Dec (listvar n ≡ x) → Shown σ n ⊎ Bound σ n → Shown (compose E σ x s) n ⊎ Bound (compose E σ x s) n
              by k (yes e) h = inr (now_bound n e)
              by k (no ne) (inl h) = inl (seen_still σ x s (listvar n) h ne)
              by k (no ne) (inr h) = inr (still_bound n k h)

              go : Memᴰ n v ⊎ Memᴰ n u → Shown (compose E σ x s) n ⊎ Bound (compose E σ x s) n
              go (inl k) = inl (all_mem (λ k. Shown (compose E σ x s) k) v new n k)
              go (inr k) = by k (tm_eq E (listvar n) x) (c.1 n k)

      child_comes : All (λ c. Comes c.1) (children E (problem (equation L M) σ u))
      child_comes = all_mapped (λ c. Comes c.1) (λ q. (q.0, apply E σ u q.1)) (moves E L M (pick u))
          (all_map (Is E L M (pick u)) (λ q. Comes (apply E σ u q.1))
          (λ q e. stepped q.1 (move_does E L M (pick u) q e) (subst Brings e (rule_brings q.0 L M (pick u)))) (moves E L M (pick u))
          (moves_is E L M (pick u)))

    root_comes : Comes (root E A B)
    root_comes = ((stands A (λ t i. inl i), stands B (λ t i. inr i)), λ n j. inl (go n (Memᴰ.append_cases (names_in E A) j)))
      where
        itself : (t : Tm E) → StandsIn E A B t → Seen (λ t. t ∷ []) t
        itself (atomic a) h = tt
        itself (listvar n) h = (listvar n, h, Memᴰ.head refl)

        stands : (K : Field E) → ((t : Tm E) → Memᴰ t K → StandsIn E A B t) → All (Seen (λ t. t ∷ [])) K
        stands K h = all_from (Seen (λ t. t ∷ [])) K (λ t i. itself t (h t i))

        go : (n : Name) → Memᴰ n (names_in E A) ⊎ Memᴰ n (names_in E B) → Shown (λ t. t ∷ []) n
        go n (inl i) = itself (listvar n) (inl (names_in_lem n A i))
        go n (inr i) = itself (listvar n) (inr (names_in_lem n B i))

    module _ (linear : Linear E A B) where
      comes : (p : Problem E) → Met E A B p → Comes p
      comes p start = root_comes
      comes p (step {p = q} m c i) = child_of_lem q (met_fine E A B linear q m).inv (comes q m) c i
        where
          child_of_lem : (q : Problem E) → Invariant E q → Comes q → (c : Rule × Problem E) → Memᴰ c (children E q) → Comes c.1
          child_of_lem (problem solved σ u) inv h c i = absurd (Memᴰ.not-nil i)
          child_of_lem (problem (equation L M) σ u) inv h c i = all_mem (λ c. Comes c.1) (children E (problem (equation L M) σ u))
              (child_comes L M σ u inv h) c i

      -- THE SET: a list variable is in it exactly when the problem or its bindings have it
      pub used_is : (p : Problem E) → Met E A B p → (n : Name) → Memᴰ n (used E p) ↔ ListVariableOf E A B p n
      used_is (problem e σ u) m n = (λ i. to ((comes (problem e σ u) m).1 n i), λ h. from h (mem? E.names.name_eq n u))
        where
          fine : Fine E A B (problem e σ u)
          fine = met_fine E A B linear (problem e σ u) m

          to : Shown σ n ⊎ Bound σ n → ListVariableOf E A B (problem e σ u) n
          to (inl h) = inr (inr h)
          to (inr h) = inr (inl h)

          -- an unused list variable stands nowhere among terms that are neither bound nor unused
          nowhere : (K : Field E) → All (Unbound E σ u) K → Memᴰ (listvar n) K → (Memᴰ n u → ⊥) → ⊥
          nowhere K h i ne = (all_mem (Unbound E σ u) K h (listvar n) i).1 n ne refl

          left_over : (e : Rest E) → AllRest E (Unbound E σ u) e → InRest E e n → (Memᴰ n u → ⊥) → ⊥
          left_over solved h i ne = i
          left_over (equation L M) h (inl i) ne = nowhere L h.0 i ne
          left_over (equation L M) h (inr i) ne = nowhere M h.1 i ne

          from : ListVariableOf E A B (problem e σ u) n → Dec (Memᴰ n u) → Memᴰ n u
          from h (yes i) = i
          from (inl i) (no ne) = absurd (left_over e fine.inv.ok i ne)
          from (inr (inl b)) (no ne) = absurd (b (fine.inv.alone n ne))
          from (inr (inr s)) (no ne) = absurd (nowhere (σ s.0) (fine.inv.vals s.0 (fine_known E A B (problem e σ u) fine s.0 s.1)) s.2 ne)
