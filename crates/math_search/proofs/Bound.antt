-- The rules that bind a variable; then every rule.
use mathlib.Core.Path.{◌≡◌, refl, sym, ◌∙◌, ap, ap₂}
use mathlib.Core.Logic.{ite, if_pos}
use mathlib.Core.Bool.{Bool, true, false, cond}
use mathlib.Core.Option.{none, some}
use mathlib.Core.List.{List, [], ◌∷◌, ◌++◌, append-nil, append_assoc, append_cancel_left}
use Prim.Native.Nat.{◌≤◌}
use native.Mathlib.Omega.{arith}
use Rattle.math_terms.specs.Seqs.{concat_map}
use Rattle.math_overlaps.specs.Shapes.{fixed, free}
use Rattle.math_search.specs.Problems.{Setting, atomic, listvar, At, Tm, Field, at_eq, kind_of, put, Rest, solved, equation}
use Rattle.math_search.specs.Rules.{Rule, Remove, Decomp1, Decomp1', Decomp2, Decomp2', Decomp3, Decomp4, Subst1, Subst2, Subst3, Orient1, Orient2}
use Rattle.math_search.specs.Rules.{Orient3}
use Rattle.math_search.specs.Rules.{Orient4, occurs, bind, decomp1, bind_atom, decomp1', decomp2, decomp2', decomp4, subst1, subst2, subst3, rule}
use Rattle.math_search.specs.Answers.{listvars, is_name, count_of, Linear, Fits}
use Rattle.math_search.proofs.Seqs.{all_both}
use Rattle.math_search.proofs.Terms.{atomic_once, listvar_once, atomic≢listvar}
use Rattle.math_search.proofs.Counts.{same_le, same_self, count_le, same_count, Other, put_fill_all, all_put_in, put_length, put_lists, put_count}
use Rattle.math_search.proofs.Counts.{not_occurs, without, count_cons, lists_cons}
use Rattle.math_search.proofs.Effects.{Bind, Does, fewer}
use Rattle.math_search.proofs.Kept.{remove_does, decomp3_does, lin_swap, orient1_does, orient2_does, orient3_does, orient4_does}

module _ (E : Setting) where
  open E use {order, variables, names}
  open order use {le}
  open variables use {Var, sort}
  open names use {Name, name_eq}

  lin_no : (L : Field E) → listvars E L ≤ 0 → (n : Name) → count_of E n L ≡ 0
  lin_no L h n = omega (arith, count_le E n L)

  -- x : L = .. with x a list variable: x stands nowhere else
  pub rest_left : (x : Name) (L M : Field E) → Linear E (listvar x ∷ L) M → (n : Name) → count_of E n L ≡ 0
  rest_left x L M l n = lin_no L (omega (arith, l.left)) n

  pub rest_right : (x : Name) (L M : Field E) → Linear E (listvar x ∷ L) M → count_of E x M ≡ 0
  rest_right x L M l = omega (arith, l.once x, same_self E x)

  -- both heads are list variables
  pub rest_both : (x y : Name) (L M : Field E) → Linear E (listvar x ∷ L) (listvar y ∷ M) → (n : Name) → count_of E n M ≡ 0
  rest_both x y L M l n = lin_no M (omega (arith, l.right)) n

  pub heads_differ : (x y : Name) (L M : Field E) → Linear E (listvar x ∷ L) (listvar y ∷ M) → ◌≡◌ {A = Tm E} (listvar y) (listvar x) → ⊥
  heads_differ x y L M l e = let q : is_name E x y ≡ 1 = if_pos (name_eq y x) (listvar_once e) 1 0 in omega (arith, l.once x, same_self E x)

  decomp1_does : (L M : Field E) (f : Name) → Does E L M f (decomp1 E L M)
  decomp1_does [] M f = tt
  decomp1_does (atomic a ∷ L) M f = tt
  decomp1_does (listvar x ∷ []) M f = tt
  decomp1_does (listvar x ∷ (t ∷ L)) [] f = tt
  decomp1_does (listvar x ∷ (t ∷ L)) (s ∷ M) f = record {
    eqv = λ {B} θ h. (
      λ e. append_cancel_left (θ s) (concat_map θ (t ∷ L)) (concat_map θ M) (ap (λ (k : List B). k ++ concat_map θ (t ∷ L)) (sym (h ∙ append-nil (θ s))) ∙ e),
      λ e. ap₂ (λ (k l : List B). k ++ l) (h ∙ append-nil (θ s)) e,
    );
    here = λ P h k. h.0;
    from = λ l P h k v.
        let r = without E P x (s ∷ M) (rest_right x (t ∷ L) (s ∷ M) l) k in
        ((r.0, tt), (without E P x (t ∷ L) (rest_left x (t ∷ L) (s ∷ M) l x) h.1, r.1));
    new = tt;
    fits = tt;
    lin = λ l p q.
        record { left = omega (arith, l.left); right = omega (arith, l.right, lists_cons E s M); once = λ n. omega (arith, l.once n, count_cons E n s M) };
    falls = fewer E (listvar x ∷ (t ∷ L)) (s ∷ M) (t ∷ L) M (omega arith);
    room = omega arith;
  }

  subst2_does : (L M : Field E) (f : Name) → Does E L M f (subst2 E L M)
  subst2_does [] M f = tt
  subst2_does (atomic a ∷ L) M f = tt
  subst2_does (listvar x ∷ []) M f = tt
  subst2_does (listvar x ∷ (t ∷ L)) M f = record {
    eqv = λ {B} θ h. (λ e. ap (λ (k : List B). k ++ concat_map θ (t ∷ L)) (sym h) ∙ e, λ e. ap (λ (k : List B). k ++ concat_map θ (t ∷ L)) h ∙ e);
    here = λ P h k. h.0;
    from = λ l P h k v. (tt, (without E P x (t ∷ L) (rest_left x (t ∷ L) M l x) h.1, without E P x M (rest_right x (t ∷ L) M l) k));
    new = tt;
    fits = tt;
    lin = λ l p q. record { left = omega (arith, l.left); right = l.right; once = λ n. omega (arith, l.once n) };
    falls = fewer E (listvar x ∷ (t ∷ L)) M (t ∷ L) M (omega arith);
    room = omega arith;
  }

  -- x ↦ s : f, for a head s of the right side
  subst3_does : (L M : Field E) (f : Name) → Does E L M f (subst3 E L M f)
  subst3_does [] M f = tt
  subst3_does (atomic a ∷ L) M f = tt
  subst3_does (listvar x ∷ []) M f = tt
  subst3_does (listvar x ∷ (t ∷ L)) [] f = tt
  subst3_does (listvar x ∷ (t ∷ L)) (atomic a ∷ M) f = record {
    eqv = λ {B} θ h. (
      λ e. append_cancel_left (θ (atomic a)) (θ (listvar f) ++ concat_map θ (t ∷ L)) (concat_map θ M) (sym (grow B θ h) ∙ e),
      λ e. grow B θ h ∙ ap (λ (k : List B). θ (atomic a) ++ k) e,
    );
    here = λ P h k. h.0;
    from = λ l P h k v. let r = without E P x (atomic a ∷ M) (rest_right x (t ∷ L) (atomic a ∷ M) l) k in
        ((r.0, (v.0, tt)), ((v.0, without E P x (t ∷ L) (rest_left x (t ∷ L) (atomic a ∷ M) l x) h.1), r.1));
    new = (refl, tt);
    fits = tt;
    lin = λ l p q. record {
      left = omega (arith, l.left);
      right = l.right;
      once = λ n. omega (arith, same_count E f M l.right q n, rest_left x (t ∷ L) (atomic a ∷ M) l n);
    };
    falls = fewer E (listvar x ∷ (t ∷ L)) (atomic a ∷ M) (listvar f ∷ (t ∷ L)) M (omega arith);
    room = omega arith;
  }
    where
      grow : (B : Type 0) (θ : Tm E → List B) → θ (listvar x) ≡ θ (atomic a) ++ (θ (listvar f) ++ [])
          → θ (listvar x) ++ concat_map θ (t ∷ L) ≡ θ (atomic a) ++ (θ (listvar f) ++ concat_map θ (t ∷ L))
      grow B θ h =
          ap (λ (k : List B). k ++ concat_map θ (t ∷ L)) (h ∙ ap (λ (k : List B). θ (atomic a) ++ k) (append-nil (θ (listvar f))))
          ∙ append_assoc (θ (atomic a)) (θ (listvar f)) (concat_map θ (t ∷ L))
  subst3_does (listvar x ∷ (t ∷ L)) (listvar y ∷ M) f = tt

  decomp2_does : (L M : Field E) (f : Name) → Does E L M f (decomp2 E L M f)
  decomp2_does [] M f = tt
  decomp2_does (atomic a ∷ L) M f = tt
  decomp2_does (listvar x ∷ []) M f = tt
  decomp2_does (listvar x ∷ (t ∷ L)) [] f = tt
  decomp2_does (listvar x ∷ (t ∷ L)) (atomic a ∷ M) f = tt
  decomp2_does (listvar x ∷ (t ∷ L)) (listvar y ∷ M) f = record {
    eqv = λ {B} θ h. (
      λ e. append_cancel_left (θ (listvar y)) (θ (listvar f) ++ concat_map θ (t ∷ L)) (concat_map θ M) (sym (grow B θ h) ∙ e),
      λ e. grow B θ h ∙ ap (λ (k : List B). θ (listvar y) ++ k) e,
    );
    here = λ P h k. h.0;
    from = λ l P h k v. let r = without E P x (listvar y ∷ M) (rest_right x (t ∷ L) (listvar y ∷ M) l) k in
        ((r.0, (v.0, tt)), ((v.0, without E P x (t ∷ L) (rest_left x (t ∷ L) (listvar y ∷ M) l x) h.1), r.1));
    new = (refl, tt);
    fits = tt;
    lin = λ l p q. record {
      left = omega (arith, l.left);
      right = omega (arith, l.right);
      once = λ n. omega (arith, same_le E n f, rest_both x y (t ∷ L) M l n, rest_left x (t ∷ L) (listvar y ∷ M) l n);
    };
    falls = fewer E (listvar x ∷ (t ∷ L)) (listvar y ∷ M) (listvar f ∷ (t ∷ L)) M (omega arith);
    room = omega arith;
  }
    where
      grow : (B : Type 0) (θ : Tm E → List B) → θ (listvar x) ≡ θ (listvar y) ++ (θ (listvar f) ++ [])
          → θ (listvar x) ++ concat_map θ (t ∷ L) ≡ θ (listvar y) ++ (θ (listvar f) ++ concat_map θ (t ∷ L))
      grow B θ h =
          ap (λ (k : List B). k ++ concat_map θ (t ∷ L)) (h ∙ ap (λ (k : List B). θ (listvar y) ++ k) (append-nil (θ (listvar f))))
          ∙ append_assoc (θ (listvar y)) (θ (listvar f)) (concat_map θ (t ∷ L))

  decomp2'_does : (L M : Field E) (f : Name) → Does E L M f (decomp2' E L M f)
  decomp2'_does [] M f = tt
  decomp2'_does (atomic a ∷ L) M f = tt
  decomp2'_does (listvar x ∷ []) M f = tt
  decomp2'_does (listvar x ∷ (t ∷ L)) [] f = tt
  decomp2'_does (listvar x ∷ (t ∷ L)) (atomic a ∷ M) f = tt
  decomp2'_does (listvar x ∷ (t ∷ L)) (listvar y ∷ M) f = record {
    eqv = λ {B} θ h. (
      λ e. append_cancel_left (θ (listvar x)) (concat_map θ (t ∷ L)) (θ (listvar f) ++ concat_map θ M) (e ∙ grow B θ h),
      λ e. ap (λ (k : List B). θ (listvar x) ++ k) e ∙ sym (grow B θ h),
    );
    here = λ P h k. k.0;
    from = λ l P h k v.
        let r = without E P y (listvar x ∷ (t ∷ L)) (rest_right y M (listvar x ∷ (t ∷ L)) (lin_swap E (listvar x ∷ (t ∷ L)) (listvar y ∷ M) l)) h in
        ((r.0, (v.0, tt)), (r.1, (v.0, without E P y M (rest_both x y (t ∷ L) M l y) k.1)));
    new = (refl, tt);
    fits = tt;
    lin = λ l p q. record {
      left = omega (arith, l.left);
      right = omega (arith, l.right);
      once = λ n. omega (arith, same_le E n f, rest_both x y (t ∷ L) M l n, rest_left x (t ∷ L) (listvar y ∷ M) l n);
    };
    falls = fewer E (listvar x ∷ (t ∷ L)) (listvar y ∷ M) (t ∷ L) (listvar f ∷ M) (omega arith);
    room = omega arith;
  }
    where
      grow : (B : Type 0) (θ : Tm E → List B) → θ (listvar y) ≡ θ (listvar x) ++ (θ (listvar f) ++ [])
          → θ (listvar y) ++ concat_map θ M ≡ θ (listvar x) ++ (θ (listvar f) ++ concat_map θ M)
      grow B θ h =
          ap (λ (k : List B). k ++ concat_map θ M) (h ∙ ap (λ (k : List B). θ (listvar x) ++ k) (append-nil (θ (listvar f))))
          ∙ append_assoc (θ (listvar x)) (θ (listvar f)) (concat_map θ M)

  -- an atom variable x is bound to an atom a that is not x, of a kind below
  bind_atom_does : (L M : Field E) (f : Name) (x : Var) (a : At E) (n : Rest E)
      → ((a ≡ free x → ⊥) → le (kind_of E a) (sort x) ≡ true → Bind E L M f (atomic (free x)) (atomic a ∷ []) [] n)
      → Does E L M f (bind_atom E x a n)
  bind_atom_does L M f x a n k = go (at_eq E a (free x))
    where
      go₂ : (a ≡ free x → ⊥) → (b : Bool) → le (kind_of E a) (sort x) ≡ b → Does E L M f (cond b (some (bind (atomic (free x)) (atomic a ∷ []) [] n)) none)
      go₂ d true h = k d h
      go₂ d false h = tt

      go : (d : Dec (a ≡ free x)) → Does E L M f (ite d none (cond (le (kind_of E a) (sort x)) (some (bind (atomic (free x)) (atomic a ∷ []) [] n)) none))
      go (yes e) = tt
      go (no d) = go₂ d (le (kind_of E a) (sort x)) refl

  decomp1'_does : (L M : Field E) (f : Name) → Does E L M f (decomp1' E L M)
  decomp1'_does [] M f = tt
  decomp1'_does (atomic (fixed c) ∷ L) M f = tt
  decomp1'_does (atomic (free x) ∷ []) M f = tt
  decomp1'_does (atomic (free x) ∷ (t ∷ L)) [] f = tt
  decomp1'_does (atomic (free x) ∷ (t ∷ L)) (atomic a ∷ M) f =
      bind_atom_does (atomic (free x) ∷ (t ∷ L)) (atomic a ∷ M) f x a (equation (ins (t ∷ L)) (ins M)) (λ d q. record {
        eqv = λ {B} θ h. (
          λ e. put_fill_all E θ (atomic (free x)) (atomic a ∷ []) h (t ∷ L)
              ∙ append_cancel_left (θ (atomic a)) (concat_map θ (t ∷ L)) (concat_map θ M)
              (ap (λ (k : List B). k ++ concat_map θ (t ∷ L)) (sym (h ∙ append-nil (θ (atomic a)))) ∙ e)
              ∙ sym (put_fill_all E θ (atomic (free x)) (atomic a ∷ []) h M),
          λ e. ap₂ (λ (k l : List B). k ++ l) (h ∙ append-nil (θ (atomic a)))
              (sym (put_fill_all E θ (atomic (free x)) (atomic a ∷ []) h (t ∷ L)) ∙ e ∙ put_fill_all E θ (atomic (free x)) (atomic a ∷ []) h M),
        );
        here = λ P h k. h.0;
        from = λ l P h k v. let pa : P (atomic a) = k.0 (λ p. d (atomic_once p)) in (
          (pa, tt),
          (all_put_in E P (atomic (free x)) (atomic a ∷ []) (pa, tt) (t ∷ L) h.1, all_put_in E P (atomic (free x)) (atomic a ∷ []) (pa, tt) M k.1),
        );
        new = tt;
        fits = (a, refl, q);
        lin = λ l p q. record {
          left = rw (put_lists E (free x) a (t ∷ L)) l.left;
          right = rw (put_lists E (free x) a M) l.right;
          once = λ n. rw (put_count E n (free x) a (t ∷ L), put_count E n (free x) a M) (l.once n);
        };
        falls =
            fewer E (atomic (free x) ∷ (t ∷ L)) (atomic a ∷ M) (ins (t ∷ L)) (ins M)
            (omega (arith, put_length E (free x) a (t ∷ L), put_length E (free x) a M));
        room = omega (arith, put_length E (free x) a (t ∷ L), put_length E (free x) a M);
      })
    where
      ins : Field E → Field E
      ins K = concat_map (put E (atomic (free x)) (atomic a ∷ [])) K
  decomp1'_does (atomic (free x) ∷ (t ∷ L)) (listvar y ∷ M) f = tt
  decomp1'_does (listvar x ∷ L) M f = tt

  decomp4_does : (L M : Field E) (f : Name) → Does E L M f (decomp4 E L M)
  decomp4_does [] M f = tt
  decomp4_does (atomic (fixed c) ∷ L) M f = tt
  decomp4_does (atomic (free x) ∷ []) [] f = tt
  decomp4_does (atomic (free x) ∷ []) (atomic a ∷ []) f = tt
  decomp4_does (atomic (free x) ∷ []) (atomic a ∷ (atomic b ∷ M)) f = tt
  decomp4_does (atomic (free x) ∷ []) (atomic a ∷ (listvar y ∷ [])) f =
      bind_atom_does (atomic (free x) ∷ []) (atomic a ∷ (listvar y ∷ [])) f x a (equation [] (listvar y ∷ [])) (λ d q. record {
        eqv = λ {B} θ h. (
          λ e. append_cancel_left (θ (atomic a)) [] (θ (listvar y) ++ []) (sym h ∙ sym (append-nil (θ (atomic (free x)))) ∙ e),
          λ e. ap₂ (λ (k l : List B). k ++ l) (h ∙ append-nil (θ (atomic a))) e,
        );
        here = λ P h k. h.0;
        from = λ l P h k v. ((k.0 (λ p. d (atomic_once p)), tt), (tt, (k.1.0 (λ p. atomic≢listvar (sym p)), tt)));
        new = tt;
        fits = (a, refl, q);
        lin = λ l p q. record { left = omega arith; right = l.right; once = λ n. l.once n };
        falls = fewer E (atomic (free x) ∷ []) (atomic a ∷ (listvar y ∷ [])) [] (listvar y ∷ []) (omega arith);
        room = omega arith;
      })
  decomp4_does (atomic (free x) ∷ []) (atomic a ∷ (listvar y ∷ (t ∷ M))) f = tt
  decomp4_does (atomic (free x) ∷ []) (listvar y ∷ M) f = tt
  decomp4_does (atomic (free x) ∷ (t ∷ L)) M f = tt
  decomp4_does (listvar x ∷ L) M f = tt

  -- x = M solved
  solve_does : (M : Field E) (f : Name) (x : Tm E) → Fits E x M → Does E (x ∷ []) M f (cond (occurs E x M) none (some (bind x M [] solved)))
  solve_does M f x g = go (occurs E x M) refl
    where
      go : (b : Bool) → occurs E x M ≡ b → Does E (x ∷ []) M f (cond b none (some (bind x M [] solved)))
      go true h = tt
      go false h = record {
        eqv = λ θ e. (λ _. tt, λ _. append-nil (θ x) ∙ e);
        here = λ P h k. h.0;
        from = λ l P p q v. (all_both (Other E x) P M q (not_occurs E x M h), tt);
        new = tt;
        fits = g;
        lin = λ l p q. tt;
        falls = (omega arith, tt);
        room = omega arith;
      }

  subst1_does : (L M : Field E) (f : Name) → Does E L M f (subst1 E L M)
  subst1_does [] M f = tt
  subst1_does (atomic (fixed c) ∷ L) M f = tt
  subst1_does (atomic (free x) ∷ []) [] f = tt
  subst1_does (atomic (free x) ∷ []) (atomic a ∷ []) f = go (le (kind_of E a) (sort x)) refl
    where
      go : (b : Bool) → le (kind_of E a) (sort x) ≡ b
          → Does E (atomic (free x) ∷ []) (atomic a ∷ []) f
          (cond b (cond (occurs E (atomic (free x)) (atomic a ∷ [])) none (some (bind (atomic (free x)) (atomic a ∷ []) [] solved))) none)
      go true h = solve_does (atomic a ∷ []) f (atomic (free x)) (a, refl, h)
      go false h = tt
  subst1_does (atomic (free x) ∷ []) (listvar y ∷ []) f = tt
  subst1_does (atomic (free x) ∷ []) (t ∷ (u ∷ M)) f = tt
  subst1_does (atomic (free x) ∷ (t ∷ L)) M f = tt
  subst1_does (listvar x ∷ []) [] f = solve_does [] f (listvar x) tt
  subst1_does (listvar x ∷ []) (atomic a ∷ []) f = solve_does (atomic a ∷ []) f (listvar x) tt
  subst1_does (listvar x ∷ []) (listvar y ∷ []) f = solve_does (listvar y ∷ []) f (listvar x) tt
  subst1_does (listvar x ∷ []) (t ∷ (u ∷ M)) f = solve_does (t ∷ (u ∷ M)) f (listvar x) tt
  subst1_does (listvar x ∷ (t ∷ L)) M f = tt

  -- every rule
  pub rule_does : (r : Rule) (L M : Field E) (f : Name) → Does E L M f (rule E r L M f)
  rule_does Remove L M f = remove_does E L M f
  rule_does Decomp1 L M f = decomp1_does L M f
  rule_does Decomp1' L M f = decomp1'_does L M f
  rule_does Decomp2 L M f = decomp2_does L M f
  rule_does Decomp2' L M f = decomp2'_does L M f
  rule_does Decomp3 L M f = decomp3_does E L M f
  rule_does Decomp4 L M f = decomp4_does L M f
  rule_does Subst1 L M f = subst1_does L M f
  rule_does Subst2 L M f = subst2_does L M f
  rule_does Subst3 L M f = subst3_does L M f
  rule_does Orient1 L M f = orient1_does E L M f
  rule_does Orient2 L M f = orient2_does E L M f
  rule_does Orient3 L M f = orient3_does E L M f
  rule_does Orient4 L M f = orient4_does E L M f
