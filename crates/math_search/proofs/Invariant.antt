-- What holds of every problem of a search: list variables are not repeated, no term of what is left is bound, and no value has a bound
-- variable; values have their types. And a step is sound: what solves a child solves the problem.
use mathlib.Core.Path.{◌≡◌, refl, sym, ◌∙◌, ap, subst}
use mathlib.Core.Logic.{◌↔◌, ite}
use mathlib.Core.Bool.{true}
use mathlib.Core.Option.{some}
use mathlib.Core.List.Memᴰ
use mathlib.Core.List.{List, [], ◌∷◌, ◌++◌, append-nil, Memᴰ}
use Rattle.base_lists.specs.Seqs.{All, all_map, all_mem, mem?}
use Rattle.math_terms.specs.Seqs.{concat_map}
use Rattle.math_overlaps.specs.Shapes.{fixed, free}
use Rattle.math_search.specs.Problems.{Setting, atomic, listvar, At, Tm, Field, tm_eq, kind_of, Bindings, put, compose, equation, Problem, problem}
use Rattle.math_search.specs.Problems.{rest, bindings, used}
use Rattle.math_search.specs.Rules.{Move, keep, bind, apply}
use Rattle.math_search.specs.Answers.{Fits}
use Rattle.math_search.proofs.Seqs.{all_from, all_concat_map}
use Rattle.math_search.proofs.Terms.{listvar_once, atomic≢listvar}
use Rattle.math_search.proofs.Counts.{LinearRest, Other, put_self, put_ne, put_fill_all, put_all, count_absent}
use Rattle.math_search.proofs.Effects.{Holds, AllRest, Does}

module _ (E : Setting) where
  open E use {order, variables, names}
  open order use {le, le_refl, le_trans}
  open variables use {Var, sort}
  open names use {Name, name_eq}

  -- ---- a step is sound: what fills both sides of a child alike, and respects its bindings, does so for the problem

  -- θ gives a term what it gives the value of the term
  abbrev pub Respects : {B : Type 0} → (Tm E → List B) → Bindings E → Type 0
  Respects θ σ = (t : Tm E) → θ t ≡ concat_map θ (σ t)

  -- θ is a unifier of p
  abbrev pub Unifies : {B : Type 0} → (Tm E → List B) → Problem E → Type 0
  Unifies θ p = Holds E θ (rest E p) × Respects θ (bindings E p)

  -- t stands for itself
  abbrev pub Fixed : Bindings E → Tm E → Type 0
  Fixed σ t = σ t ≡ t ∷ []

  compose_at : {B : Type 0} (θ : Tm E → List B) (σ : Bindings E) (x : Tm E) (s : Field E) → Fixed σ x → Respects θ (compose E σ x s) → θ x ≡ concat_map θ s
  compose_at θ σ x s e r =
      r x ∙ ap (λ (K : Field E). concat_map θ (concat_map (put E x s) K)) e ∙ ap (λ (K : Field E). concat_map θ K) (append-nil (put E x s x) ∙ put_self E x s)

  pub compose_iff : {B : Type 0} (θ : Tm E → List B) (σ : Bindings E) (x : Tm E) (s : Field E)
      → θ x ≡ concat_map θ s → Respects θ (compose E σ x s) ↔ Respects θ σ
  compose_iff θ σ x s h = (λ r t. r t ∙ put_fill_all E θ x s h (σ t), λ r t. r t ∙ sym (put_fill_all E θ x s h (σ t)))

  pub sound_move : {B : Type 0} (L M : Field E) (f : Name) (σ : Bindings E) (u : List Name) (m : Move E)
      → Does E L M f (some m) → All (Fixed σ) L → All (Fixed σ) M
      → (θ : Tm E → List B) → Unifies θ (apply E σ u m) → Unifies θ (problem (equation L M) σ u)
  sound_move L M f σ u (keep n) d a b θ h = ((d.eqv θ).1 h.0, h.1)
  sound_move L M f σ u (bind x s v n) d a b θ h =
      let e : θ x ≡ concat_map θ s = compose_at θ σ x s (d.here (Fixed σ) a b) h.1 in
      ((d.eqv θ e).1 h.0, (compose_iff θ σ x s e).0 h.1)

  -- ---- the invariant

  -- t is not an unused list variable
  abbrev pub Known : List Name → Tm E → Type 0
  Known u t = (n : Name) → (Memᴰ n u → ⊥) → Other E (listvar n) t

  -- neither bound nor unused
  abbrev pub Unbound : Bindings E → List Name → Tm E → Type 0
  Unbound σ u t = Fixed σ t × Known u t

  -- `alone`: an unused list variable stands for itself
  pub record Invariant (p : Problem E) : Type 0 where
    pub lin : LinearRest E (rest E p)
    pub ok : AllRest E (Unbound (bindings E p) (used E p)) (rest E p)
    pub vals : (t : Tm E) → Known (used E p) t → All (Unbound (bindings E p) (used E p)) (bindings E p t)
    pub alone : (n : Name) → (Memᴰ n (used E p) → ⊥) → bindings E p (listvar n) ≡ listvar n ∷ []
    pub kinds : (t : Tm E) → Fits E t (bindings E p t)

  pub old_atom : (u : List Name) (a : At E) → Known u (atomic a)
  old_atom u a n h e = atomic≢listvar e

  pub old_mem : (u : List Name) (k : Name) → Memᴰ k u → Known u (listvar k)
  old_mem u k i n h e = h (Memᴰ.cast (sym (listvar_once e)) i)

  fits_put : (x : Tm E) (s : Field E) → Fits E x s → (a : At E) → (d : Dec (atomic a ≡ x)) → Fits E (atomic a) (ite d s (atomic a ∷ []))
  fits_put x s g a (yes e) = subst (λ (t : Tm E). Fits E t s) (sym e) g
  fits_put x s g (fixed c) (no n) = refl
  fits_put x s g (free y) (no n) = (free y, refl, le_refl (sort y))

  fits_trans : (y : Var) (b : At E) → le (kind_of E b) (sort y) ≡ true → (s : Field E) → Fits E (atomic b) s → Fits E (atomic (free y)) s
  fits_trans y (fixed c) h s g = (fixed c, g, h)
  fits_trans y (free z) h s g = (g.0, g.1, le_trans (kind_of E g.0) (sort z) (sort y) g.2 h)

  compose_kinds : (σ : Bindings E) (x : Tm E) (s : Field E) → Fits E x s → (t : Tm E) → Fits E t (σ t) → Fits E t (compose E σ x s t)
  compose_kinds σ x s g (atomic (fixed c)) h =
      ap (λ (K : Field E). concat_map (put E x s) K) h ∙ append-nil (put E x s (atomic (fixed c))) ∙ fits_put x s g (fixed c) (tm_eq E (atomic (fixed c)) x)
  compose_kinds σ x s g (atomic (free y)) h =
      subst (λ (K : Field E). Fits E (atomic (free y)) K) (sym (ap (λ (K : Field E). concat_map (put E x s) K) h.1 ∙ append-nil (put E x s (atomic h.0))))
      (fits_trans y h.0 h.2 (put E x s (atomic h.0)) (fits_put x s g h.0 (tm_eq E (atomic h.0) x)))
  compose_kinds σ x s g (listvar n) h = tt

  pub inv_move : (L M : Field E) (f : Name) (σ : Bindings E) (u : List Name) (m : Move E) → (Memᴰ f u → ⊥) → Does E L M f (some m)
      → Invariant (problem (equation L M) σ u) → Invariant (apply E σ u m)
  inv_move L M f σ u (keep n) fr d i =
      record { lin = d.lin i.lin; ok = d.from (Unbound σ u) i.ok.0 i.ok.1; vals = i.vals; alone = i.alone; kinds = i.kinds }
  inv_move L M f σ u (bind x s v n) fr d i = record {
    lin =
        d.lin i.lin (count_absent E f L (all_map (Unbound σ u) (Other E (listvar f)) (λ t o. o.1 f fr) L i.ok.0))
        (count_absent E f M (all_map (Unbound σ u) (Other E (listvar f)) (λ t o. o.1 f fr) M i.ok.1));
    ok = both.1;
    vals = vals';
    alone = λ k h. at_new k (λ j. h (Memᴰ.append_right v j));
    kinds = λ t. compose_kinds σ x s d.fits t (i.kinds t);
  }
    where
      σ' : Bindings E
      σ' = compose E σ x s

      Unbound' : Tm E → Type 0
      Unbound' = Unbound (compose E σ x s) (v ++ u)

      okx : Unbound σ u x
      okx = d.here (Unbound σ u) i.ok.0 i.ok.1

      up : (t : Tm E) → Known u t → Known (v ++ u) t
      up t o k h = o k (λ j. h (Memᴰ.append_right v j))

      moved_at : (t : Tm E) → Fixed σ t → Other E x t → Fixed (compose E σ x s) t
      moved_at t o ne = ap (λ (K : Field E). concat_map (put E x s) K) o ∙ append-nil (put E x s t) ∙ put_ne E x s t ne

      moved : (t : Tm E) → Unbound σ u t → Other E x t → Unbound' t
      moved t o ne = (moved_at t o.0 ne, up t o.1)

      at_new : (k : Name) → (Memᴰ k u → ⊥) → Fixed (compose E σ x s) (listvar k)
      at_new k h = moved_at (listvar k) (i.alone k h) (λ e. okx.1 k h (sym e))

      fresh : All (λ k. Unbound' (listvar k)) v
      fresh =
          all_from (λ k. Unbound' (listvar k)) v
          (λ k j. (at_new k (λ j'. fr (Memᴰ.cast (sym (all_mem (λ k. k ≡ f) v d.new k j)) j')), old_mem (v ++ u) k (Memᴰ.append_left u j)))

      both : All Unbound' s × AllRest E Unbound' n
      both =
          d.from i.lin Unbound' (all_map (Unbound σ u) (λ t. Other E x t → Unbound' t) (λ t o ne. moved t o ne) L i.ok.0)
          (all_map (Unbound σ u) (λ t. Other E x t → Unbound' t) (λ t o ne. moved t o ne) M i.ok.1) fresh

      vals_old : (t : Tm E) → Known u t → All Unbound' (compose E σ x s t)
      vals_old t o =
          all_concat_map Unbound' (put E x s) (σ t)
          (all_map (Unbound σ u) (λ w. All Unbound' (put E x s w)) (λ w q. put_all E Unbound' x s both.0 w (moved w q)) (σ t) (i.vals t o))

      vals_lst : (k : Name) → Dec (Memᴰ k u) → Known (v ++ u) (listvar k) → All Unbound' (compose E σ x s (listvar k))
      vals_lst k (yes j) o = vals_old (listvar k) (old_mem u k j)
      vals_lst k (no j) o = subst (λ (K : Field E). All Unbound' K) (sym (at_new k j)) ((at_new k j, o), tt)

      vals' : (t : Tm E) → Known (v ++ u) t → All Unbound' (compose E σ x s t)
      vals' (atomic a) o = vals_old (atomic a) (old_atom u a)
      vals' (listvar k) o = vals_lst k (mem? name_eq k u) o
