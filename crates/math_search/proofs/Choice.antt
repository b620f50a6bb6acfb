-- A step is complete: a problem with a solution by constants meets no failure rule, and some rule applies that keeps the solution.
use mathlib.Core.Path.{◌≡◌, refl, sym, ◌∙◌, ap, ap₂, subst}
use mathlib.Core.Logic.{◌⊎◌, inl, inr, ite, if_pos, if_neg}
use mathlib.Core.Bool.{Bool, true, false, cond, ◌&&◌, not, false≢true}
use mathlib.Core.Option.{none, some}
use mathlib.Core.List.{List, [], ◌∷◌, ◌++◌, append-nil, head-eq_of_cons-eq, tail-eq_of_cons-eq, nil≢cons, cons≢nil}
use native.Mathlib.Omega.{arith}
use Rattle.base_lists.specs.Seqs.{All, all_map}
use Rattle.math_types.specs.Order.{full_le_top}
use Rattle.math_terms.specs.Seqs.{concat_map}
use Rattle.math_overlaps.specs.Shapes.{fixed, free}
use Rattle.math_search.specs.Problems.{Setting, atomic, listvar, At, Tm, Field, at_eq, tm_eq, kind_of, field_type, put, Rest, solved, equation}
use Rattle.math_search.specs.Rules.{Rule, Remove, Decomp1', Decomp2, Decomp2', Decomp3, Decomp4, Subst1, Subst2, Subst3, Orient1, Orient3, Orient4}
use Rattle.math_search.specs.Rules.{occurs}
use Rattle.math_search.specs.Rules.{Move, keep, bind, fails, bind_atom, rule}
use Rattle.math_search.specs.Answers.{Linear, atom_value, ground, WellTyped}
use Rattle.math_search.proofs.Seqs.{nil_left, nil_right, either_pre, concat_map_agree}
use Rattle.math_search.proofs.Terms.{atomic_once}
use Rattle.math_search.proofs.Counts.{Other, absent, occurs_not}
use Rattle.math_search.proofs.Bound.{rest_right, heads_differ}

module _ (E : Setting) where
  open E use {order, constants, variables, names}
  open order use {le, le_refl, le_meet}
  open constants use {Con, con_eq, con_kind}
  open variables use {Var, sort}
  open names use {Name, name_eq}

  -- the list variable f gets the value w
  abbrev pub extend : (Name → List Con) → Name → List Con → Name → List Con
  extend m f w n = ite (name_eq n f) w (m n)

  extend_at : (m : Name → List Con) (f : Name) (w : List Con) → extend m f w f ≡ w
  extend_at m f w = if_pos (name_eq f f) refl w (m f)

  extend_off : (m : Name → List Con) (f : Name) (w : List Con) (n : Name) → Other E (listvar f) (listvar n) → extend m f w n ≡ m n
  extend_off m f w n h = if_neg (name_eq n f) (λ e. h (ap {B = Tm E} listvar e)) w (m n)

  pub extend_term : (ρ : Var → Con) (m : Name → List Con) (f : Name) (w : List Con) (t : Tm E)
      → Other E (listvar f) t → ground E ρ (extend m f w) t ≡ ground E ρ m t
  extend_term ρ m f w (atomic a) h = refl
  extend_term ρ m f w (listvar n) h = extend_off m f w n h

  pub extend_field : (ρ : Var → Con) (m : Name → List Con) (f : Name) (w : List Con) (L : Field E)
      → All (Other E (listvar f)) L → concat_map (ground E ρ (extend m f w)) L ≡ concat_map (ground E ρ m) L
  extend_field ρ m f w L h =
      concat_map_agree (ground E ρ (extend m f w)) (ground E ρ m) L
      (all_map (Other E (listvar f)) (λ t. ground E ρ (extend m f w) t ≡ ground E ρ m t) (extend_term ρ m f w) L h)

  pub atom_typed : (ρ : Var → Con) → WellTyped E ρ → (a : At E) → le (con_kind (atom_value E ρ a)) (kind_of E a) ≡ true
  atom_typed ρ ty (fixed c) = le_refl (con_kind c)
  atom_typed ρ ty (free x) = ty x

  -- two atoms with one value have comparable kinds
  comparable : (ρ : Var → Con) → WellTyped E ρ → (a b : At E) → atom_value E ρ a ≡ atom_value E ρ b
      → (le (kind_of E a) (kind_of E b) ≡ true) ⊎ (le (kind_of E b) (kind_of E a) ≡ true)
  comparable ρ ty a b e =
      le_meet (con_kind (atom_value E ρ a)) (kind_of E a) (kind_of E b) (atom_typed ρ ty a)
      (subst (λ (c : Con). le (con_kind c) (kind_of E b) ≡ true) (sym e) (atom_typed ρ ty b))

  apart_no : (p q : Bool) → (p ≡ true) ⊎ (q ≡ true) → (not p && not q) ≡ false
  apart_no true q h = refl
  apart_no false true h = refl
  apart_no false false (inl e) = absurd (false≢true e)
  apart_no false false (inr e) = absurd (false≢true e)

  pub no_fail : (L M : Field E) (ρ : Var → Con) (m : Name → List Con) → WellTyped E ρ → Linear E L M
      → concat_map (ground E ρ m) L ≡ concat_map (ground E ρ m) M → fails E L M ≡ false
  no_fail [] [] ρ m ty l e = refl
  no_fail [] (atomic a ∷ M) ρ m ty l e = absurd (nil≢cons e)
  no_fail [] (listvar y ∷ M) ρ m ty l e = refl
  no_fail (atomic a ∷ L) [] ρ m ty l e = absurd (cons≢nil e)
  no_fail (atomic (fixed c) ∷ L) (atomic (fixed d) ∷ M) ρ m ty l e = rw (if_pos (con_eq c d) (head-eq_of_cons-eq e) false true)
  no_fail (atomic (fixed c) ∷ L) (atomic (free y) ∷ M) ρ m ty l e = refl
  no_fail (atomic (fixed c) ∷ L) (listvar y ∷ M) ρ m ty l e = refl
  no_fail (atomic (free x) ∷ []) (atomic a ∷ []) ρ m ty l e =
      apart_no (le (sort x) (kind_of E a)) (le (kind_of E a) (sort x)) (comparable ρ ty (free x) a (head-eq_of_cons-eq e))
  no_fail (atomic (free x) ∷ []) (listvar y ∷ []) ρ m ty l e = refl
  no_fail (atomic (free x) ∷ []) (s ∷ (t ∷ M)) ρ m ty l e = refl
  no_fail (atomic (free x) ∷ (t ∷ L)) (s ∷ M) ρ m ty l e = refl
  no_fail (listvar x ∷ []) [] ρ m ty l e = refl
  no_fail (listvar x ∷ []) (atomic a ∷ []) ρ m ty l e = refl
  no_fail (listvar x ∷ []) (listvar y ∷ []) ρ m ty l e = rw (if_neg (tm_eq E (listvar y) (listvar x)) (λ p. heads_differ E x y [] [] l p) true false)
  no_fail (listvar x ∷ []) (s ∷ (t ∷ M)) ρ m ty l e = rw (occurs_not E (listvar x) (s ∷ (t ∷ M)) (absent E x (s ∷ (t ∷ M)) (rest_right E x [] (s ∷ (t ∷ M)) l)))
  no_fail (listvar x ∷ (t ∷ L)) M ρ m ty l e = refl

  -- θ agrees with what the move binds
  abbrev pub Agrees : (Tm E → List Con) → Move E → Type 0
  Agrees θ (keep n) = Unit {0}
  Agrees θ (bind x s v n) = θ x ≡ concat_map θ s

  -- a rule that applies, and a value of the fresh list variable, with which the solution (ρ, m) agrees
  pub record Choice (L M : Field E) (f : Name) (ρ : Var → Con) (m : Name → List Con) : Type 0 where
    pub name : Rule
    pub move : Move E
    pub value : List Con
    pub is : rule E name L M f ≡ some move
    pub agrees : Agrees (ground E ρ (extend m f value)) move

  kept : (L M : Field E) (f : Name) (ρ : Var → Con) (m : Name → List Con) (r : Rule) (n : Rest E) → rule E r L M f ≡ some (keep n) → Choice L M f ρ m
  kept L M f ρ m r n e = record { name = r; move = keep n; value = []; is = e; agrees = tt }

  abbrev atom_move : Var → At E → Rest E → Move E
  atom_move x a n = bind (atomic (free x)) (atomic a ∷ []) [] n

  atom_bound : (x : Var) (a : At E) (n : Rest E) → (a ≡ free x → ⊥) → le (kind_of E a) (sort x) ≡ true → bind_atom E x a n ≡ some (atom_move x a n)
  atom_bound x a n d h =
      if_neg (at_eq E a (free x)) d none (cond (le (kind_of E a) (sort x)) (some (atom_move x a n)) none)
      ∙ ap (λ (b : Bool). cond b (some (atom_move x a n)) none) h

  -- a variable and an atom at the heads, not the same, the atom's kind below
  choose_below : (x : Var) (L : Field E) (a : At E) (M : Field E) (f : Name) (ρ : Var → Con) (m : Name → List Con)
      → Linear E (atomic (free x) ∷ L) (atomic a ∷ M) → (a ≡ free x → ⊥) → le (kind_of E a) (sort x) ≡ true
      → ρ x ≡ atom_value E ρ a → concat_map (ground E ρ m) L ≡ concat_map (ground E ρ m) M → Choice (atomic (free x) ∷ L) (atomic a ∷ M) f ρ m
  choose_below x (t ∷ L) a M f ρ m l d h e e' = record {
    name = Decomp1';
    move = atom_move x a (equation (concat_map (put E (atomic (free x)) (atomic a ∷ [])) (t ∷ L)) (concat_map (put E (atomic (free x)) (atomic a ∷ [])) M));
    value = [];
    is = atom_bound x a (equation (concat_map (put E (atomic (free x)) (atomic a ∷ [])) (t ∷ L)) (concat_map (put E (atomic (free x)) (atomic a ∷ [])) M)) d h;
    agrees = ap (λ (c : Con). c ∷ []) e;
  }
  choose_below x [] a [] f ρ m l d h e e' = record {
    name = Subst1;
    move = atom_move x a solved;
    value = [];
    is =
        ap (λ (b : Bool). cond b (cond (occurs E (atomic (free x)) (atomic a ∷ [])) none (some (atom_move x a solved))) none) h
        ∙ ap (λ (b : Bool). cond b none (some (atom_move x a solved))) (occurs_not E (atomic (free x)) (atomic a ∷ []) ((λ p. d (atomic_once p)), tt));
    agrees = ap (λ (c : Con). c ∷ []) e;
  }
  choose_below x [] a (listvar y ∷ []) f ρ m l d h e e' = record {
    name = Decomp4;
    move = atom_move x a (equation [] (listvar y ∷ []));
    value = [];
    is = atom_bound x a (equation [] (listvar y ∷ [])) d h;
    agrees = ap (λ (c : Con). c ∷ []) e;
  }
  choose_below x [] a (listvar y ∷ (atomic b ∷ M)) f ρ m l d h e e' = absurd (cons≢nil (nil_right (m y) (concat_map (ground E ρ m) (atomic b ∷ M)) (sym e')))
  choose_below x [] a (listvar y ∷ (listvar z ∷ M)) f ρ m l d h e e' = absurd (omega (arith, l.right))
  choose_below x [] a (atomic b ∷ M) f ρ m l d h e e' = absurd (nil≢cons e')

  choose_atom : (x : Var) (L : Field E) (a : At E) (M : Field E) (f : Name) (ρ : Var → Con) (m : Name → List Con)
      → WellTyped E ρ → Linear E (atomic (free x) ∷ L) (atomic a ∷ M)
      → ρ x ≡ atom_value E ρ a → concat_map (ground E ρ m) L ≡ concat_map (ground E ρ m) M → Choice (atomic (free x) ∷ L) (atomic a ∷ M) f ρ m
  choose_atom x L a M f ρ m ty l e e' = go (at_eq E a (free x))
    where
      above : (b : At E) → a ≡ b → le (kind_of E b) (sort x) ≡ false
          → (le (sort x) (kind_of E b) ≡ true) ⊎ (le (kind_of E b) (sort x) ≡ true) → Choice (atomic (free x) ∷ L) (atomic b ∷ M) f ρ m
      above b p h (inr k) = absurd (false≢true (sym h ∙ k))
      above (fixed c) p h (inl k) = absurd (false≢true (sym h ∙ subst (λ (d : Con). le (con_kind d) (sort x) ≡ true) (e ∙ ap (atom_value E ρ) p) (ty x)))
      above (free z) p h (inl k) =
          kept (atomic (free x) ∷ L) (atomic (free z) ∷ M) f ρ m Orient3 (equation (atomic (free z) ∷ M) (atomic (free x) ∷ L)) (rw (k, h))

      go₂ : (a ≡ free x → ⊥) → (b : Bool) → le (kind_of E a) (sort x) ≡ b → Choice (atomic (free x) ∷ L) (atomic a ∷ M) f ρ m
      go₂ d true h = choose_below x L a M f ρ m l d h e e'
      go₂ d false h = above a refl h (comparable ρ ty (free x) a e)

      go : (d : Dec (a ≡ free x)) → Choice (atomic (free x) ∷ L) (atomic a ∷ M) f ρ m
      go (yes p) =
          kept (atomic (free x) ∷ L) (atomic a ∷ M) f ρ m Decomp3 (equation L M)
          (if_pos (tm_eq E (atomic (free x)) (atomic a)) (ap {B = Tm E} atomic (sym p)) (some (keep (equation L M))) none)
      go (no d) = go₂ d (le (kind_of E a) (sort x)) refl

  pub choose : (L M : Field E) (f : Name) (ρ : Var → Con) (m : Name → List Con) → WellTyped E ρ
      → Linear E L M → All (Other E (listvar f)) L → All (Other E (listvar f)) M
      → concat_map (ground E ρ m) L ≡ concat_map (ground E ρ m) M → Choice L M f ρ m
  choose [] [] f ρ m ty l p q e = kept [] [] f ρ m Remove solved refl
  choose [] (atomic a ∷ M) f ρ m ty l p q e = absurd (nil≢cons e)
  choose [] (listvar y ∷ M) f ρ m ty l p q e = kept [] (listvar y ∷ M) f ρ m Orient4 (equation (listvar y ∷ M) []) refl
  choose (atomic a ∷ L) [] f ρ m ty l p q e = absurd (cons≢nil e)
  choose (atomic (fixed c) ∷ L) (atomic (fixed d) ∷ M) f ρ m ty l p q e = kept (atomic (fixed c) ∷ L) (atomic (fixed d) ∷ M) f ρ m Decomp3 (equation L M)
      (if_pos (tm_eq E (atomic (fixed c)) (atomic (fixed d))) (ap (λ (k : Con). atomic (fixed k)) (head-eq_of_cons-eq e)) (some (keep (equation L M))) none)
  choose (atomic (fixed c) ∷ L) (atomic (free y) ∷ M) f ρ m ty l p q e =
      kept (atomic (fixed c) ∷ L) (atomic (free y) ∷ M) f ρ m Orient1 (equation (atomic (free y) ∷ M) (atomic (fixed c) ∷ L)) refl
  choose (atomic (fixed c) ∷ L) (listvar y ∷ M) f ρ m ty l p q e =
      kept (atomic (fixed c) ∷ L) (listvar y ∷ M) f ρ m Orient1 (equation (listvar y ∷ M) (atomic (fixed c) ∷ L)) refl
  choose (atomic (free x) ∷ L) (atomic a ∷ M) f ρ m ty l p q e = choose_atom x L a M f ρ m ty l (head-eq_of_cons-eq e) (tail-eq_of_cons-eq e)
  choose (atomic (free x) ∷ L) (listvar y ∷ M) f ρ m ty l p q e =
      kept (atomic (free x) ∷ L) (listvar y ∷ M) f ρ m Orient3 (equation (listvar y ∷ M) (atomic (free x) ∷ L)) refl
  choose (listvar x ∷ []) M f ρ m ty l p q e = record {
    name = Subst1;
    move = bind (listvar x) M [] solved;
    value = [];
    is = ap (λ (b : Bool). cond b (cond (occurs E (listvar x) M) none (some (bind (listvar x) M [] solved))) none) (full_le_top order (field_type E M))
        ∙ ap (λ (b : Bool). cond b none (some (bind (listvar x) M [] solved))) (occurs_not E (listvar x) M (absent E x M (rest_right E x [] M l)));
    agrees = extend_off m f [] x p.0 ∙ sym (append-nil (m x)) ∙ e ∙ sym (extend_field ρ m f [] M q);
  }
  choose (listvar x ∷ (t ∷ L)) [] f ρ m ty l p q e = record {
    name = Subst2;
    move = bind (listvar x) [] [] (equation (t ∷ L) []);
    value = [];
    is = refl;
    agrees = extend_off m f [] x p.0 ∙ nil_left (m x) (concat_map (ground E ρ m) (t ∷ L)) e;
  }
  choose (listvar x ∷ (t ∷ L)) (atomic a ∷ M) f ρ m ty l p q e = go (m x) refl
    where
      go : (k : List Con) → m x ≡ k → Choice (listvar x ∷ (t ∷ L)) (atomic a ∷ M) f ρ m
      go [] h = record {
        name = Subst2;
        move = bind (listvar x) [] [] (equation (t ∷ L) (atomic a ∷ M));
        value = [];
        is = refl;
        agrees = extend_off m f [] x p.0 ∙ h;
      }
      go (c ∷ w) h = record {
        name = Subst3;
        move = bind (listvar x) (atomic a ∷ (listvar f ∷ [])) (f ∷ []) (equation (listvar f ∷ (t ∷ L)) M);
        value = w;
        is = refl;
        agrees =
            extend_off m f w x p.0
            ∙ h
            ∙ ap₂ (λ (d : Con) (k : List Con). d ∷ k) (head-eq_of_cons-eq (ap (λ (k : List Con). k ++ concat_map (ground E ρ m) (t ∷ L)) (sym h) ∙ e))
            (sym (append-nil (extend m f w f) ∙ extend_at m f w));
      }
  choose (listvar x ∷ (t ∷ L)) (listvar y ∷ M) f ρ m ty l p q e =
      go (either_pre (m x) (m y) (concat_map (ground E ρ m) (t ∷ L)) (concat_map (ground E ρ m) M) e)
    where
      go : ((w : List Con) × (m x ≡ m y ++ w)) ⊎ ((w : List Con) × (m y ≡ m x ++ w)) → Choice (listvar x ∷ (t ∷ L)) (listvar y ∷ M) f ρ m
      go (inl r) = record {
        name = Decomp2;
        move = bind (listvar x) (listvar y ∷ (listvar f ∷ [])) (f ∷ []) (equation (listvar f ∷ (t ∷ L)) M);
        value = r.0;
        is = refl;
        agrees =
            extend_off m f r.0 x p.0
            ∙ r.1
            ∙ ap₂ (λ (j k : List Con). j ++ k) (sym (extend_off m f r.0 y q.0)) (sym (append-nil (extend m f r.0 f) ∙ extend_at m f r.0));
      }
      go (inr r) = record {
        name = Decomp2';
        move = bind (listvar y) (listvar x ∷ (listvar f ∷ [])) (f ∷ []) (equation (t ∷ L) (listvar f ∷ M));
        value = r.0;
        is = refl;
        agrees =
            extend_off m f r.0 y q.0
            ∙ r.1
            ∙ ap₂ (λ (j k : List Con). j ++ k) (sym (extend_off m f r.0 x p.0)) (sym (append-nil (extend m f r.0 f) ∙ extend_at m f r.0));
      }
