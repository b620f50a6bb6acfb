-- The theorems of the overlap list for rules of given shapes.
use mathlib.Core.Path.{◌≡◌, refl, sym, ◌∙◌, ap, ap₂, subst as along}
use mathlib.Core.Logic.{◌⊎◌, inl, inr}
use mathlib.Core.Bool.{true}
use mathlib.Core.Option.{some}
use mathlib.Core.List.{List, [], ◌∷◌, ◌++◌, map}
use mathlib.Core.List.Memᴰ
use mathlib.Core.List.{Memᴰ}
use Prim.Native.Nat.{ℕ, suc, ◌≤◌}
use native.Mathlib.Omega.{arith}
use native.Mathlib.Decide.{ℕ_discrete}
use Rattle.math_types.specs.Order.{Order, Full, basic, list, full_le}
use Rattle.math_terms.specs.Terms.{Term, con, var}
use Rattle.math_terms.specs.Constants.{Consts, TermOver}
use Rattle.math_terms.specs.Seqs.{Distinct}
use Rattle.math_terms.specs.Fillings.{FillingOver, Typed, fill}
use Rattle.math_terms.specs.Matching.{Matches}
use Rattle.math_overlaps.specs.Substitutions.{substitute, kind_of, TypedSubst}
use Rattle.math_overlaps.specs.Shapes.{Atom, fixed, free, val, Vars, Side, left, right, side-eq, Variable, of, pair_vars, Shape, closed, gapped, shapes_of}
use Rattle.math_overlaps.specs.Candidates.{Cand, exact, long}
use Rattle.math_overlaps.specs.Joins.{At, start}
use Rattle.math_overlaps.specs.Entries.{fields_for, entries}
use Rattle.math_overlaps.specs.Overlaps.{Origin, named, place, origin-eq, term_of, field_of, map_shape, run_of, rename, PairShape, PairState, origin_fields}
use Rattle.math_overlaps.specs.Overlaps.{origin_value, numbers_of, shown}
use Rattle.math_overlaps.proofs.Joins as ground
use Rattle.math_overlaps.proofs.Joins.{val_g, sub_a, kind_a, Good, start_good, RespectsY}
use Rattle.math_overlaps.proofs.Rows.{Inst}
use Rattle.math_overlaps.proofs.Walks.{Insts, walk_back, known, picks}
use Rattle.math_overlaps.proofs.Fits.{FitsEntry, resolved, has_entry, fits_picks, by_choice}
use Rattle.math_overlaps.proofs.Named.{gaps, named_from, named_to}
use Rattle.math_overlaps.proofs.Filled.{fills_by, substs_by, shapes_fill, original_fill}
use Rattle.math_overlaps.proofs.Typed.{rename_typed}
use Rattle.math_overlaps.proofs.Renumbered.{renumbered_from, renumbered_to, rename_substs}

-- ---- the list variables of an entry are distinct: each has the place of its field

module _ {A B L : Type 0} where
  gaps_map : (f : A → B) (Ss : List (Shape A L)) → gaps (map (map_shape f) Ss) ≡ gaps Ss
  gaps_map f [] = refl
  gaps_map f (closed xs ∷ Ss) = gaps_map f Ss
  gaps_map f (gapped p l t ∷ Ss) = ap (λ (r : List L). l ∷ r) (gaps_map f Ss)

module _ {A L M : Type 0} where
  gaps_from : (g : ℕ) (Ss : List (Shape A L)) (Ts : List (Shape A M)) (cs : List Cand) (k : ℕ) → Memᴰ k (gaps (fields_for g Ss Ts cs)) → g ≤ k
  gaps_from g [] Ts cs k i = absurd (Memᴰ.not-nil i)
  gaps_from g (S ∷ Ss) [] cs k i = absurd (Memᴰ.not-nil i)
  gaps_from g (S ∷ Ss) (T ∷ Ts) [] k i = absurd (Memᴰ.not-nil i)
  gaps_from g (S ∷ Ss) (T ∷ Ts) (exact n ∷ cs) k i = let h = gaps_from (suc g) Ss Ts cs k i in omega arith
  gaps_from g (S ∷ Ss) (T ∷ Ts) (long ∷ cs) k i = go (Memᴰ.cases_cons i) (λ j. gaps_from (suc g) Ss Ts cs k j)
    where
      go : (k ≡ g) ⊎ Memᴰ k (gaps (fields_for (suc g) Ss Ts cs)) → (Memᴰ k (gaps (fields_for (suc g) Ss Ts cs)) → suc g ≤ k) → g ≤ k
      go (inl e) rec = omega arith
      go (inr j) rec = let h = rec j in omega arith

  gaps_distinct : (g : ℕ) (Ss : List (Shape A L)) (Ts : List (Shape A M)) (cs : List Cand) → Distinct (gaps (fields_for g Ss Ts cs))
  gaps_distinct g [] Ts cs = tt
  gaps_distinct g (S ∷ Ss) [] cs = tt
  gaps_distinct g (S ∷ Ss) (T ∷ Ts) [] = tt
  gaps_distinct g (S ∷ Ss) (T ∷ Ts) (exact n ∷ cs) = gaps_distinct (suc g) Ss Ts cs
  gaps_distinct g (S ∷ Ss) (T ∷ Ts) (long ∷ cs) = (λ i. let h = gaps_from (suc g) Ss Ts cs g i in omega arith, gaps_distinct (suc g) Ss Ts cs)

-- ---- an entry's fields as instances of its choice's fields

module _ {C K A : Type 0} (s : Variable K A → Atom C (Variable K A)) where
  abbrev T : Type 0
  T = Term C (Full K) (Origin A)

  abbrev θ : Variable K A → T
  θ x = term_of (s x)

  as_term : (a : Atom C (Variable K A)) → val con θ a ≡ term_of (sub_a s a)
  as_term (fixed c) = refl
  as_term (free x) = refl

  as_terms : (xs : List (Atom C (Variable K A))) → map term_of (map (sub_a s) xs) ≡ map (val con θ) xs
  as_terms [] = refl
  as_terms (a ∷ xs) = ap₂ (λ (t : T) (r : List T). t ∷ r) (sym (as_term a)) (as_terms xs)

  show_inst : (S : Shape (Atom C (Variable K A)) ℕ) → Inst (val con θ) S (field_of (map_shape (sub_a s) S))
  show_inst (closed xs) = as_terms xs
  show_inst (gapped f g t) = (var list (place g) ∷ [], ap₂ (λ (x y : List T). x ++ var list (place g) ∷ y) (as_terms f) (as_terms t))

  show_insts : (Ss : List (Shape (Atom C (Variable K A)) ℕ)) → Insts (val con θ) Ss (map field_of (map (map_shape (sub_a s)) Ss))
  show_insts [] = tt
  show_insts (S ∷ Ss) = (show_inst S, show_insts Ss)

module _ (O : Order) (C : Consts O) {A : Type 0} (name_eq : Discrete A) (Ss Ts : List (PairShape O C name_eq)) where
  abbrev N : Vars O
  N = pair_vars O name_eq

  abbrev X : Type 0
  X = Variable O.Kind A

  abbrev pub Raw : Type 0
  Raw = List Cand × PairState O C name_eq

  abbrev pub raw : List (List Cand × PairState O C name_eq)
  raw = entries O C N A A Ss Ts (start O C N)

  abbrev original : List Cand × PairState O C name_eq → List (List (TermOver O C (Origin A)))
  original e = origin_fields O C name_eq Ss Ts e

  pub good : (e : List Cand × PairState O C name_eq) → Memᴰ e raw → Good O C N e.1
  good e i = (known O C N A A 0 Ss Ts (start O C N) (start_good O C N) e i).good

  -- ---- the values shown are of their variables' types

  term_kind : (a : At O C N) (k : O.Kind) → O.le (kind_a O C N a) k ≡ true → full_le O (kind_of O C (term_of a)) (basic k) ≡ true
  term_kind (fixed c) k h = h
  term_kind (free (of s j a)) k h = h

  original_typed : (d : Side) (Rs : List (PairShape O C name_eq)) (fs : List (List (TermOver O C (Origin A)))) (e : List Cand × PairState O C name_eq)
      → Memᴰ e raw
      → TypedSubst O C (origin_value O C name_eq d Rs e.1 fs)
  original_typed d Rs fs e i (basic k) a = (term_of (e.1 (of d k a)), refl, term_kind (e.1 (of d k a)) k ((good e i).kinds (of d k a)))
  original_typed d Rs fs e i list a = tt

  pub left_typed : (e : List Cand × PairState O C name_eq) → Memᴰ e raw → TypedSubst O C (shown O C name_eq Ss Ts e).left
  left_typed e i =
      rename_typed O C (origin_value O C name_eq left Ss e.1 (original e)) (original_typed left Ss (original e) e i) (numbers_of O C name_eq (original e))

  pub right_typed : (e : List Cand × PairState O C name_eq) → Memᴰ e raw → TypedSubst O C (shown O C name_eq Ss Ts e).right
  right_typed e i =
      rename_typed O C (origin_value O C name_eq right Ts e.1 (original e)) (original_typed right Ts (original e) e i) (numbers_of O C name_eq (original e))

  -- ---- the values shown turn both rules into the entry's fields

  instances : (e : List Cand × PairState O C name_eq) → Memᴰ e raw
      → Insts (val con (θ e.1)) Ss (original e) × Insts (val con (θ e.1)) Ts (original e)
  instances e i =
      let r = walk_back O C N A A con (θ e.1) 0 Ss Ts (start O C N) (start_good O C N) e i own (original e) (show_insts e.1 (fields_for 0 Ss Ts e.0)) in
      (r.1, r.2)
    where
      own : RespectsY O C N con (θ e.1) e.1
      own x = sym (as_term e.1 (e.1 x) ∙ ap term_of ((good e i).idem x))

  original_solves : (d : Side) (Rs : List (PairShape O C name_eq)) → Distinct (gaps Rs) → (r : List (List (TermOver O C A))) → shapes_of d r ≡ some Rs
      → (e : List Cand × PairState O C name_eq) → Insts (val con (θ e.1)) Rs (original e)
      → map (substitute (origin_value O C name_eq d Rs e.1 (original e))) r ≡ original e
  original_solves d Rs lin r is e h =
      let σ = origin_value O C name_eq d Rs e.1 (original e) in
      substs_by σ r ∙ shapes_fill con σ d (θ e.1) (λ k a. refl) r Rs is ∙ named_to (val con (θ e.1)) name_eq Rs lin (original e) h

  module _ (r₁ r₂ : List (List (TermOver O C A))) (is₁ : shapes_of left r₁ ≡ some Ss)
      (is₂ : shapes_of right r₂ ≡ some Ts) (lin₁ : Distinct (gaps Ss)) (lin₂ : Distinct (gaps Ts)) where
    -- before the renumbering
    pub original_left : (e : List Cand × PairState O C name_eq) → Memᴰ e raw
        → map (substitute (origin_value O C name_eq left Ss e.1 (origin_fields O C name_eq Ss Ts e))) r₁ ≡ origin_fields O C name_eq Ss Ts e
    original_left e i = original_solves left Ss lin₁ r₁ is₁ e (instances e i).0

    pub original_right : (e : List Cand × PairState O C name_eq) → Memᴰ e raw
        → map (substitute (origin_value O C name_eq right Ts e.1 (origin_fields O C name_eq Ss Ts e))) r₂ ≡ origin_fields O C name_eq Ss Ts e
    original_right e i = original_solves right Ts lin₂ r₂ is₂ e (instances e i).1

    pub left_solves : (e : List Cand × PairState O C name_eq) → Memᴰ e raw
        → map (substitute (shown O C name_eq Ss Ts e).left) r₁ ≡ (shown O C name_eq Ss Ts e).fields
    left_solves e i =
        let ν = numbers_of O C name_eq (original e) in
        sym (rename_substs ν (origin_value O C name_eq left Ss e.1 (original e)) r₁) ∙ ap (map (map (rename ν))) (original_left e i)

    pub right_solves : (e : List Cand × PairState O C name_eq) → Memᴰ e raw
        → map (substitute (shown O C name_eq Ss Ts e).right) r₂ ≡ (shown O C name_eq Ss Ts e).fields
    right_solves e i =
        let ν = numbers_of O C name_eq (original e) in
        sym (rename_substs ν (origin_value O C name_eq right Ts e.1 (original e)) r₂) ∙ ap (map (map (rename ν))) (original_right e i)

    -- ---- a slip that both rules match fits an entry

    rule_instance : (d : Side) (Rs : List (PairShape O C name_eq)) (r : List (List (TermOver O C A)))
        → shapes_of d r ≡ some Rs → (w : List (List C.Con)) (φ : FillingOver O C A)
        → (τ : X → C.Con) → ((k : O.Kind) (a : A) → φ (basic k) a ≡ τ (of d k a) ∷ []) → map (fill φ) r ≡ w → Insts (val_g τ) Rs w
    rule_instance d Rs r is w φ τ h e = named_from (val_g τ) (φ list) Rs w (sym (shapes_fill (λ c. c) φ d τ h r Rs is) ∙ sym (fills_by φ r) ∙ e)

    entry_matches : (e : List Cand × PairState O C name_eq) (w : List (List C.Con)) → FitsEntry O C N A A Ss Ts e w → Matches O C (original e) w
    entry_matches e w h =
        (φ, typed, fills_by φ (original e) ∙ original_fill (λ c. c) φ h.0 (λ s k a. refl) shapes ∙ named_to (val_g h.0) ℕ_discrete shapes linear w h.2)
      where
        shapes : List (Shape (At O C N) ℕ)
        shapes = resolved O C N A A Ss Ts e

        linear : Distinct (gaps shapes)
        linear = along Distinct (sym (gaps_map (sub_a e.1) (fields_for 0 Ss Ts e.0))) (gaps_distinct 0 Ss Ts e.0)

        φ : FillingOver O C (Origin A)
        φ (basic k) (named s a) = h.0 (of s k a) ∷ []
        φ (basic k) (place g) = C.some_of k ∷ []
        φ list (named s a) = []
        φ list (place g) = run_of ℕ_discrete shapes w g

        typed : Typed O C φ
        typed (basic k) (named s a) = (h.0 (of s k a), refl, h.1 (of s k a))
        typed (basic k) (place g) = (C.some_of k, refl, C.some_of_le k)
        typed list m = tt

    pub covered : (w : List (List C.Con)) → Matches O C r₁ w → Matches O C r₂ w
        → (e : List Cand × PairState O C name_eq) × Memᴰ e raw × Matches O C (shown O C name_eq Ss Ts e).fields w
    covered w h₁ h₂ =
        let e = has_entry O C N A A Ss Ts w (
          τ,
          typed,
          rule_instance left Ss r₁ is₁ w h₁.0 τ (λ k a. (h₁.1 (basic k) a).1) h₁.2,
          rule_instance right Ts r₂ is₂ w h₂.0 τ (λ k a. (h₂.1 (basic k) a).1) h₂.2,
        ) in
        (e.0, e.1, renumbered_to O C (origin-eq side-eq name_eq ℕ_discrete) (original e.0) w (entry_matches e.0 w e.2))
      where
        τ : X → C.Con
        τ (of left k a) = (h₁.1 (basic k) a).0
        τ (of right k a) = (h₂.1 (basic k) a).0

        typed : ground.Typed O C N τ
        typed (of left k a) = (h₁.1 (basic k) a).2
        typed (of right k a) = (h₂.1 (basic k) a).2

  -- ---- a slip that fits an entry picks its choice

  pub fits_choice : (e : List Cand × PairState O C name_eq) → Memᴰ e raw → (w : List (List C.Con))
      → Matches O C (shown O C name_eq Ss Ts e).fields w → picks Ss Ts w ≡ e.0
  fits_choice e i w h = fits_picks O C N A A Ss Ts e i w (
    τ,
    typed,
    named_from (val_g τ) (λ g. m.0 list (place g)) (resolved O C N A A Ss Ts e) w
        (sym (original_fill (λ c. c) m.0 τ (λ s k a. (m.1 (basic k) (named s a)).1) (resolved O C N A A Ss Ts e))
        ∙ sym (fills_by m.0 (original e)) ∙ m.2),
  )
    where
      m : Matches O C (original e) w
      m = renumbered_from O C (origin-eq side-eq name_eq ℕ_discrete) (original e) w h

      τ : X → C.Con
      τ (of s k a) = (m.1 (basic k) (named s a)).0

      typed : ground.Typed O C N τ
      typed (of s k a) = (m.1 (basic k) (named s a)).2

  pub same_choice : (e e' : List Cand × PairState O C name_eq) → Memᴰ e raw → Memᴰ e' raw → e.0 ≡ e'.0 → e ≡ e'
  same_choice e e' i i' p = by_choice O C N A A Ss Ts (start O C N) e e' i i' p
