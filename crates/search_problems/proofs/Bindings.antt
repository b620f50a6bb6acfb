-- σ ∘ {x ↦ s} on the record's bindings: its atoms, and the values of the two list variables.
use mathlib.Core.Path.{◌≡◌, refl, sym, ◌∙◌, ap, ap₂, subst}
use mathlib.Core.Logic.{ite}
use mathlib.Core.Bool.{Bool, true, false, cond}
use mathlib.Core.Option.{Option}
use mathlib.Core.List.{List, [], ◌∷◌, append-nil}
use Prim.Native.Nat.{ℕ, ◌≤◌}
use native.Mathlib.Omega.{arith}
use native.Mathlib.Decide.{ℕ_discrete}
use lib.Dec.{eqb, leb}
use lib.ListN.{length, get_or}
use borrow.Author.Tests.{eqb-true}
use Rattle.base_limits.specs.Limits.{pair_places}
use Rattle.base_lists.specs.Seqs.{All}
use Rattle.math_types.specs.Types.{Basic, basic_eq, basics}
use Rattle.text_grammar.specs.constants.Constants.{consts}
use Rattle.math_overlaps.specs.Shapes.{fixed, free, side-eq, Variable, variable-eq, free_once}
use Rattle.math_overlaps.specs.Joins.{resolve, replace, bind}
use Rattle.math_search.specs.Problems.{atomic, listvar, Tm, Field, tm_eq, Bindings, put, put_in, compose}
use Rattle.math_search.specs.Answers.{Fits}
use Rattle.math_search.proofs.Terms.{atomic_once, atomic≢listvar}
use Rattle.math_search.proofs.Counts.{put_self, put_ne}
use Rattle.math_codes.specs.Tables.{same}
use Rattle.math_codes.specs.States.{swap, replaced}
use Rattle.math_codes.specs.Lines.{OurAtom, our_vars}
use Rattle.math_codes.proofs.Tables.{is_code}
use Rattle.math_codes.proofs.Joins.{Codes, Represents, represents_bind}
use Rattle.search_spec.specs.Answers.{setting}
use Rattle.pair_state.specs.declared.State.{State}
use Rattle.search_items.specs.codes.Codes.{code_tm, On}
use Rattle.search_items.proofs.codes.Codes.{code_list}
use Rattle.search_items.specs.Items.{most_codes, items_of}
use Rattle.search_items.specs.Values.{items_value}
use Rattle.search_items.proofs.Agree.{first_agree, put_in_items}
use Rattle.search_problems.specs.Applied.{put_items, bound_atoms}
use Rattle.search_problems.proofs.Holds.{OurState, one_atom, state_of, value_in}
use Rattle.search_problems.proofs.Own as own

-- ---- every place that has x gets x

swap_self : (x c : ℕ) → swap x x c ≡ c
swap_self x c = go (eqb c x) refl
  where
    go : (b : Bool) → eqb c x ≡ b → cond b x c ≡ c
    go true e = sym (eqb-true c x e)
    go false e = refl

replaced_self : (x : ℕ) (l : List ℕ) → replaced x x l ≡ l
replaced_self x [] = refl
replaced_self x (c ∷ l) = ap₂ (λ (d : ℕ) (m : List ℕ). d ∷ m) (swap_self x c) (replaced_self x l)

-- ---- the atom that a variable stands for

module _ (σ : Bindings setting) (kinds : (t : Tm setting) → Fits setting t (σ t)) where
  -- with the binding put in
  state_at : (x : Tm setting) (s : Field setting) (y : Variable Basic ℕ)
      → state_of (compose setting σ x s) y ≡ one_atom y (put setting x s (atomic (kinds (atomic (free y))).0))
  state_at x s y =
      let h = kinds (atomic (free y)) in
      ap (λ (K : Field setting). one_atom y (put_in setting x s K)) h.1 ∙ ap (one_atom y) (append-nil (put setting x s (atomic h.0)))

  state_old : (y : Variable Basic ℕ) → state_of σ y ≡ (kinds (atomic (free y))).0
  state_old y = ap (one_atom y) (kinds (atomic (free y))).1

  state_list : (n : ℕ) (s : Field setting) (y : Variable Basic ℕ) → state_of σ y ≡ state_of (compose setting σ (listvar n) s) y
  state_list n s y =
      let a = (kinds (atomic (free y))).0 in
      state_old y ∙ sym (state_at (listvar n) s y ∙ ap (one_atom y) (put_ne setting (listvar n) s (atomic a) (λ e. atomic≢listvar e)))

  state_self : (x : Tm setting) (y : Variable Basic ℕ) → state_of σ y ≡ state_of (compose setting σ x (x ∷ [])) y
  state_self x y = state_old y ∙ sym (state_at x (x ∷ []) y ∙ ap (one_atom y) (go (atomic (kinds (atomic (free y))).0)))
    where
      go : (t : Tm setting) → put setting x (x ∷ []) t ≡ t ∷ []
      go t = pick (tm_eq setting t x)
        where
          pick : (d : Dec (t ≡ x)) → ite d (x ∷ []) (t ∷ []) ≡ t ∷ []
          pick (yes e) = ap (λ (z : Tm setting). z ∷ []) (sym e)
          pick (no n) = refl

  state_atom : (x : Variable Basic ℕ) (w : OurAtom) (y : Variable Basic ℕ)
      → bind basics consts our_vars x w (state_of σ) y ≡ state_of (compose setting σ (atomic (free x)) (atomic w ∷ [])) y
  state_atom x w y =
      ap (replace basics consts our_vars x w) (state_old y) ∙ go (kinds (atomic (free y))).0 ∙ sym (state_at (atomic (free x)) (atomic w ∷ []) y)
    where
      go : (a : OurAtom) → replace basics consts our_vars x w a ≡ one_atom y (put setting (atomic (free x)) (atomic w ∷ []) (atomic a))
      go (fixed c) =
          sym (ap (one_atom y) (put_ne setting (atomic (free x)) (atomic w ∷ []) (atomic (fixed c)) (λ e. let o : ◌≡◌ {A = ℕ} 0 1 = cc in omega arith)))
      go (free z) = pick (variable-eq side-eq basic_eq ℕ_discrete z x)
        where
          pick : (d : Dec (z ≡ x)) → ite d w (free z) ≡ one_atom y (put setting (atomic (free x)) (atomic w ∷ []) (atomic (free z)))
          pick (yes e) =
              sym (ap (λ (v : Variable Basic ℕ). one_atom y (put setting (atomic (free x)) (atomic w ∷ []) (atomic (free v)))) e
              ∙ ap (one_atom y) (put_self setting (atomic (free x)) (atomic w ∷ [])))
          pick (no n) = sym (ap (one_atom y) (put_ne setting (atomic (free x)) (atomic w ∷ []) (atomic (free z)) (λ e. n (free_once (atomic_once e)))))

-- over the pair's table
module _ (t : List (Option OurAtom)) where
  -- the record's atoms represent a state
  abbrev Has : List ℕ → OurState → Type 0
  Has atoms s = Represents basics consts our_vars t atoms s

  -- ---- states that agree

  represents_same : (atoms : List ℕ) (s s' : OurState) → ((x : Variable Basic ℕ) → s x ≡ s' x) → Has atoms s → Has atoms s'
  represents_same atoms s s' e h =
      record {
        long = h.long;
        held = λ p a i. subst (Codes basics consts our_vars t (get_or atoms p 0)) (resolved a) (h.held p a i);
      }
    where
      resolved : (a : OurAtom) → resolve basics consts our_vars s a ≡ resolve basics consts our_vars s' a
      resolved (fixed c) = refl
      resolved (free x) = e x

  -- ---- the atoms of the record

  module _ (long : length t ≡ pair_places) where
    module _ (σ : Bindings setting) (kinds : (x : Tm setting) → Fits setting x (σ x)) (st : State) (h : Has st.atoms (state_of σ)) where
      -- what stands where x is bound to s
      abbrev After : Tm setting → Field setting → State → Type 0
      After x s next = Has next.atoms (state_of (compose setting σ x s))

      abbrev swapped : Tm setting → ℕ → State
      swapped x c = record { atoms = replaced (code_tm t x) c st.atoms }

      -- of an atom, by the code of the first term that it is bound to
      one_atom_lem : (x : Tm setting) (s : Field setting) (c : ℕ) → leb pair_places (code_tm t x) ≡ false → get_or (items_of (items_value t s)) 0 0 ≡ c
          → After x s (swapped x c) → After x s (bound_atoms (code_tm t x) (items_value t s) st)
      one_atom_lem x s c e g k = rw (e, g) k

      -- bound to itself
      kept_self : (x : Tm setting) (s : Field setting) → leb pair_places (code_tm t x) ≡ false → s ≡ x ∷ []
          → After x s (bound_atoms (code_tm t x) (items_value t s) st)
      kept_self x s e g =
          subst (λ (s : Field setting). After x s (bound_atoms (code_tm t x) (items_value t s) st)) (sym g)
          (one_atom_lem x (x ∷ []) (code_tm t x) e (first_agree t x [] (omega arith))
          (subst (λ (l : List ℕ). Has l (state_of (compose setting σ x (x ∷ [])))) (sym (replaced_self (code_tm t x) st.atoms))
          (represents_same st.atoms (state_of σ) (state_of (compose setting σ x (x ∷ []))) (state_self σ kinds x) h)))

      pub atoms_bound : (x : Tm setting) (s : Field setting) → On t x → All (On t) s → Fits setting x s
          → After x s (bound_atoms (code_tm t x) (items_value t s) st)
      atoms_bound (listvar n) s i j g =
          rw (code_list t long (listvar n) i)
          (represents_same st.atoms (state_of σ) (state_of (compose setting σ (listvar n) s)) (state_list σ kinds n s) h)
      atoms_bound (atomic (fixed c)) s i j g = kept_self (atomic (fixed c)) s (code_list t long (atomic (fixed c)) i) g
      atoms_bound (atomic (free y)) s i j g =
          subst (λ (s : Field setting). After x s (bound_atoms (code_tm t x) (items_value t s) st)) (sym g.1)
          (one_atom_lem x (atomic w ∷ []) (code_tm t (atomic w)) (code_list t long x i) (first_agree t (atomic w) [] (omega arith))
          (represents_same (replaced (code_tm t x) (code_tm t (atomic w)) st.atoms) (bind basics consts our_vars y w (state_of σ))
          (state_of (compose setting σ x (atomic w ∷ []))) (state_atom σ kinds y w)
          (represents_bind basics consts our_vars t y w (code_tm t x) (code_tm t (atomic w))
          (is_code (same basics consts our_vars) t i.0 (free y) i.1) (is_code (same basics consts our_vars) t k.0 w k.1)
          st.atoms (state_of σ) h)))
        where
          x : Tm setting
          x = atomic (free y)

          w : OurAtom
          w = g.0

          k : On t (atomic w)
          k = (subst (All (On t)) g.1 j).0

    -- ---- the values of the list variables

    pub value_bound : (σ : Bindings setting) (x : Tm setting) (s : Field setting) → On t x → length s ≤ most_codes
        → (u : List ℕ) → All (own.Fits t σ) u → put_items (code_tm t x) (items_value t s) (value_in t σ u) ≡ value_in t (compose setting σ x s) u
    value_bound σ x s i l [] h = refl
    value_bound σ x s i l (n ∷ u) h = put_in_items t long x s (σ (listvar n)) i h.0.1 l h.0.0
