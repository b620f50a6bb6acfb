-- THE THEOREMS OF THE OVERLAP LIST (demand 3), for left-linear rules.
--     exact                           both rules match a slip exactly when it fits an entry
--     one_entry, one_place            it then fits that entry only; `overlaps_distinct`: no entry stands twice
--     fillings-left, fillings-right   both rules match it with the fillings that the entry shows
--     entry-solves                    an entry is a solution
--     has-slip                        every entry has a slip
--     minimal                         no list of solutions that covers all shared slips is shorter
--     entry-constants                 no constants but the rules' come in
--     numbered                        the entry's variables have in each type the numbers 0, 1, 2, .. by first occurrence
--     numbers-few, lists-few          no more than the rules have names, no more list variables than fields
--     fields-short, values-short      at most 31 terms
--     values-occur                    the values shown have the variables of the entry's fields
use mathlib.Core.Path.{◌≡◌, refl, sym, ◌∙◌, ap, ap₂, subst as along}
use mathlib.Core.Logic.{◌↔◌}
use mathlib.Core.Bool.{true, false≢true}
use mathlib.Core.Option.{some}
use mathlib.Core.List.Memᴰ
use mathlib.Core.List.{List, map, Memᴰ}
use Prim.Native.Nat.{ℕ, ◌+◌, ◌≤◌, ◌<◌}
use native.Mathlib.Decide.{ℕ_discrete}
use lib.ListN.{length, get_elem?}
use Rattle.base_limits.specs.Limits.{most_terms, entry_terms}
use Rattle.base_lists.specs.Seqs.{All, Any}
use Rattle.math_types.specs.Order.{Order, Full, basic, list, full_le, full-eq}
use Rattle.math_terms.specs.Terms.{con, var}
use Rattle.math_terms.specs.Constants.{Consts, TermOver}
use Rattle.math_terms.specs.Seqs.{concat_map, Distinct}
use Rattle.math_terms.specs.Fillings.{FillingOver, Typed, fill, Occurs}
use Rattle.math_terms.specs.Matching.{Matches}
use Rattle.math_terms.specs.Linear.{LeftLinear}
use Rattle.math_terms.proofs.Matching.{typed_one}
use Rattle.math_overlaps.specs.Substitutions.{substitute, kind_of, TypedSubst}
use Rattle.math_overlaps.specs.Constants.{ConstantIn}
use Rattle.math_overlaps.specs.Shapes.{Atom, fixed, free, val, left, right, side-eq, Variable, of, pair_vars, shapes_of}
use Rattle.math_overlaps.specs.Candidates.{Cand, range}
use Rattle.math_overlaps.specs.Joins.{start}
use Rattle.math_overlaps.specs.Overlaps.{firsts, names_of, origin-eq, Entry, PairShape, PairState, origin_fields, shown, listed, overlaps}
use Rattle.math_overlaps.specs.Solutions.{Solution, fields_of, Covers}
use Rattle.math_overlaps.proofs.Seqs.{pigeon, distinct_map_in, at_in, same_place}
use Rattle.math_overlaps.proofs.Walks.{picks, entries_distinct}
use Rattle.math_overlaps.proofs.Named.{gaps, fill_shape}
use Rattle.math_overlaps.proofs.Filled.{substs_by, shapes_fill}
use Rattle.math_overlaps.proofs.Minimal.{IsAtom, same_picks}
use Rattle.math_overlaps.proofs.Renumbered.{some_value, some_value_typed}
use Rattle.math_overlaps.proofs.Typed.{fill_substs, fill_typed}
use Rattle.math_overlaps.proofs.Linear.{linear_shapes, shapes_count}
use Rattle.math_overlaps.proofs.Listed.{raw, left_typed, right_typed, left_solves, right_solves, covered, fits_choice, same_choice}
use Rattle.math_overlaps.proofs.Ours.{rule_in, all_filled_in, fields_ours, left_ours, right_ours}
use Rattle.math_overlaps.proofs.Lengths.{AtMost, short_rule, shown_few}
use Rattle.math_overlaps.proofs.Numbers.{by_first, numbers_below, lists_below}
use Rattle.math_overlaps.proofs.Parts.{part_of_rule, part_occurs, part_short}

module _ (O : Order) (C : Consts O) {A : Type 0} (name_eq : Discrete A)
    (r₁ r₂ : List (List (TermOver O C A))) (lin₁ : LeftLinear r₁) (lin₂ : LeftLinear r₂) where
  abbrev Slip : Type 0
  Slip = List (List C.Con)

  -- ---- the shapes of the rules

  linear₁ : (Ss : List (PairShape O C name_eq)) × (shapes_of left r₁ ≡ some Ss) × Distinct (gaps Ss)
  linear₁ = linear_shapes left r₁ lin₁

  linear₂ : (Ts : List (PairShape O C name_eq)) × (shapes_of right r₂ ≡ some Ts) × Distinct (gaps Ts)
  linear₂ = linear_shapes right r₂ lin₂

  abbrev Ss : List (PairShape O C name_eq)
  Ss = linear₁.0

  abbrev Ts : List (PairShape O C name_eq)
  Ts = linear₂.0

  abbrev Raw : Type 0
  Raw = List Cand × PairState O C name_eq

  abbrev entry_of : Raw → Entry O C A
  entry_of e = shown O C name_eq Ss Ts e

  is_list_lem : overlaps O C name_eq r₁ r₂ ≡ map entry_of (raw O C name_eq Ss Ts)
  is_list_lem = ap₂ (listed O C name_eq) linear₁.1 linear₂.1

  -- an entry comes from a choice and its last state
  chosen : (e : Entry O C A) → Memᴰ e (overlaps O C name_eq r₁ r₂) → (x : Raw) × Memᴰ x (raw O C name_eq Ss Ts) × (entry_of x ≡ e)
  chosen e i = Memᴰ.of_map entry_of (raw O C name_eq Ss Ts) (along (λ (l : List (Entry O C A)). Memᴰ e l) is_list_lem i)

  -- ---- the values shown

  typed_left : (e : Entry O C A) → Memᴰ e (overlaps O C name_eq r₁ r₂) → TypedSubst O C e.left
  typed_left e i = let x = chosen e i in along (λ (y : Entry O C A). TypedSubst O C y.left) x.2 (left_typed O C name_eq Ss Ts x.0 x.1)

  typed_right : (e : Entry O C A) → Memᴰ e (overlaps O C name_eq r₁ r₂) → TypedSubst O C e.right
  typed_right e i = let x = chosen e i in along (λ (y : Entry O C A). TypedSubst O C y.right) x.2 (right_typed O C name_eq Ss Ts x.0 x.1)

  solves_left : (e : Entry O C A) → Memᴰ e (overlaps O C name_eq r₁ r₂) → map (substitute e.left) r₁ ≡ e.fields
  solves_left e i =
      let x = chosen e i in
      along (λ (y : Entry O C A). map (substitute y.left) r₁ ≡ y.fields) x.2
      (left_solves O C name_eq Ss Ts r₁ r₂ linear₁.1 linear₂.1 linear₁.2 linear₂.2 x.0 x.1)

  solves_right : (e : Entry O C A) → Memᴰ e (overlaps O C name_eq r₁ r₂) → map (substitute e.right) r₂ ≡ e.fields
  solves_right e i =
      let x = chosen e i in
      along (λ (y : Entry O C A). map (substitute y.right) r₂ ≡ y.fields) x.2
      (right_solves O C name_eq Ss Ts r₁ r₂ linear₁.1 linear₂.1 linear₁.2 linear₂.2 x.0 x.1)

  -- AN ENTRY IS A SOLUTION, whose fields are the entry's
  pub entry_solves : (e : Entry O C A) → Memᴰ e (overlaps O C name_eq r₁ r₂)
      → (x : Solution O C r₁ r₂ ℕ) × (x.left ≡ e.left) × (x.right ≡ e.right) × (fields_of O C r₁ r₂ ℕ x ≡ e.fields)
  entry_solves e i = (
    record {
      left = e.left;
      right = e.right;
      typed_left = typed_left e i;
      typed_right = typed_right e i;
      same = solves_left e i ∙ sym (solves_right e i);
    },
    refl,
    refl,
    solves_left e i,
  )

  -- THE FILLINGS: the entry's filling, put into the values shown, is a filling of the rule; by `match_unique` there is no other
  pub fillings_left : (e : Entry O C A) → Memᴰ e (overlaps O C name_eq r₁ r₂)
      → (w : List (List C.Con)) (ψ : FillingOver O C ℕ) → Typed O C ψ → map (fill ψ) e.fields ≡ w
      → Typed O C (λ k a. fill ψ (e.left k a)) × (map (fill (λ k a. fill ψ (e.left k a))) r₁ ≡ w)
  fillings_left e i w ψ t h = (fill_typed O C e.left (typed_left e i) ψ t, sym (fill_substs ψ e.left r₁) ∙ ap (map (fill ψ)) (solves_left e i) ∙ h)

  pub fillings_right : (e : Entry O C A) → Memᴰ e (overlaps O C name_eq r₁ r₂)
      → (w : List (List C.Con)) (ψ : FillingOver O C ℕ) → Typed O C ψ → map (fill ψ) e.fields ≡ w
      → Typed O C (λ k a. fill ψ (e.right k a)) × (map (fill (λ k a. fill ψ (e.right k a))) r₂ ≡ w)
  fillings_right e i w ψ t h = (fill_typed O C e.right (typed_right e i) ψ t, sym (fill_substs ψ e.right r₂) ∙ ap (map (fill ψ)) (solves_right e i) ∙ h)

  -- ---- exactness and uniqueness

  -- EXACT: both rules match a slip exactly when it fits an entry
  pub exact : (w : List (List C.Con))
      → (Matches O C r₁ w × Matches O C r₂ w) ↔ ((e : Entry O C A) × Memᴰ e (overlaps O C name_eq r₁ r₂) × Matches O C e.fields w)
  exact w = (to, from)
    where
      to : Matches O C r₁ w × Matches O C r₂ w → (e : Entry O C A) × Memᴰ e (overlaps O C name_eq r₁ r₂) × Matches O C e.fields w
      to h =
          let x = covered O C name_eq Ss Ts r₁ r₂ linear₁.1 linear₂.1 linear₁.2 linear₂.2 w h.0 h.1 in
          (entry_of x.0, along (λ (l : List (Entry O C A)). Memᴰ (entry_of x.0) l) (sym is_list_lem) (Memᴰ.map entry_of x.1), x.2)

      from : (e : Entry O C A) × Memᴰ e (overlaps O C name_eq r₁ r₂) × Matches O C e.fields w → Matches O C r₁ w × Matches O C r₂ w
      from h =
          let m = h.2 in
          let a = fillings_left h.0 h.1 w m.0 m.1 m.2 in
          let b = fillings_right h.0 h.1 w m.0 m.1 m.2 in
          ((λ k a. fill m.0 (h.0.left k a), a.0, a.1), (λ k a. fill m.0 (h.0.right k a), b.0, b.1))

  -- slips that pick the same choice fit the same entry
  by_picks : (e e' : Entry O C A) → Memᴰ e (overlaps O C name_eq r₁ r₂) → Memᴰ e' (overlaps O C name_eq r₁ r₂) → (w w' : Slip)
      → Matches O C e.fields w → Matches O C e'.fields w' → picks Ss Ts w ≡ picks Ss Ts w' → e ≡ e'
  by_picks e e' i i' w w' h h' p =
      let x = chosen e i in
      let y = chosen e' i' in
      let a = fits_choice O C name_eq Ss Ts x.0 x.1 w (along (λ (z : Entry O C A). Matches O C z.fields w) (sym x.2) h) in
      let b = fits_choice O C name_eq Ss Ts y.0 y.1 w' (along (λ (z : Entry O C A). Matches O C z.fields w') (sym y.2) h') in
      sym x.2 ∙ ap entry_of (same_choice O C name_eq Ss Ts x.0 y.0 x.1 y.1 (sym a ∙ p ∙ b)) ∙ y.2

  -- ONE ENTRY ONLY
  pub one_entry : (e e' : Entry O C A) → Memᴰ e (overlaps O C name_eq r₁ r₂) → Memᴰ e' (overlaps O C name_eq r₁ r₂) → (w : List (List C.Con))
      → Matches O C e.fields w → Matches O C e'.fields w → e ≡ e'
  one_entry e e' i i' w h h' = by_picks e e' i i' w w h h' refl

  -- every variable by the constant of its type, every list variable by no terms
  some_slip : (e : Entry O C A) → Matches O C e.fields (map (fill (λ k b. some_value O C k)) e.fields)
  some_slip e = (λ k b. some_value O C k, (λ k b. some_value_typed O C k), refl)

  pub overlaps_distinct : Distinct (overlaps O C name_eq r₁ r₂)
  overlaps_distinct = along Distinct (sym is_list_lem)
      (distinct_map_in entry_of (raw O C name_eq Ss Ts) once (entries_distinct O C (pair_vars O name_eq) A A Ss Ts (start O C (pair_vars O name_eq))))
    where
      once : (x y : Raw) → Memᴰ x (raw O C name_eq Ss Ts) → Memᴰ y (raw O C name_eq Ss Ts) → entry_of x ≡ entry_of y → x ≡ y
      once x y i j e =
          let w = map (fill (λ k b. some_value O C k)) (entry_of x).fields in
          let h = some_slip (entry_of x) in
          same_choice O C name_eq Ss Ts x y i j
          (sym (fits_choice O C name_eq Ss Ts x i w h) ∙ fits_choice O C name_eq Ss Ts y j w (along (λ (z : Entry O C A). Matches O C z.fields w) e h))

  -- the same by places in the list: entries at two places share no slip
  pub one_place : (i j : ℕ) (e e' : Entry O C A) → get_elem? (overlaps O C name_eq r₁ r₂) i ≡ some e
      → get_elem? (overlaps O C name_eq r₁ r₂) j ≡ some e' → (w : List (List C.Con))
      → Matches O C e.fields w → Matches O C e'.fields w → i ≡ j
  one_place i j e e' p q w h h' =
      let l = overlaps O C name_eq r₁ r₂ in
      let s = one_entry e e' (at_in l i e p) (at_in l j e' q) w h h' in
      same_place l overlaps_distinct i j e p (q ∙ ap some (sym s))

  -- ---- constants that can be read: no others come in, and they are enough for a slip and for minimality

  module _ (Ours : C.Con → Type 0) (ours : (k : O.Kind) → Ours (C.some_of k))
      (ours₁ : All (All (ConstantIn Ours)) r₁) (ours₂ : All (All (ConstantIn Ours)) r₂) where
    pub entry_constants : (e : Entry O C A) → Memᴰ e (overlaps O C name_eq r₁ r₂)
        → All (All (ConstantIn Ours)) e.fields × ((k : Full O.Kind) (a : A) → All (ConstantIn Ours) (e.left k a))
        × ((k : Full O.Kind) (a : A) → All (ConstantIn Ours) (e.right k a))
    entry_constants e i =
        let x = chosen e i in
        along (λ (y : Entry O C A). All (All (ConstantIn Ours)) y.fields × ((k : Full O.Kind) (a : A) → All (ConstantIn Ours) (y.left k a))
        × ((k : Full O.Kind) (a : A) → All (ConstantIn Ours) (y.right k a))) x.2 (
          fields_ours O C name_eq Ss Ts Ours (rule_in Ours left r₁ Ss linear₁.1 ours₁) (rule_in Ours right r₂ Ts linear₂.1 ours₂) x.0 x.1,
          left_ours O C name_eq Ss Ts Ours (rule_in Ours left r₁ Ss linear₁.1 ours₁) (rule_in Ours right r₂ Ts linear₂.1 ours₂) x.0 x.1,
          right_ours O C name_eq Ss Ts Ours (rule_in Ours left r₁ Ss linear₁.1 ours₁) (rule_in Ours right r₂ Ts linear₂.1 ours₂) x.0 x.1,
        )

    -- EVERY ENTRY HAS A SLIP
    pub has_slip : (e : Entry O C A) → Memᴰ e (overlaps O C name_eq r₁ r₂) → (w : List (List C.Con)) × All (All Ours) w × Matches O C e.fields w
    has_slip e i = (
      map (fill (λ k b. some_value O C k)) e.fields,
      all_filled_in Ours (λ k b. some_value O C k) some_ours e.fields (entry_constants e i).0,
      some_slip e,
    )
      where
        some_ours : (k : Full O.Kind) (b : ℕ) → All Ours (some_value O C k)
        some_ours (basic k) b = (ours k, tt)
        some_ours list b = tt

    -- MINIMAL: solutions that cover every shared slip of such constants are at least as many as the entries
    pub minimal : (B : Type 0) (xs : List (Solution O C r₁ r₂ B))
        → ((w : List (List C.Con)) → All (All Ours) w → Matches O C r₁ w → Matches O C r₂ w
        → (x : Solution O C r₁ r₂ B) × Memᴰ x xs × Covers O C r₁ r₂ B x w)
        → length (overlaps O C name_eq r₁ r₂) ≤ length xs
    minimal B xs cover = pigeon Hits (overlaps O C name_eq r₁ r₂) xs overlaps_distinct hit one
      where
        Hits : Entry O C A → Solution O C r₁ r₂ B → Type 0
        Hits e x = Memᴰ e (overlaps O C name_eq r₁ r₂) × (w : Slip) × Matches O C e.fields w × Covers O C r₁ r₂ B x w

        hit : (e : Entry O C A) → Memᴰ e (overlaps O C name_eq r₁ r₂) → (x : Solution O C r₁ r₂ B) × Memᴰ x xs × Hits e x
        hit e i =
            let s = has_slip e i in
            let m = (exact s.0).1 (e, i, s.2) in
            let c = cover s.0 s.1 m.0 m.1 in
            (c.0, c.1, (i, s.0, s.2, c.2))

        one : (e e' : Entry O C A) (x : Solution O C r₁ r₂ B) → Hits e x → Hits e' x → e ≡ e'
        one e e' x h h' = by_picks e e' h.0 h'.0 h.1 h'.1 h.2 h'.2 (one_choice x h.1 h'.1 h.3 h'.3)
          where
            one_choice : (x : Solution O C r₁ r₂ B) (w w' : Slip) → Covers O C r₁ r₂ B x w → Covers O C r₁ r₂ B x w' → picks Ss Ts w ≡ picks Ss Ts w'
            one_choice x w w' c c' = ap (picks Ss Ts) (sym c.2)
                ∙ same_picks v atomic (x.left list) (x.right list) c.0 c'.0 (typed_one O C c.0 c.1) (typed_one O C c'.0 c'.1) Ss Ts
                (fields_of O C r₁ r₂ B x) by_left by_right
                ∙ ap (picks Ss Ts) c'.2
              where
                θ : Variable O.Kind A → TermOver O C B
                θ (of left k a) = (x.typed_left (basic k) a).0
                θ (of right k a) = (x.typed_right (basic k) a).0

                v : Atom C.Con (Variable O.Kind A) → TermOver O C B
                v a = val con θ a

                below : (t : TermOver O C B) (k : O.Kind) → full_le O (kind_of O C t) (basic k) ≡ true → IsAtom t
                below (con c) k p = tt
                below (var (basic j) b) k p = tt
                below (var list b) k p = absurd (false≢true p)

                atomic : (a : Atom C.Con (Variable O.Kind A)) → IsAtom (v a)
                atomic (fixed c) = tt
                atomic (free (of left k a)) = below (x.typed_left (basic k) a).0 k (x.typed_left (basic k) a).2
                atomic (free (of right k a)) = below (x.typed_right (basic k) a).0 k (x.typed_right (basic k) a).2

                by_left : fields_of O C r₁ r₂ B x ≡ map (fill_shape v (x.left list)) Ss
                by_left = substs_by x.left r₁ ∙ shapes_fill con x.left left θ (λ k a. (x.typed_left (basic k) a).1) r₁ Ss linear₁.1

                by_right : fields_of O C r₁ r₂ B x ≡ map (fill_shape v (x.right list)) Ts
                by_right = x.same ∙ substs_by x.right r₂ ∙ shapes_fill con x.right right θ (λ k a. (x.typed_right (basic k) a).1) r₂ Ts linear₂.1

  -- ---- variables and lengths

  -- the values shown of a rule's variables have the variables of the entry's fields
  pub values_occur : (e : Entry O C A) → Memᴰ e (overlaps O C name_eq r₁ r₂) → (k : Full O.Kind) (a : A) (j : Full O.Kind) (n : ℕ)
      → (Any (Occurs k a) r₁ → Occurs j n (e.left k a) → Any (Occurs j n) e.fields)
      × (Any (Occurs k a) r₂ → Occurs j n (e.right k a) → Any (Occurs j n) e.fields)
  values_occur e i k a j n = (
    λ o p. along (Any (Occurs j n)) (solves_left e i) (part_occurs j n (e.left k a) p (map (substitute e.left) r₁) (part_of_rule e.left k a r₁ o)),
    λ o p. along (Any (Occurs j n)) (solves_right e i) (part_occurs j n (e.right k a) p (map (substitute e.right) r₂) (part_of_rule e.right k a r₂ o)),
  )

  module _ (short₁ : All (AtMost most_terms) r₁) (short₂ : All (AtMost most_terms) r₂) where
    pub fields_short : (e : Entry O C A) → Memᴰ e (overlaps O C name_eq r₁ r₂) → All (AtMost entry_terms) e.fields
    fields_short e i =
        let x = chosen e i in
        along (λ (y : Entry O C A). All (AtMost entry_terms) y.fields) x.2
        (shown_few O C name_eq Ss Ts x.0 x.1 (short_rule left r₁ Ss linear₁.1 short₁) (short_rule right r₂ Ts linear₂.1 short₂))

    pub values_short : (e : Entry O C A) → Memᴰ e (overlaps O C name_eq r₁ r₂) → (k : Full O.Kind) (a : A)
        → (Any (Occurs k a) r₁ → length (e.left k a) ≤ entry_terms) × (Any (Occurs k a) r₂ → length (e.right k a) ≤ entry_terms)
    values_short e i k a = (
      λ o. part_short entry_terms (e.left k a) (map (substitute e.left) r₁)
          (along (All (AtMost entry_terms)) (sym (solves_left e i)) (fields_short e i)) (part_of_rule e.left k a r₁ o),
      λ o. part_short entry_terms (e.right k a) (map (substitute e.right) r₂)
          (along (All (AtMost entry_terms)) (sym (solves_right e i)) (fields_short e i)) (part_of_rule e.right k a r₂ o),
    )

  -- ---- numbers

  -- "renumbered from 0 in each type, by first occurrence in its fields"
  pub numbered : (e : Entry O C A) → Memᴰ e (overlaps O C name_eq r₁ r₂) → (k : Full O.Kind)
      → (n : ℕ) × (firsts ℕ_discrete (concat_map (names_of (full-eq O.kind_eq) k) e.fields) ≡ range 0 n)
  numbered e i k =
      let x = chosen e i in
      along (λ (y : Entry O C A). (n : ℕ) × (firsts ℕ_discrete (concat_map (names_of (full-eq O.kind_eq) k) y.fields) ≡ range 0 n)) x.2 (
        length (firsts (origin-eq side-eq name_eq ℕ_discrete) (concat_map (names_of (full-eq O.kind_eq) k) (origin_fields O C name_eq Ss Ts x.0))),
        by_first (full-eq O.kind_eq) (origin-eq side-eq name_eq ℕ_discrete) (origin_fields O C name_eq Ss Ts x.0) k,
      )

  -- as₁ and as₂: names that the rules' variables of kind k have; with the numbers 0 to 15 on each side, the entry's are below 32
  pub numbers_few_lem : (e : Entry O C A) → Memᴰ e (overlaps O C name_eq r₁ r₂) → (k : O.Kind) (as₁ as₂ : List A)
      → ((a : A) → Any (Occurs (basic k) a) r₁ → Memᴰ a as₁) → ((a : A) → Any (Occurs (basic k) a) r₂ → Memᴰ a as₂)
      → (n : ℕ) → Any (Occurs (basic k) n) e.fields → n < length as₁ + length as₂
  numbers_few_lem e i k as₁ as₂ h₁ h₂ n =
      let x = chosen e i in
      along (λ (y : Entry O C A). Any (Occurs (basic k) n) y.fields → n < length as₁ + length as₂) x.2
      (numbers_below O C name_eq r₁ r₂ Ss Ts linear₁.1 linear₂.1 x.0 x.1 k as₁ as₂ h₁ h₂ n)

  pub lists_few : (e : Entry O C A) → Memᴰ e (overlaps O C name_eq r₁ r₂) → (n : ℕ) → Any (Occurs list n) e.fields → n < length r₁
  lists_few e i n o =
      let x = chosen e i in
      along (λ (m : ℕ). n < m) (shapes_count left r₁ Ss linear₁.1)
      (lists_below O C name_eq r₁ r₂ Ss Ts x.0 n (along (λ (y : Entry O C A). Any (Occurs list n) y.fields) (sym x.2) o))
