-- What is known of the bindings that a record holds: each atom variable stands for one atom, which the record's state has, and the record's
-- two list values are those of the two fields' list variables.
use mathlib.Core.Path.{◌≡◌, refl, sym, ◌∙◌, ap, subst}
use mathlib.Core.Option.{Option}
use mathlib.Core.List.{List, [], ◌∷◌, append-nil}
use Prim.Native.Nat.{ℕ, ◌≤◌}
use native.Mathlib.Omega.{arith}
use lib.ListN.{length, get_or}
use Rattle.base_lists.specs.Seqs.{All}
use Rattle.math_types.specs.Types.{Basic}
use Rattle.math_terms.specs.Seqs.{concat_map}
use Rattle.math_overlaps.specs.Shapes.{free, Variable}
use Rattle.math_search.specs.Problems.{atomic, listvar, Field, Bindings, bindings, names_in}
use Rattle.math_search.specs.Problems as search
use Rattle.math_search.proofs.Root.{names_listvars}
use Rattle.math_search.proofs.Tree.{met_fine}
use Rattle.math_codes.specs.Lines.{OurAtom}
use Rattle.search_spec.specs.Answers.{setting}
use Rattle.search_items.specs.codes.Codes.{codes_of, On}
use Rattle.search_items.specs.declared.Items.{Items}
use Rattle.search_items.specs.Items.{most_codes, blank_items, items_of}
use Rattle.search_items.proofs.Agree.{items_of_lem}
use Rattle.search_problems.specs.declared.Problem.{Problem}
use Rattle.search_problems.proofs.Holds.{Equation, one_atom, state_of, value_in, Holds}
use Rattle.search_problems.proofs.Own.{Fits, left_fits, right_fits}

-- what the list variables u stand for
abbrev pub value_of : Bindings setting → List ℕ → Field setting
value_of σ u = concat_map (λ n. σ (listvar n)) u

module _ (t : List (Option OurAtom)) where
  -- w has it
  pub record Listed (σ : Bindings setting) (u : List ℕ) (w : Items) : Type 0 where
    pub items : items_of w ≡ codes_of t (value_of σ u)
    pub short : length (value_of σ u) ≤ most_codes
    pub within : All (On t) (value_of σ u)

  listed : (σ : Bindings setting) (u : List ℕ) → length u ≤ 1 → All (Fits t σ) u → Listed σ u (value_in t σ u)
  listed σ [] l h = record { items = refl; short = omega arith; within = tt }
  listed σ (n ∷ []) l h =
      let e : value_of σ (n ∷ []) ≡ σ (listvar n) = append-nil (σ (listvar n)) in
      record {
        items = items_of_lem t (σ (listvar n)) h.0.0 ∙ ap (codes_of t) (sym e);
        short = omega (arith, h.0.0, ap (λ (s : Field setting). length s) e);
        within = subst (All (On t)) (sym e) h.0.1;
      }
  listed σ (n ∷ (m ∷ u)) l h = absurd (omega arith)

  module _ (A B : Field setting) (q : Equation t A B) (p : Problem) (P : search.Problem setting) (h : Holds t A B p P) where
    pub atoms_known : (x : Variable Basic ℕ) → bindings setting P (atomic (free x)) ≡ atomic (state_of (bindings setting P) x) ∷ []
    atoms_known x =
        let k = (met_fine setting A B q.linear P h.met).inv.kinds (atomic (free x)) in
        k.1 ∙ sym (ap (λ (s : Field setting). atomic (one_atom x s) ∷ []) k.1)

    pub left_known : Listed (bindings setting P) (names_in setting A) (get_or p.lists 0 blank_items)
    left_known =
        subst (Listed (bindings setting P) (names_in setting A)) (sym (ap (λ (l : List Items). get_or l 0 blank_items) h.lists))
        (listed (bindings setting P) (names_in setting A) (omega (arith, names_listvars setting A, q.linear.left)) (left_fits t A B q p P h))

    pub right_known : Listed (bindings setting P) (names_in setting B) (get_or p.lists 1 blank_items)
    right_known =
        subst (Listed (bindings setting P) (names_in setting B)) (sym (ap (λ (l : List Items). get_or l 1 blank_items) h.lists))
        (listed (bindings setting P) (names_in setting B) (omega (arith, names_listvars setting B, q.linear.right)) (right_fits t A B q p P h))
