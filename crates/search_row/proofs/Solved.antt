-- The line of a solved problem's record, on the tables of two fields, is that of the answer which it is.
use mathlib.Core.Path.{◌≡◌, refl, sym, ◌∙◌, ap, ap₂, subst}
use mathlib.Core.Bool.{Bool, true, false, cond, ◌&&◌}
use mathlib.Core.Logic.{inl, inr}
use mathlib.Core.List.{List, [], ◌∷◌, append-nil}
use Prim.Native.Nat.{ℕ, ◌≤◌}
use native.Mathlib.Omega.{arith}
use lib.ListN.{length, get_or, length-map}
use borrow.Author.Tests.{le-leb, lt-ltb}
use Rattle.base_limits.specs.Limits.{entry_terms, pair_places, pair_items}
use Rattle.base_lists.specs.Seqs.{All}
use Rattle.base_lists.specs.Arrays.{empty}
use Rattle.math_types.specs.Order.{basic, list}
use Rattle.math_terms.specs.Terms.{con, var}
use Rattle.math_terms.specs.Fillings.{Occurs}
use Rattle.text_grammar.specs.Terms.{OurTerm}
use Rattle.text_grammar.specs.Limits.{IsLeft}
use Rattle.math_overlaps.specs.Shapes.{Side, left, right}
use Rattle.math_search.specs.Problems.{listvar, Field, Bindings, names_in, solved, problem}
use Rattle.math_search.specs.Pairs.{sixteen_above}
use Rattle.math_search.proofs.Root.{names_listvars}
use Rattle.search_spec.specs.Answers.{setting, field_on, answer_text}
use Rattle.math_codes.specs.Lines.{our_row}
use Rattle.math_codes.specs.Index.{indexed_answer}
use Rattle.search_items.specs.codes.Codes.{code_tm, codes_of, On}
use Rattle.search_items.proofs.codes.Codes.{code_below}
use Rattle.search_items.proofs.codes.Answers.{answer_agrees}
use Rattle.search_items.specs.Items.{items_of, blank_items}
use Rattle.pair_row.specs.Row.{table_in, text_in, index_in, top_in}
use Rattle.pair_table.specs.Pairs.{PairIn}
use Rattle.pair_lines.specs.Lines.{numbers_few, line_bound}
use Rattle.pair_lines.specs.Answers.{are_items, value_fits, answer_fits, whole_answer, answer_in}
use Rattle.pair_lines.proofs.AnswerLines.{any_answer}
use Rattle.pair_lines.proofs.Short.{cell_short}
use Rattle.pair_lines.proofs.Lines.{numbers_few_lem}
use Rattle.search_steps.specs.Machine.{line_in}
use Rattle.search_problems.specs.declared.Problem.{Problem}
use Rattle.search_items.specs.declared.Items.{Items}
use Rattle.search_problems.proofs.Holds.{Equation, state_of, Holds}
use Rattle.search_problems.proofs.Known.{value_of, Listed, atoms_known, left_known, right_known}

-- ---- a field's one list variable

-- there is no other
no_more : (d : Side) (f : List OurTerm) (n : ℕ) → Occurs list n f → length (names_in setting (field_on d f)) ≤ 0 → ⊥
no_more d (con c ∷ f) n o l = no_more d f n o l
no_more d (var (basic k) m ∷ f) n (inl e) l = let z : ◌≡◌ {A = ℕ} 0 1 = cc in absurd (omega arith)
no_more d (var (basic k) m ∷ f) n (inr o) l = no_more d f n o l
no_more d (var list m ∷ f) n o l = omega arith
no_more d [] n o l = elim o [ ]

only_name : (d : Side) (f : List OurTerm) (n : ℕ) → Occurs list n f → length (names_in setting (field_on d f)) ≤ 1
    → names_in setting (field_on d f) ≡ sixteen_above d n ∷ []
only_name d (con c ∷ f) n o l = only_name d f n o l
only_name d (var (basic k) m ∷ f) n (inl e) l = let q = e.0 in let z : ◌≡◌ {A = ℕ} 0 1 = cc in absurd (omega arith)
only_name d (var (basic k) m ∷ f) n (inr o) l = only_name d f n o l
only_name d (var list m ∷ f) n (inl e) l =
    ap (λ (k : ℕ). sixteen_above d k ∷ names_in setting (field_on d f)) (sym e.1)
    ∙ ap (λ (u : List ℕ). sixteen_above d n ∷ u) (empty (names_in setting (field_on d f)) (omega arith))
only_name d (var list m ∷ f) n (inr o) l = absurd (no_more d f n o (omega arith))
only_name d [] n o l = elim o [ ]

-- so a record's value is that variable's
value_known : (t : List _) (σ : Bindings setting) (d : Side) (f : List OurTerm) (w : Items) → length (names_in setting (field_on d f)) ≤ 1
    → Listed t σ (names_in setting (field_on d f)) w
    → (n : ℕ) → Occurs list n f
    → (items_of w ≡ codes_of t (σ (listvar (sixteen_above d n)))) × All (On t) (σ (listvar (sixteen_above d n)))
value_known t σ d f w few h n o =
    let x = listvar (sixteen_above d n) in
    let e : value_of σ (names_in setting (field_on d f)) ≡ σ x = ap (value_of σ) (only_name d f n o few) ∙ append-nil (σ x) in
    (h.items ∙ ap (codes_of t) e, subst (All (On t)) e h.within)

-- ---- the line

module _ (f g : List OurTerm) (is_f : IsLeft (f ∷ [])) (is-g : IsLeft (g ∷ [])) (row texts : List ℕ) (pair : PairIn (f ∷ []) (g ∷ []) row texts)
    (long : length (our_row (f ∷ []) (g ∷ [])) ≡ pair_places) (q : Equation (our_row (f ∷ []) (g ∷ [])) (field_on left f) (field_on right g))
    (p : Problem) (σ : Bindings setting) (u : List ℕ)
    (h : Holds (our_row (f ∷ []) (g ∷ [])) (field_on left f) (field_on right g) p (problem solved σ u)) where
  abbrev A : Field setting
  A = field_on left f

  abbrev B : Field setting
  B = field_on right g

  abbrev items : ℕ → List ℕ
  items i = items_of (get_or p.lists i blank_items)

  pub indexed_line_lem : indexed_answer (table_in row) (text_in row texts) (index_in row false) (top_in row false) (λ n. items 0)
      (index_in row true) (top_in row true) (λ n. items 1) p.atoms.atoms
      ≡ answer_text f g σ
  indexed_line_lem =
      let t = our_row (f ∷ []) (g ∷ []) in
      let P = problem solved σ u in
      answer_agrees f g (table_in row) (text_in row texts) pair.tables is_f is-g σ (state_of σ) (atoms_known t A B q p P h) p.atoms.atoms h.atoms
      (index_in row false) (top_in row false) (index_in row true) (top_in row true) pair.left_index pair.right_index pair.left_tops pair.right_tops
      (λ n. items 0) (λ n. items 1)
      (value_known t σ left f (get_or p.lists 0 blank_items) (omega (arith, names_listvars setting A, q.linear.left)) (left_known t A B q p P h))
      (value_known t σ right g (get_or p.lists 1 blank_items) (omega (arith, names_listvars setting B, q.linear.right)) (right_known t A B q p P h))

  -- ---- it fits the writer

  are_items_lem : (ts : Field setting) → All (On (our_row (f ∷ []) (g ∷ []))) ts → are_items (codes_of (our_row (f ∷ []) (g ∷ [])) ts) ≡ true
  are_items_lem [] h = refl
  are_items_lem (x ∷ ts) h =
      let t = our_row (f ∷ []) (g ∷ []) in
      ap₂ (λ (a b : Bool). a && b) (lt-ltb (code_tm t x) pair_items (code_below t long x h.0)) (are_items_lem ts h.1)

  value_fits_lem : (u : List ℕ) (w : Items) → Listed (our_row (f ∷ []) (g ∷ [])) σ u w → value_fits (items_of w) ≡ true
  value_fits_lem u w k =
      let t = our_row (f ∷ []) (g ∷ []) in
      ap value_fits k.items
      ∙ ap₂ (λ (a b : Bool). a && b)
      (le-leb (length (codes_of t (value_of σ u))) entry_terms (omega (arith, length-map (value_of σ u) (code_tm t), k.short)))
      (are_items_lem (value_of σ u) k.within)

  few : numbers_few row ≡ true
  few = numbers_few_lem row pair.left_tops.within pair.right_tops.within

  left_fits : value_fits (items 0) ≡ true
  left_fits =
      value_fits_lem (names_in setting A) (get_or p.lists 0 blank_items) (left_known (our_row (f ∷ []) (g ∷ [])) A B q p (problem solved σ u) h)

  right_fits : value_fits (items 1) ≡ true
  right_fits =
      value_fits_lem (names_in setting B) (get_or p.lists 1 blank_items) (right_known (our_row (f ∷ []) (g ∷ [])) A B q p (problem solved σ u) h)

  -- THE LINE
  pub solved_line : line_in row texts p ≡ answer_text f g σ
  unfolding answer_in
  solved_line =
      ap (λ (b : Bool). cond b (whole_answer row texts p.atoms.atoms (items 0) (items 1)) []) fits ∙ indexed_line_lem
    where
      fits : answer_fits row (items 0) (items 1) ≡ true
      fits = ap₂ (λ (a b : Bool). a && b) few (ap₂ (λ (a b : Bool). a && b) left_fits right_fits)

  -- it is short
  pub solved_short : length (answer_text f g σ) ≤ line_bound
  solved_short =
      omega (
        arith,
        ap (λ (l : List ℕ). length l) solved_line,
        any_answer row texts p.atoms.atoms (items 0) (items 1) few left_fits right_fits
            (λ c. let k = cell_short row texts pair.bytes_few c in omega arith),
      )
