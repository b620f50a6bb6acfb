-- The line of a choice that code makes of candidates is the mathematics' own line of them.
use mathlib.Core.Path.{◌≡◌, refl, sym, ◌∙◌, ap, ap₂}
use mathlib.Core.Bool.{Bool, true, false, ◌&&◌}
use mathlib.Core.List.{List, [], ◌∷◌, Memᴰ}
use Prim.Native.Nat.{ℕ, zero, suc, ◌+◌, ◌≤◌, ◌<◌}
use native.Mathlib.Omega.{arith}
use lib.Dec.{leb}
use lib.ListN.{length, length-set}
use lib.Seq.{get_or-set_same, get_or-set_other}
use borrow.Author.Tests.{le-leb}
use Rattle.base_limits.specs.Limits.{most_terms, kind_count, entry_terms, numbers_of_side, pair_places, pair_items}
use Rattle.base_lists.specs.Truths.{both_is}
use Rattle.base_lists.specs.Seqs.{All, tabulate, tabulate_long}
use Rattle.math_overlaps.specs.Candidates.{Cand, exact, long}
use Rattle.math_codes.specs.Spots.{Spot, spot_cands}
use Rattle.math_codes.specs.Walks.{span_on, field_items}
use Rattle.math_codes.specs.Names.{no_names, name_fields}
use Rattle.math_codes.specs.Whole.{items_from}
use Rattle.math_codes.specs.Index.{indexed_items, indexed_line}
use Rattle.math_codes.proofs.Whole.{Chosen}
use Rattle.math_codes.proofs.Measures.{spot_terms, items_few}
use Rattle.pair_row.specs.Row.{table_in, text_in, spot_in, index_in, top_in}
use Rattle.overlap_entries.specs.declared.Candidate.{Candidate}
use Rattle.overlap_entries.specs.declared.Choice.{Choice}
use Rattle.overlap_entries.specs.Entries.{no_candidate, chosen_in, cand_of, item_count, item_at, no_choice, chosen_at}
use Rattle.overlap_entries.proofs.Laws.{items_are}
use Rattle.pair_lines.specs.Lines.{count_at, fits_from, fits, field_in, items_in, spots_in, side_few, numbers_few, line_in, is_long, chosen_by}

-- ---- what a choice has for candidates, from field j on

abbrev Has : Choice → ℕ → List (Spot ℕ) → List (Spot ℕ) → List Cand → Type 0
Has c j [] Qs cs = Unit {0}
Has c j (P ∷ Ps) [] cs = Unit {0}
Has c j (P ∷ Ps) (Q ∷ Qs) [] = Unit {0}
Has c j (P ∷ Ps) (Q ∷ Qs) (x ∷ xs) = ((chosen_in c j).items ≡ span_on P Q x) × ((chosen_in c j).long ≡ is_long x) × Has c (suc j) Ps Qs xs

-- the choices from field j on change none before it
chosen_keeps : (Ps Qs : List (Spot ℕ)) (cs : List Cand) (ch : Choice) (j i : ℕ) → i < j
    → chosen_in (chosen_by ch j Ps Qs cs) i ≡ chosen_in ch i
chosen_keeps [] Qs cs ch j i h = refl
chosen_keeps (P ∷ Ps) [] cs ch j i h = refl
chosen_keeps (P ∷ Ps) (Q ∷ Qs) [] ch j i h = refl
chosen_keeps (P ∷ Ps) (Q ∷ Qs) (x ∷ xs) ch j i h =
    chosen_keeps Ps Qs xs (chosen_at ch j (span_on P Q x) (is_long x)) (suc j) i (omega arith)
    ∙ get_or-set_other ch.fields j i (record { items = span_on P Q x; long = is_long x }) no_candidate (λ e. omega (arith, e))

chosen_has : (Ps Qs : List (Spot ℕ)) (cs : List Cand) (ch : Choice) (j : ℕ) → length ch.fields ≡ 4 → j + length Ps ≤ 4
    → Has (chosen_by ch j Ps Qs cs) j Ps Qs cs
chosen_has [] Qs cs ch j p h = tt
chosen_has (P ∷ Ps) [] cs ch j p h = tt
chosen_has (P ∷ Ps) (Q ∷ Qs) [] ch j p h = tt
chosen_has (P ∷ Ps) (Q ∷ Qs) (x ∷ xs) ch j p h =
    let n = span_on P Q x in
    let y : Candidate = record { items = n; long = is_long x } in
    let r = chosen_keeps Ps Qs xs (chosen_at ch j n (is_long x)) (suc j) j (omega arith) ∙ get_or-set_same ch.fields j y no_candidate (omega (arith, p)) in (
      ap (λ (z : Candidate). z.items) r,
      ap (λ (z : Candidate). z.long) r,
      chosen_has Ps Qs xs (chosen_at ch j n (is_long x)) (suc j) (length-set ch.fields j y ∙ p) (omega arith),
    )

-- ---- a field

cand_is : (P Q : Spot ℕ) (x : Cand) → cand_of (span_on P Q x) (is_long x) ≡ x
cand_is P Q (exact n) = refl
cand_is P Q long = refl

field_items_lem : (atoms : List ℕ) (P Q : Spot ℕ) (m j : ℕ) (x : Cand)
    → field_items atoms P Q m j x ≡ tabulate (item_count (span_on P Q x) (is_long x)) (item_at atoms P Q (span_on P Q x) (is_long x) (m + j))
field_items_lem atoms P Q m j x =
    ap (field_items atoms P Q m j) (sym (cand_is P Q x))
    ∙ items_are atoms P Q m j (span_on P Q x) (is_long x) (ap (span_on P Q) (sym (cand_is P Q x)))

field_few : (P Q : Spot ℕ) (x : Cand) → Memᴰ x (spot_cands P Q) → spot_terms P ≤ most_terms → spot_terms Q ≤ most_terms
    → item_count (span_on P Q x) (is_long x) ≤ entry_terms
field_few P Q x i p q =
    let few = items_few [] 0 0 (P ∷ []) (Q ∷ []) (x ∷ []) (i, tt) (p, tt) (q, tt) in
    let e = ap (λ (l : List ℕ). length l) (field_items_lem [] P Q 0 0 x) in
    let n = item_count (span_on P Q x) (is_long x) in
    omega (arith, few, e, tabulate_long n (item_at [] P Q (span_on P Q x) (is_long x) (0 + 0)))

-- ---- all fields

module _ (c : Choice) where
  fits_from_lem : (Ps Qs : List (Spot ℕ)) (cs : List Cand) (j : ℕ) → Has c j Ps Qs cs → Chosen Ps Qs cs → All (λ s. spot_terms s ≤ most_terms) Ps
      → All (λ s. spot_terms s ≤ most_terms) Qs
      → fits_from c j (length Ps) ≡ true
  fits_from_lem [] Qs cs j v h p q = refl
  fits_from_lem (P ∷ Ps) [] cs j v h p q = absurd h
  fits_from_lem (P ∷ Ps) (Q ∷ Qs) [] j v h p q = absurd h
  fits_from_lem (P ∷ Ps) (Q ∷ Qs) (x ∷ xs) j v h p q =
      let e : count_at c j ≡ item_count (span_on P Q x) (is_long x) = ap₂ item_count v.0 v.1 in
      ap₂ (λ (a b : Bool). a && b) (le-leb (count_at c j) entry_terms (omega (arith, e, field_few P Q x h.0 p.0 q.0)))
      (fits_from_lem Ps Qs xs (suc j) v.2 h.1 p.1 q.1)

  module _ (atoms : List ℕ) where
    -- the items of a field, as code has them
    abbrev items_at : Spot ℕ → Spot ℕ → ℕ → List ℕ
    items_at P Q j = tabulate (count_at c j) (item_at atoms P Q (chosen_in c j).items (chosen_in c j).long (pair_places + j))

    items_chosen : (k j : ℕ) (P Q : ℕ → Spot ℕ) (F : ℕ → List ℕ) (cs : List Cand) → Has c j (tabulate k P) (tabulate k Q) cs
        → Chosen (tabulate k P) (tabulate k Q) cs
        → ((i : ℕ) → i < k → F i ≡ items_at (P i) (Q i) (j + i))
        → tabulate k F ≡ items_from atoms pair_places j (tabulate k P) (tabulate k Q) cs
    items_chosen zero j P Q F cs v h e = refl
    items_chosen (suc k) j P Q F [] v h e = absurd h
    items_chosen (suc k) j P Q F (x ∷ xs) v h e =
        ap₂ (λ (f : List ℕ) (fs : List (List ℕ)). f ∷ fs)
        (e 0 (omega arith)
        ∙ ap (items_at (P 0) (Q 0)) (let z : j + 0 ≡ j = omega arith in z)
        ∙ ap₂ (λ (n : ℕ) (l : Bool). tabulate (item_count n l) (item_at atoms (P 0) (Q 0) n l (pair_places + j))) v.0 v.1
        ∙ sym (field_items_lem atoms (P 0) (Q 0) pair_places j x))
        (items_chosen k (suc j) (λ i. P (suc i)) (λ i. Q (suc i)) (λ i. F (suc i)) xs v.2 h.1
        (λ i l. e (suc i) (omega arith) ∙ ap (items_at (P (suc i)) (Q (suc i))) (let z : j + suc i ≡ suc j + i = omega arith in z)))

-- ---- the line

module _ (row texts : List ℕ) (n : ℕ) (few : n ≤ 4) (cs : List Cand) (h : Chosen (spots_in row false n) (spots_in row true n) cs) where
  abbrev Ps : List (Spot ℕ)
  Ps = spots_in row false n

  abbrev Qs : List (Spot ℕ)
  Qs = spots_in row true n

  abbrev made : Choice
  made = chosen_by no_choice 0 Ps Qs cs

  made_has : Has made 0 Ps Qs cs
  made_has = chosen_has Ps Qs cs no_choice 0 refl (let e = tabulate_long n (spot_in row false) in omega (arith, e, few))

  -- the items of the fields
  pub items_made : (atoms : List ℕ) → items_in row n made atoms ≡ items_from atoms pair_places 0 Ps Qs cs
  items_made atoms =
      items_chosen made atoms n 0 (spot_in row false) (spot_in row true) (field_in row made atoms) cs made_has h
      (λ i l. ap (items_at made atoms (spot_in row false i) (spot_in row true i)) (let z : i ≡ 0 + i = omega arith in z))

  module _ (p : All (λ s. spot_terms s ≤ most_terms) (spots_in row false n)) (q : All (λ s. spot_terms s ≤ most_terms) (spots_in row true n)) where
    -- such a choice has room
    pub fits_made : fits n made ≡ true
    fits_made =
        ap₂ (λ (a b : Bool). a && b) (le-leb n 4 few)
        (ap (fits_from made 0) (sym (tabulate_long n (spot_in row false))) ∙ fits_from_lem made Ps Qs cs 0 made_has h p q)

    -- THE LINE of candidates, by the choice that code makes of them
    pub line_is : numbers_few row ≡ true → (atoms : List ℕ)
        → line_in row texts n (chosen_by no_choice 0 (spots_in row false n) (spots_in row true n) cs) atoms
        ≡ indexed_line (table_in row) (text_in row texts) (index_in row false) (top_in row false) (index_in row true) (top_in row true) (spots_in row false n)
        (spots_in row true n) cs atoms
    unfolding line_in
    line_is m atoms =
        rw (fits_made, m)
        (ap (λ (is : List (List ℕ)). indexed_items (table_in row) (text_in row texts) (index_in row false) (top_in row false) (index_in row true) (top_in row true)
        Ps Qs atoms is (name_fields (table_in row) (no_names pair_items 4) is).numbers) (items_made atoms))

-- rows of rules have few numbers
pub numbers_few_lem : (row : List ℕ) → ((k : ℕ) → k < kind_count → top_in row false k ≤ numbers_of_side) → ((k : ℕ) → k < kind_count → top_in row true k ≤ numbers_of_side)
    → numbers_few row ≡ true
numbers_few_lem row h₁ h₂ = (both_is (side_few row false) (side_few row true)).1 (side false h₁, side true h₂)
  where
    side : (right : Bool) → ((k : ℕ) → k < kind_count → top_in row right k ≤ numbers_of_side) → side_few row right ≡ true
    side right h =
        let few : ℕ → Bool = λ k. leb (top_in row right k) numbers_of_side in
        let at : (k : ℕ) → k < 4 → few k ≡ true = λ k l. le-leb (top_in row right k) numbers_of_side (h k l) in
        (both_is (few 0) (few 1 && (few 2 && few 3))).1 (
          at 0 (omega arith),
          (both_is (few 1) (few 2 && few 3)).1 (
            at 1 (omega arith),
            (both_is (few 2) (few 3)).1 (at 2 (omega arith), at 3 (omega arith)),
          ),
        )
