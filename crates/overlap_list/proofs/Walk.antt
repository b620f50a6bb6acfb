-- The recursion over the candidates of each field writes the line of every choice that no join kills, in their order.
use mathlib.Core.Path.{◌≡◌, refl, sym, ◌∙◌, ap, ap₂}
use mathlib.Core.Bool.{Bool, true, false, ◌&&◌}
use mathlib.Core.Option.{Option, none, some}
use mathlib.Core.List.{List, [], ◌∷◌, ◌++◌}
use Prim.Native.Nat.{ℕ, zero, suc, ◌+◌, ◌-◌, ◌≤◌}
use native.Mathlib.Omega.{arith}
use native.Mathlib.Decide.{ℕ_discrete}
use lib.Dec.{eqb}
use borrow.Author.Tests.{eq-eqb, ne_eqb}
use Rattle.base_lists.specs.Seqs.{tabulate, tabulate_same}
use Rattle.math_types.specs.Types.{entry}
use Rattle.math_terms.specs.Seqs.{concat_map}
use Rattle.math_overlaps.specs.Candidates.{Cand}
use Rattle.math_codes.specs.Spots.{Spot, spot_cands}
use Rattle.math_codes.specs.Walks.{or_nothing, span_on, joins_on, walk_on}
use Rattle.math_codes.proofs.Walks.{or_same}
use Rattle.pair_row.specs.Row.{table_in, spot_in}
use Rattle.pair_state.specs.declared.State.{State}
use Rattle.pair_state.specs.States.{joined_of}
use Rattle.overlap_entries.specs.declared.Span.{Span}
use Rattle.overlap_entries.specs.declared.Choice.{Choice}
use Rattle.overlap_entries.specs.Entries.{span_of, cand_of, cand_at, no_choice, chosen_at}
use Rattle.overlap_entries.proofs.Laws.{cands_are, span_is}
use Rattle.pair_lines.specs.Lines.{spots_in, line_in}
use Rattle.pair_lines.specs.Lines.{is_long, chosen_by}
use Rattle.overlap_entries.specs.declared.Candidate.{Candidate}
use Rattle.overlap_list.specs.Listing.{span_at, candidate_of, after_join, candidate_lines, choice_lines, lines_from, all_lines}

-- ---- the candidate that comes next where k are left

-- the last is the one where one is left
last_is : (n k : ℕ) → suc k ≤ n → eqb (suc k) 1 ≡ eqb (suc (n - suc k)) n
last_is n k h = go (ℕ_discrete k 0)
  where
    go : Dec (k ≡ 0) → eqb (suc k) 1 ≡ eqb (suc (n - suc k)) n
    go (yes e) = eq-eqb (suc k) 1 (omega arith) ∙ sym (eq-eqb (suc (n - suc k)) n (omega arith))
    go (no d) = ne_eqb (suc k) 1 (omega arith) ∙ sym (ne_eqb (suc (n - suc k)) n (omega arith))

long_of : (n : ℕ) (b : Bool) → is_long (cand_of n b) ≡ b
long_of n true = refl
long_of n false = refl

module _ (P Q : Spot ℕ) where
  abbrev sp : Span
  sp = span_of P Q

  abbrev as_chosen : Cand → Candidate
  as_chosen c = record { items = span_on P Q c; long = is_long c }

  next_is : (k : ℕ) → suc k ≤ sp.count → candidate_of sp (suc k) ≡ as_chosen (cand_at sp (sp.count - suc k))
  next_is k h =
      let i = sp.count - suc k in
      ap₂ (λ (n : ℕ) (b : Bool). record { items = n; long = b })
      (sym (span_is P Q i (omega arith)))
      (ap (λ (b : Bool). sp.long && b) (last_is sp.count k h) ∙ sym (long_of (sp.least + i) (sp.long && eqb (suc i) sp.count)))

-- ---- one field pair

after_join_lem : (o : Option (List ℕ)) (f : State → List (List ℕ)) → after_join (joined_of o) f ≡ or_nothing o (λ atoms. f (record { atoms = atoms }))
after_join_lem none f = refl
after_join_lem (some atoms) f = refl

module _ (row : List ℕ) (j : ℕ) (ch : Choice) (st : State) (next : Choice → State → List (List ℕ)) (rest : Cand → List ℕ → List (List ℕ))
    (rec : (c : Cand) (atoms : List ℕ)
    → next (chosen_at ch j (span_on (spot_in row false j) (spot_in row true j) c) (is_long c)) (record { atoms = atoms }) ≡ rest c atoms) where
  abbrev P : Spot ℕ
  P = spot_in row false j

  abbrev Q : Spot ℕ
  Q = spot_in row true j

  abbrev count : ℕ
  count = (span_of P Q).count

  abbrev step : Cand → List (List ℕ)
  step c = or_nothing (joins_on entry (table_in row) P Q c st.atoms) (rest c)

  -- the lines of one candidate
  candidate_agrees : (c : Cand) → candidate_lines next row j (as_chosen P Q c) ch st ≡ step c
  candidate_agrees c =
      let o = joins_on entry (table_in row) P Q c st.atoms in
      let f : State → List (List ℕ) = next (chosen_at ch j (span_on P Q c) (is_long c)) in
      after_join_lem o f ∙ or_same o (λ atoms. f (record { atoms = atoms })) (rest c) (λ atoms. rec c atoms)

  -- k candidates are left
  choices_agree : (k : ℕ) → k ≤ count → choice_lines next row j k ch st ≡ concat_map step (tabulate k (λ i. cand_at (span_of P Q) (count - k + i)))
  choices_agree zero l = refl
  choices_agree (suc k) l =
      let c = cand_at (span_of P Q) (count - suc k) in
      ap₂ (λ (a b : List (List ℕ)). a ++ b)
      (ap (λ (x : Candidate). candidate_lines next row j x ch st) (next_is P Q k l)
      ∙ candidate_agrees c
      ∙ ap (λ (i : ℕ). step (cand_at (span_of P Q) i)) (let e : count - suc k ≡ count - suc k + 0 = omega arith in e))
      (choices_agree k (omega arith)
      ∙ ap (concat_map step) (tabulate_same k (λ i. cand_at (span_of P Q) (count - k + i)) (λ i. cand_at (span_of P Q) (count - suc k + suc i))
      (λ i q. ap (cand_at (span_of P Q)) (omega arith))))

  field_agrees : choice_lines next row j (span_at row j).count ch st ≡ concat_map step (spot_cands P Q)
  field_agrees =
      choices_agree count (omega arith)
      ∙ ap (concat_map step)
      (tabulate_same count (λ i. cand_at (span_of P Q) (count - count + i)) (cand_at (span_of P Q)) (λ i q. ap (cand_at (span_of P Q)) (omega arith))
      ∙ sym (cands_are P Q))

-- ---- the fields from j on

-- m of them
abbrev spots_from : List ℕ → Bool → ℕ → ℕ → List (Spot ℕ)
spots_from row right j zero = []
spots_from row right j (suc m) = spot_in row right j ∷ spots_from row right (suc j) m

spots_are : (row : List ℕ) (right : Bool) (j m : ℕ) → tabulate m (λ i. spot_in row right (j + i)) ≡ spots_from row right j m
spots_are row right j zero = refl
spots_are row right j (suc m) =
    ap₂ (λ (x : Spot ℕ) (l : List (Spot ℕ)). x ∷ l)
    (ap (spot_in row right) (let e : j + 0 ≡ j = omega arith in e))
    (tabulate_same m (λ i. spot_in row right (j + suc i)) (λ i. spot_in row right (suc j + i)) (λ i h. ap (spot_in row right) (omega arith))
    ∙ spots_are row right (suc j) m)

module _ (row texts : List ℕ) (n : ℕ) where
  -- the line of a choice that begins with ch
  abbrev line_by : Choice → ℕ → List (Spot ℕ) → List (Spot ℕ) → List Cand → List ℕ → List (List ℕ)
  line_by ch j Ps Qs cs last = line_in row texts n (chosen_by ch j Ps Qs cs) last ∷ []

  fields_agree : (m j : ℕ) (ch : Choice) (atoms : List ℕ) → lines_from m row texts n j ch (record { atoms = atoms })
      ≡ walk_on entry (table_in row) (spots_from row false j m) (spots_from row true j m) atoms (line_by ch j (spots_from row false j m) (spots_from row true j m))
  fields_agree zero j ch atoms = refl
  fields_agree (suc m) j ch atoms =
      let Ps = spots_from row false (suc j) m in
      let Qs = spots_from row true (suc j) m in
      let chosen : Cand → Choice = λ c. chosen_at ch j (span_on (spot_in row false j) (spot_in row true j) c) (is_long c) in
      field_agrees row j ch (record { atoms = atoms }) (lines_from m row texts n (j + 1))
      (λ c next. walk_on entry (table_in row) Ps Qs next (line_by (chosen c) (suc j) Ps Qs))
      (λ c next.
      ap (λ (k : ℕ). lines_from m row texts n k (chosen c) (record { atoms = next })) (let e : j + 1 ≡ suc j = omega arith in e)
      ∙ fields_agree m (suc j) (chosen c) next)

  -- ALL LINES
  pub walk_lines : all_lines row texts n ≡ walk_on entry (table_in row) (spots_in row false n) (spots_in row true n) (table_in row).first
      (λ cs last. line_in row texts n (chosen_by no_choice 0 (spots_in row false n) (spots_in row true n) cs) last ∷ [])
  walk_lines =
      fields_agree n 0 no_choice (table_in row).first
      ∙ sym (ap₂ (λ (Ps Qs : List (Spot ℕ)). walk_on entry (table_in row) Ps Qs (table_in row).first (line_by no_choice 0 Ps Qs)) (all false) (all true))
    where
      all : (right : Bool) → spots_in row right n ≡ spots_from row right 0 n
      all right =
          tabulate_same n (spot_in row right) (λ i. spot_in row right (0 + i)) (λ i h. ap (spot_in row right) (omega arith))
          ∙ spots_are row right 0 n
