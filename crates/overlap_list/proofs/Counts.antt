-- The whole list: how many lines there can be, and what storing them leaves of a buffer that has room for them. Assumes nothing.
use mathlib.Core.Path.{◌≡◌, sym, ◌∙◌, ap, ap₂, subst}
use mathlib.Core.Bool.{Bool, true, false}
use mathlib.Core.List.{List, [], ◌∷◌, ◌++◌}
use mathlib.Core.Option.{Option, none, some}
use Prim.Native.Nat.{ℕ, zero, suc, ◌+◌, ◌-◌, ◌*◌, ◌≤◌, ◌<◌}
use native.Mathlib.Nat.{zero-add, mul-le-mul_right}
use native.Mathlib.Omega.{arith}
use lib.ListN.{length, drop, length-append}
use lib.Seq.{sets, sets-eq}
use borrow.Author.Tests.{le-leb}
use Rattle.base_limits.specs.Limits.{most_terms, field_places}
use Rattle.base_lists.specs.Seqs.{All, tabulate}
use Rattle.text_grammar.specs.Terms.{OurFields}
use Rattle.text_grammar.specs.Limits.{IsLeft}
use Rattle.math_codes.specs.Spots.{Spot}
use Rattle.math_codes.specs.Whole.{spots_of}
use Rattle.math_codes.proofs.Measures.{spot_terms, spots_few}
use Rattle.pair_row.specs.Row.{table_in, spot_in}
use Rattle.pair_state.specs.declared.State.{State}
use Rattle.std.specs.Prelude.{Some, None}
use Rattle.std.specs.Prelude as std
use Rattle.std.specs.Prelude.{Ok, Err}
use Rattle.overlap_entries.specs.declared.Choice.{Choice}
use Rattle.overlap_entries.specs.Entries.{no_choice, chosen_at}
use Rattle.overlap_entries.proofs.Laws.{span_few}
use Rattle.text_write.specs.pieces.Stored.{bytes_of}
use Rattle.text_write.proofs.pieces.Pieces.{sets_out}
use Rattle.overlap_counts.specs.declared.Counts.{Counts}
use Rattle.overlap_entries.specs.declared.Candidate.{Candidate}
use Rattle.overlap_list.specs.Answers.{ListsLines}
use Rattle.overlap_list.specs.asking.Answers.{line_counts}
use Rattle.pair_lines.specs.Lines.{spots_in}
use Rattle.overlap_list.specs.Listing.{span_at, candidate_of, joins_at, after_join, candidate_lines, choice_lines, lines_from, lines_in, all_lines}
use Rattle.overlap_counts.specs.Answers.{no_counts}
use Rattle.overlap_list.specs.Listing.{Pairing, tallied, Stores, most_entries, Countable, pair_lines}

-- ---- how many lines: no field pair of two rules has more than 17 candidates

most : ℕ → ℕ
most zero = 1
most (suc m) = suc most_terms * most m

module _ (next : Choice → State → List (List ℕ)) (row : List ℕ) (j b : ℕ) (few : (ch : Choice) (st : State) → length (next ch st) ≤ b) where
  join_few : (c : Candidate) (ch : Choice) (st : State) → length (candidate_lines next row j c ch st) ≤ b
  join_few c ch st = go (joins_at row j c.items st)
    where
      go : (r : std.Option State) → length (after_join r (next (chosen_at ch j c.items c.long))) ≤ b
      go None = omega arith
      go (Some st) = few (chosen_at ch j c.items c.long) st

  pub choice_few : (k : ℕ) (ch : Choice) (st : State) → length (choice_lines next row j k ch st) ≤ k * b
  choice_few zero ch st = omega arith
  choice_few (suc k) ch st =
      let c = candidate_of (span_at row j) (suc k) in
      omega (arith, join_few c ch st, choice_few k ch st, length-append (candidate_lines next row j c ch st) (choice_lines next row j k ch st))

-- the first n fields of a rule have at most 16 atoms each
abbrev pub Short : List ℕ → Bool → ℕ → Type 0
Short row right n = (j : ℕ) → j < n → (spot_in row right j).head + (spot_in row right j).tail ≤ most_terms

module _ (row texts : List ℕ) (n : ℕ) (short-left : Short row false n) (short-right : Short row true n) where
  pub few_left : (j : ℕ) → j < n → (span_at row j).count ≤ suc most_terms
  few_left j h = (span_few (spot_in row false j) (spot_in row true j) (short-left j h) (short-right j h)).1

  lines_few : (m j : ℕ) (ch : Choice) (st : State) → j + m ≤ n → length (lines_from m row texts n j ch st) ≤ most m
  unfolding most
  lines_few zero j ch st h = omega arith
  lines_few (suc m) j ch st h =
      let f = choice_few (lines_from m row texts n (j + 1)) row j (most m) (λ c s. lines_few m (j + 1) c s (omega arith)) (span_at row j).count ch st in
      times_few (span_at row j).count (most m) (length (lines_from (suc m) row texts n j ch st)) (few_left j (omega arith)) f
    where
      times_few : (k b l : ℕ) → k ≤ suc most_terms → l ≤ k * b → l ≤ suc most_terms * b
      times_few k b l h p = omega (arith, mul-le-mul_right b h)

  most_few : (m : ℕ) → m ≤ 4 → most m ≤ most_entries
  unfolding most
  most_few zero h = omega arith
  most_few (suc zero) h = omega arith
  most_few (suc (suc zero)) h = omega arith
  most_few (suc (suc (suc zero))) h = omega arith
  most_few (suc (suc (suc (suc zero)))) h = omega arith
  most_few (suc (suc (suc (suc (suc m))))) h = absurd (omega arith)

  module _ (h : n ≤ 4) where
    pub countable : length (all_lines row texts n) ≤ most_entries
    countable = omega (arith, lines_few n 0 no_choice (record { atoms = (table_in row).first }) (omega arith), most_few n h)

    pub countable_all : Countable no_counts (all_lines row texts n)
    countable_all = (omega arith, omega (arith, countable))

-- so have those of a rule that reading returns
module _ (row : List ℕ) (right : Bool) (n : ℕ) where
  short_at : (m : ℕ) (f : ℕ → Spot ℕ) → All (λ s. spot_terms s ≤ most_terms) (tabulate m f) → (j : ℕ) → j < m → (f j).head + (f j).tail ≤ most_terms
  short_at zero f a j h = absurd (omega arith)
  short_at (suc m) f a zero h = go (f 0).name a.0
    where
      go : (o : Option ℕ) → spot_terms (record { base = (f 0).base; head = (f 0).head; tail = (f 0).tail; name = o }) ≤ most_terms
          → (f 0).head + (f 0).tail ≤ most_terms
      go none p = p
      go (some l) p = omega arith
  short_at (suc m) f a (suc j) h = short_at m (λ i. f (suc i)) a.1 j (omega arith)

  pub rule_short : (b : ℕ) (r : OurFields) → IsLeft r → spots_in row right n ≡ spots_of field_places b r → Short row right n
  rule_short b r ok e =
      short_at n (spot_in row right) (subst (All (λ s. spot_terms s ≤ most_terms)) (sym e) (spots_few field_places b r ok.0.2))

-- ---- every choice from the first field on

-- rules that are apart have no line
pub none_stored : (p : Pairing) (row texts old : List ℕ) (u : Counts) → p ≡ None → u ≡ no_counts → Stores (pair_lines p row texts) no_counts old u old
none_stored p row texts old u is_p is_u =
    let none : pair_lines p row texts ≡ [] = ap (λ (q : Pairing). pair_lines q row texts) is_p in (
      is_u ∙ ap (tallied no_counts) (sym none),
      ap (λ (ls : List (List ℕ)). sets old 0 (bytes_of ls)) (sym none),
    )

module _ (p : Pairing) (row texts : List ℕ) (n : ℕ) (is_p : p ≡ Some n) (ch : Choice) (st : State) (t : Counts) (is-ch : ch ≡ no_choice)
    (is-st : st.atoms ≡ (table_in row).first) (is-t : t ≡ no_counts) where
  all_are : lines_in row texts n 0 ch st ≡ pair_lines p row texts
  all_are =
      ap (λ (m : ℕ). lines_from m row texts n 0 ch st) (let e : n - 0 ≡ n = omega arith in e)
      ∙ ap₂ (λ (c : Choice) (l : List ℕ). lines_from n row texts n 0 c (record { atoms = l })) is-ch is-st
      ∙ ap (λ (q : Pairing). pair_lines q row texts) (sym is_p)

  pub all_requires : Countable no_counts (pair_lines p row texts) → (0 ≤ n) × Countable t (lines_in row texts n 0 ch st)
  all_requires h = (omega arith, subst (Countable t) (sym all_are) (subst (λ (x : Counts). Countable x (pair_lines p row texts)) (sym is-t) h))

  pub all_listed : (u : Counts) (old new : List ℕ) → Stores (lines_in row texts n 0 ch st) t old u new → Stores (pair_lines p row texts) no_counts old u new
  all_listed u old new h = (
    h.0 ∙ ap₂ tallied is-t all_are,
    h.1 ∙ ap₂ (λ (ls : List (List ℕ)) (x : Counts). sets old x.bytes (bytes_of ls)) all_are is-t,
  )

-- ---- the answer, by the count

-- lines that are counted from none on have their counts
pub counted_all : (ls : List (List ℕ)) (u : Counts) → u ≡ tallied no_counts ls → u ≡ line_counts ls
counted_all ls u e = e ∙ ap₂ (λ (n b : ℕ). record { entries = n; bytes = b }) (zero-add (length ls)) (zero-add (length (bytes_of ls)))

-- where there is no room nothing is put
pub measured : (t old : List ℕ) {m : List ℕ} → m ≡ sets [] 0 t → m ++ old ≡ old
measured t old e = ap (λ (l : List ℕ). l ++ old) (e ∙ sets_out t [] 0 (omega arith))

module _ (ls : List (List ℕ)) (old : List ℕ) (t : Counts) (is-t : t ≡ tallied no_counts ls) where
  entries_are : t.entries ≡ length ls
  entries_are = ap (λ (x : Counts). x.entries) (counted_all ls t is-t)

  bytes_are : t.bytes ≡ length (bytes_of ls)
  bytes_are = ap (λ (x : Counts). x.bytes) (counted_all ls t is-t)

  -- the list in front of the old bytes
  in_front : t.bytes ≤ length old → {new : List ℕ} → new ≡ bytes_of ls ++ drop (length (bytes_of ls)) old
      → ListsLines ls old (Ok t) new
  in_front h is-new =
      let e = le-leb (length (bytes_of ls)) (length old) (omega (arith, bytes_are)) in
      record { answer = rw e (ap₂ (λ (n b : ℕ). record { number = none; values = n ∷ b ∷ [] }) entries_are bytes_are); bytes = rw e is-new }

  pub room_enough : t.bytes ≤ length old → {new : List ℕ} → new ≡ sets old 0 (bytes_of ls) → ListsLines ls old (Ok t) new
  room_enough h is-new =
      in_front h (
      is-new
      ∙ sets-eq (bytes_of ls) old 0 (omega (arith, bytes_are))
      ∙ ap (λ (k : ℕ). bytes_of ls ++ drop k old) (zero-add (length (bytes_of ls)))
      )
