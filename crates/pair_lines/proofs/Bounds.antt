-- A line's size: the parts that are put make it, and it is small whatever the tables hold. Assumes nothing.
use mathlib.Core.Path.{◌≡◌, sym, ap, ap₂, ◌∙◌}
use mathlib.Core.Bool.{Bool, true, false, cond, ◌&&◌}
use mathlib.Core.List.{List, [], ◌∷◌, ◌++◌}
use Prim.Native.Nat.{ℕ, zero, suc, ◌+◌, ◌*◌, ◌≤◌, ◌<◌}
use native.Mathlib.Omega.{arith}
use lib.Dec.{leb}
use lib.ListN.{length, get_or, drop, length-append, length-take}
use borrow.Author.Tests.{leb-true}
use Rattle.base_limits.specs.Limits.{kind_count, numbers_of_side, entry_places}
use Rattle.base_lists.specs.Truths.{both_is}
use Rattle.math_codes.specs.Makers.{largest_byte}
use Rattle.math_codes.specs.Lines.{fields_text}
use Rattle.math_codes.specs.Whole.{run_on}
use Rattle.math_codes.proofs.Measures.{line_bounded}
use Rattle.overlap_entries.specs.declared.Choice.{Choice}
use Rattle.pair_row.specs.Row.{tops_at, table_in, bytes_in, text_in, is_string, index_in, top_in, cell_bytes}
use Rattle.pair_lines.specs.Lines.{side_few, numbers_few, fits, items_in, names_in, laid_in, spots_in, runs_over, no_runs, run_by}
use Rattle.pair_lines.specs.Lines.{values_in, whole_line, line_in, line_bound}
use Rattle.pair_lines.proofs.Laying.{fields_fit, run_is, items_long, items_small, names_small}
use Rattle.pair_lines.proofs.Values.{values_agree}

module _ (row : List ℕ) (right : Bool) where
  pub tops_few : side_few row right ≡ true → (k : ℕ) → k < kind_count → top_in row right k ≤ numbers_of_side
  tops_few e k l = leb-true (top_in row right k) numbers_of_side (at k l)
    where
      few : ℕ → Bool
      few k = leb (top_in row right k) numbers_of_side

      first : (few 0 ≡ true) × ((few 1 && (few 2 && few 3)) ≡ true)
      first = (both_is (few 0) (few 1 && (few 2 && few 3))).0 e

      second : (few 1 ≡ true) × ((few 2 && few 3) ≡ true)
      second = (both_is (few 1) (few 2 && few 3)).0 first.1

      third : (few 2 ≡ true) × (few 3 ≡ true)
      third = (both_is (few 2) (few 3)).0 second.1

      at : (k : ℕ) → k < 4 → few k ≡ true
      at zero l = first.0
      at (suc zero) l = second.0
      at (suc (suc zero)) l = third.0
      at (suc (suc (suc zero))) l = third.1
      at (suc (suc (suc (suc k)))) l = absurd (omega arith)

module _ (row texts : List ℕ) (small : (i : ℕ) → get_or texts i 0 < 256) where
  pub text_short : (k : ℕ) → length (text_in row texts k) ≤ 257
  text_short k = go (is_string row k)
    where
      few : length (bytes_in texts k) ≤ largest_byte
      few = omega (arith, small (cell_bytes * k), length-take (get_or texts (cell_bytes * k) 0) (drop (cell_bytes * k + 1) texts))

      go : (b : Bool) → length (cond b (34 ∷ (bytes_in texts k ++ 34 ∷ [])) (bytes_in texts k)) ≤ 257
      go true = omega (arith, few, length-append (bytes_in texts k) (34 ∷ []))
      go false = omega (arith, few)

module _ (row texts : List ℕ) (n : ℕ) (c : Choice) (atoms : List ℕ) where
  pub line_none : fits n c ≡ false → [] ≡ line_in row texts n c atoms
  unfolding line_in
  line_none e = rw e

  pub line_many : fits n c ≡ true → numbers_few row ≡ false → [] ≡ line_in row texts n c atoms
  unfolding line_in
  line_many ok e = rw (ok, e)

  line_whole : fits n c ≡ true → numbers_few row ≡ true → whole_line row texts n c atoms ≡ line_in row texts n c atoms
  unfolding line_in
  line_whole ok few = rw (ok, few)

  -- the values that a table of runs of the laid items gives
  values_laid : (numbers : List ℕ) (right : Bool) (runs items : List ℕ) → runs ≡ runs_over row right c no_runs 0 n → items ≡ laid_in row n c atoms
      → fits n c ≡ true → side_few row right ≡ true
      → values_in row texts numbers right atoms (run_by runs items)
      ≡ values_in row texts numbers right atoms (run_on (spots_in row right n) (items_in row n c atoms))
  values_laid numbers right runs items e f ok few =
      values_agree row texts numbers right atoms (tops_few row right few 3 (omega arith)) (run_by runs items)
      (run_on (spots_in row right n) (items_in row n c atoms))
      (λ l h. ap₂ (λ (a b : List ℕ). run_by a b l) e f ∙ run_is row right n l c atoms ok h)

  -- by the items, the numbers that they got, and the runs of both rules
  module _ (numbers items left right : List ℕ) (is-numbers : numbers ≡ (names_in row n c atoms).numbers) (is-items : items ≡ laid_in row n c atoms)
      (is_left : left ≡ runs_over row false c no_runs 0 n) (is_right : right ≡ runs_over row true c no_runs 0 n) (ok : fits n c ≡ true)
      (few : numbers_few row ≡ true) where
    abbrev fields : List ℕ
    fields = fields_text (table_in row) (text_in row texts) numbers (items_in row n c atoms)

    abbrev left_values : List ℕ
    left_values = values_in row texts numbers false atoms (run_by left items)

    abbrev right_values : List ℕ
    right_values = values_in row texts numbers true atoms (run_by right items)

    pub line_text_lem : fields ++ (left_values ++ (right_values ++ 10 ∷ [])) ≡ line_in row texts n c atoms
    line_text_lem =
        ap₂ (λ (a b : List ℕ). fields ++ (a ++ (b ++ 10 ∷ [])))
        (values_laid numbers false left items is_left is-items ok ((both_is (side_few row false) (side_few row true)).0 few).0)
        (values_laid numbers true right items is_right is-items ok ((both_is (side_few row false) (side_few row true)).0 few).1)
        ∙ ap (λ (ns : List ℕ). fields_text (table_in row) (text_in row texts) ns (items_in row n c atoms)
        ++ (values_in row texts ns false atoms (run_on (spots_in row false n) (items_in row n c atoms))
        ++ (values_in row texts ns true atoms (run_on (spots_in row true n) (items_in row n c atoms)) ++ 10 ∷ []))) is-numbers
        ∙ line_whole ok few

  module _ (low : (i : ℕ) → get_or row i 0 < 256) (small : (i : ℕ) → get_or texts i 0 < 256) where
    top_low : (right : Bool) (k : ℕ) → top_in row right k ≤ largest_byte
    top_low true k = omega (arith, low (tops_at + 4 + k))
    top_low false k = omega (arith, low (tops_at + k))

    -- THE SIZE OF A LINE
    line_short : fits n c ≡ true → length (whole_line row texts n c atoms) ≤ line_bound
    line_short ok =
        let b = line_bounded (table_in row) (text_in row texts) 257 (text_short row texts small) (names_in row n c atoms).numbers
        (λ i. let z = names_small row n c atoms ok i in omega arith)
        (index_in row false) (top_in row false) (index_in row true) (top_in row true) (λ k h. top_low false k) (λ k h. top_low true k)
        (spots_in row false n) (spots_in row true n) atoms (items_in row n c atoms) entry_places (omega arith) (items_small row n c atoms ok)
        (omega (arith, items_long row n c atoms, fields_fit n c ok)) in
        omega (arith, b)

    -- of its parts
    pub parts_short : (numbers items left right : List ℕ) → numbers ≡ (names_in row n c atoms).numbers → items ≡ laid_in row n c atoms
        → left ≡ runs_over row false c no_runs 0 n → right ≡ runs_over row true c no_runs 0 n → fits n c ≡ true → numbers_few row ≡ true
        → length (fields_text (table_in row) (text_in row texts) numbers (items_in row n c atoms))
        + (length (values_in row texts numbers false atoms (run_by left items)) + (length (values_in row texts numbers true atoms (run_by right items)) + 1))
        ≤ line_bound
    parts_short numbers items left right e f g h ok few =
        let a = fields_text (table_in row) (text_in row texts) numbers (items_in row n c atoms) in
        let b = values_in row texts numbers false atoms (run_by left items) in
        let d = values_in row texts numbers true atoms (run_by right items) in
        omega (
          arith,
          line_short ok,
          ap length (line_text_lem numbers items left right e f g h ok few ∙ sym (line_whole ok few)),
          length-append a (b ++ (d ++ 10 ∷ [])),
          length-append b (d ++ 10 ∷ []),
          length-append d (10 ∷ []),
        )
