-- The line of an answer: which have none, its text from the parts that are put, and its size. Assumes nothing.
use mathlib.Core.Path.{◌≡◌, refl, sym, ap, ap₂, ◌∙◌}
use mathlib.Core.Bool.{Bool, true, false, cond}
use mathlib.Core.List.{List, [], ◌∷◌, ◌++◌, foldl-append}
use Prim.Native.Nat.{ℕ, ◌+◌, ◌*◌, ◌%◌, ◌≤◌, ◌<◌}
use native.Mathlib.Omega.{arith}
use lib.Dec.{eqb, leb}
use lib.ListN.{length, get_or, drop, length-append, length-drop, length-replicate}
use lib.Seq.{slice, take_all}
use borrow.Author.Tests.{leb-true, eq-eqb, ne_eqb}
use Rattle.base_limits.specs.Limits.{entry_terms, numbers_of_side, pair_items}
use Rattle.base_lists.specs.Truths.{both_is}
use Rattle.base_lists.specs.Seqs.{tabulate_at}
use Rattle.math_codes.specs.Makers.{largest_byte}
use Rattle.math_codes.specs.Tables.{Table}
use Rattle.math_codes.specs.Names.{Names, no_names, name_codes, name_fields}
use Rattle.math_codes.proofs.Makers.{at_most}
use Rattle.math_codes.proofs.Measures.{values_bounded}
use Rattle.pair_row.specs.Row.{table_in, text_in, index_in, top_in}
use Rattle.pair_lines.specs.Lines.{Few, side_few, numbers_few, run_by, tag_of, unled, values_in, line_bound, most_count, run_places}
use Rattle.pair_lines.specs.Answers.{are_items, value_fits, whole_runs, listed_in, answer_in}
use Rattle.pair_lines.proofs.Bounds.{text_short, tops_few}
use Rattle.pair_lines.proofs.Loops.{all_named}
use Rattle.pair_lines.proofs.Values.{values_agree}
use Rattle.pair_lines.proofs.AnswerNumbers.{Bound, side_numbers, no_numbers}

-- ---- runs that are all items

whole_run : (items : List ℕ) (l : ℕ) → l < numbers_of_side → run_by (whole_runs (length items)) items l ≡ items
whole_run items l h =
    let n = length items in
    let f : ℕ → ℕ = λ i. cond (eqb (i % 2) 0) 0 n in
    let from : get_or (whole_runs n) (2 * l) 0 ≡ 0 =
    tabulate_at run_places f (2 * l) 0 (omega arith) ∙ ap (λ (b : Bool). cond b 0 n) (eq-eqb (2 * l % 2) 0 (omega arith)) in
    let to : get_or (whole_runs n) (2 * l + 1) 0 ≡ n =
    tabulate_at run_places f (2 * l + 1) 0 (omega arith) ∙ ap (λ (b : Bool). cond b 0 n) (ne_eqb ((2 * l + 1) % 2) 0 (λ e. omega arith)) in
    ap₂ (λ (a b : ℕ). slice a b items) from to ∙ take_all n items (omega arith)

pub fits_short : (items : List ℕ) → value_fits items ≡ true → length items ≤ entry_terms
fits_short items e = leb-true (length items) entry_terms ((both_is (leb (length items) entry_terms) (are_items items)).0 e).0

-- ---- the line

module _ (row texts atoms left right : List ℕ) where
  pub answer_many : numbers_few row ≡ false → [] ≡ answer_in row texts atoms left right
  unfolding answer_in
  answer_many e = rw e

  pub answer_left : numbers_few row ≡ true → value_fits left ≡ false → [] ≡ answer_in row texts atoms left right
  unfolding answer_in
  answer_left few e = rw (few, e)

  pub answer_right : numbers_few row ≡ true → value_fits left ≡ true → value_fits right ≡ false → [] ≡ answer_in row texts atoms left right
  unfolding answer_in
  answer_right few ok e = rw (few, ok, e)

  abbrev T : Table
  T = table_in row

  abbrev first : Names
  first = name_fields T (no_names pair_items 4) (listed_in row false atoms left)

  abbrev both : Names
  both = name_fields T (no_names pair_items 4) (listed_in row false atoms left ++ listed_in row true atoms right)

  both_is_second : both ≡ name_fields T first (listed_in row true atoms right)
  both_is_second = foldl-append (name_codes T) (no_names pair_items 4) (listed_in row false atoms left) (listed_in row true atoms right)

  -- the names of all values, one side after the other
  pub both_named : (x y z : Names) → x ≡ no_names pair_items 4 → y ≡ name_fields T x (listed_in row false atoms left)
      → z ≡ name_fields T y (listed_in row true atoms right)
      → z ≡ both
  both_named x y z o e h =
      h ∙ ap (λ (w : Names). name_fields T w (listed_in row true atoms right)) (e ∙ ap (λ (w : Names). name_fields T w (listed_in row false atoms left)) o)
      ∙ sym both_is_second

  module _ (few : numbers_few row ≡ true) (ok₁ : value_fits left ≡ true) (ok₂ : value_fits right ≡ true) where
    few₁ : side_few row false ≡ true
    few₁ = ((both_is (side_few row false) (side_few row true)).0 few).0

    few₂ : side_few row true ≡ true
    few₂ = ((both_is (side_few row false) (side_few row true)).0 few).1

    bound₁ : Bound 79 first
    bound₁ = side_numbers row false atoms left few₁ ok₁ 0 (no_names pair_items 4) (length-replicate {A = ℕ} pair_items 0) no_numbers

    bound₂ : Bound 158 (name_fields T first (listed_in row true atoms right))
    bound₂ =
        side_numbers row true atoms right few₂ ok₂ 79 first
        ((all_named T (listed_in row false atoms left) (no_names pair_items 4)).1 ∙ length-replicate {A = ℕ} pair_items 0) bound₁

    -- there is room for all numbers
    pub left_few : (x : Names) → x ≡ no_names pair_items 4 → Few most_count (name_fields T x (listed_in row false atoms left)).counts
    left_few x o i =
        omega (arith, ap (λ (w : Names). get_or (name_fields T w (listed_in row false atoms left)).counts i 0) o, at_most 79 first.counts bound₁.0 i)

    pub right_few : (x y : Names) → x ≡ no_names pair_items 4 → y ≡ name_fields T x (listed_in row false atoms left)
        → Few most_count (name_fields T y (listed_in row true atoms right)).counts
    right_few x y o e i =
        let y₂ = name_fields T first (listed_in row true atoms right) in
        let q = ap (λ (w : Names). get_or (name_fields T w (listed_in row true atoms right)).counts i 0)
        (e ∙ ap (λ (w : Names). name_fields T w (listed_in row false atoms left)) o) in
        omega (arith, q, at_most 158 y₂.counts bound₂.0 i)

    module _ (numbers runs₁ runs₂ : List ℕ) (is-numbers : numbers ≡ both.numbers) (is₁ : runs₁ ≡ whole_runs (length left))
        (is₂ : runs₂ ≡ whole_runs (length right)) where
      abbrev left_values : List ℕ
      left_values = values_in row texts numbers false atoms (run_by runs₁ left)

      abbrev right_values : List ℕ
      right_values = values_in row texts numbers true atoms (run_by runs₂ right)

      left_is : left_values ≡ values_in row texts numbers false atoms (λ l. left)
      left_is =
          values_agree row texts numbers false atoms (tops_few row false few₁ 3 (omega arith)) (run_by runs₁ left) (λ l. left)
          (λ l h. ap (λ (r : List ℕ). run_by r left l) is₁ ∙ whole_run left l h)

      right_is : right_values ≡ values_in row texts numbers true atoms (λ l. right)
      right_is =
          values_agree row texts numbers true atoms (tops_few row true few₂ 3 (omega arith)) (run_by runs₂ right) (λ l. right)
          (λ l h. ap (λ (r : List ℕ). run_by r right l) is₂ ∙ whole_run right l h)

      -- THE LINE, by the numbers that the values got
      pub answer_text_lem : unled false 0 (left_values ++ right_values) ++ 10 ∷ [] ≡ answer_in row texts atoms left right
      unfolding answer_in
      answer_text_lem =
          ap₂ (λ (a b : List ℕ). drop 1 (a ++ b) ++ 10 ∷ []) left_is right_is
          ∙ ap (λ (ns : List ℕ). drop 1 (values_in row texts ns false atoms (λ l. left) ++ values_in row texts ns true atoms (λ l. right)) ++ 10 ∷ [])
          is-numbers
          ∙ rw (few, ok₁, ok₂)

      -- its parts are small together
      module _ (short : (c : ℕ) → length (text_in row texts c) ≤ 257) where
        low : (i : ℕ) → get_or numbers i 0 ≤ largest_byte
        low i =
            let y = name_fields T first (listed_in row true atoms right) in
            let e = ap (λ (ns : List ℕ). get_or ns i 0) (is-numbers ∙ ap (λ (x : Names). x.numbers) both_is_second) in
            omega (arith, e, at_most 158 y.numbers bound₂.1 i)

        side_short : (side : Bool) → side_few row side ≡ true → (items : List ℕ) → length items ≤ entry_terms
            → length (values_in row texts numbers side atoms (λ l. items)) ≤ 8296680
        side_short side f items h =
            values_bounded T (text_in row texts) 257 short numbers low (tag_of side) (index_in row side) (top_in row side)
            (λ k l. let t = tops_few row side f k l in omega arith) atoms (λ l. items) entry_terms (omega arith) (λ l. h)

        pub answer_short : length left_values + (length right_values + 1) ≤ line_bound
        answer_short =
            omega (
              arith,
              ap length left_is,
              ap length right_is,
              side_short false few₁ left (fits_short left ok₁),
              side_short true few₂ right (fits_short right ok₂),
            )

        -- so is the line
        pub answer_bounded : length (answer_in row texts atoms left right) ≤ line_bound
        answer_bounded =
            omega (
              arith,
              answer_short,
              ap length answer_text_lem,
              length-append (unled false 0 (left_values ++ right_values)) (10 ∷ []),
              length-drop 1 (left_values ++ right_values),
              length-append left_values right_values,
            )

    -- the parts that are put
    pub both_short : (x y z : Names) → x ≡ no_names pair_items 4 → y ≡ name_fields T x (listed_in row false atoms left)
        → z ≡ name_fields T y (listed_in row true atoms right) → (runs₁ runs₂ : List ℕ) → runs₁ ≡ whole_runs (length left) → runs₂ ≡ whole_runs (length right)
        → ((i : ℕ) → get_or texts i 0 < 256)
        → length (values_in row texts z.numbers false atoms (run_by runs₁ left)) + (length (values_in row texts z.numbers true atoms (run_by runs₂ right)) + 1)
        ≤ line_bound
    both_short x y z o e h runs₁ runs₂ is₁ is₂ bytes =
        answer_short z.numbers runs₁ runs₂ (ap (λ (w : Names). w.numbers) (both_named x y z o e h)) is₁ is₂ (text_short row texts bytes)

    -- of any tables whose constants have short texts
    pub any_answer : ((c : ℕ) → length (text_in row texts c) ≤ 257) → length (answer_in row texts atoms left right) ≤ line_bound
    any_answer short = answer_bounded both.numbers (whole_runs (length left)) (whole_runs (length right)) refl refl refl short
