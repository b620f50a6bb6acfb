-- How long a list can be: no more lines than there are choices, of any tables; and a bound on every line.
use mathlib.Core.Path.{◌≡◌, ◌∙◌, ap, ap₂, subst}
use mathlib.Core.Bool.{true, false}
use mathlib.Core.List.{List, [], ◌∷◌}
use Prim.Native.Nat.{ℕ, zero, suc, ◌+◌, ◌-◌, ◌*◌, ◌/◌, ◌≤◌, ◌<◌}
use native.Mathlib.Nat.{mul-le-mul, mul-le-mul_right, div-mul-le_self}
use native.Mathlib.Omega.{arith}
use lib.ListN.{length, get_or, length-append}
use Rattle.base_limits.specs.Limits.{longest_string, kind_count, numbers_of_side, entry_line}
use Rattle.base_lists.specs.Seqs.{All, all_append}
use Rattle.pair_row.specs.Row.{table_in, cell_bytes, top_in}
use Rattle.pair_state.specs.declared.State.{State}
use Rattle.std.specs.Prelude.{Some, None}
use Rattle.std.specs.Prelude as std
use Rattle.overlap_entries.specs.declared.Choice.{Choice}
use Rattle.overlap_entries.specs.Entries.{no_choice, chosen_at}
use Rattle.pair_lines.specs.Lines.{line_in}
use Rattle.pair_lines.proofs.Short.{any_line}
use Rattle.text_write.specs.pieces.Stored.{bytes_of}
use Rattle.overlap_entries.specs.declared.Candidate.{Candidate}
use Rattle.overlap_list.specs.Listing.{span_at, candidate_of, joins_at, after_join, candidate_lines, choice_lines, lines_from, all_lines}
use Rattle.overlap_list.specs.Listing.{choices}
use Rattle.overlap_list.proofs.Counts.{choice_few}

-- ---- how many lines

module _ (row texts : List ℕ) (n : ℕ) where
  few_from : (m j : ℕ) (ch : Choice) (st : State) → length (lines_from m row texts n j ch st) ≤ choices row j m
  few_from zero j ch st = omega arith
  few_from (suc m) j ch st =
      choice_few (lines_from m row texts n (j + 1)) row j (choices row (j + 1) m) (λ c s. few_from m (j + 1) c s) (span_at row j).count ch st

  -- each candidate of a field leads to no more lines than there are choices of the rest
  pub few_lines : length (all_lines row texts n) ≤ choices row 0 n
  few_lines = few_from n 0 no_choice (record { atoms = (table_in row).first })

-- ---- what holds of the line of every choice holds of every line

module _ (P : List ℕ → Type 0) where
  module _ (next : Choice → State → List (List ℕ)) (row : List ℕ) (j : ℕ) (every : (ch : Choice) (st : State) → All P (next ch st)) where
    join_every : (c : Candidate) (ch : Choice) (st : State) → All P (candidate_lines next row j c ch st)
    join_every c ch st = go (joins_at row j c.items st)
      where
        go : (r : std.Option State) → All P (after_join r (next (chosen_at ch j c.items c.long)))
        go None = tt
        go (Some st) = every (chosen_at ch j c.items c.long) st

    choice_every : (k : ℕ) (ch : Choice) (st : State) → All P (choice_lines next row j k ch st)
    choice_every zero ch st = tt
    choice_every (suc k) ch st =
        let c = candidate_of (span_at row j) (suc k) in
        all_append P (candidate_lines next row j c ch st) (choice_lines next row j k ch st) (join_every c ch st) (choice_every k ch st)

  module _ (row texts : List ℕ) (n : ℕ) (holds : (ch : Choice) (atoms : List ℕ) → P (line_in row texts n ch atoms)) where
    from_every : (m j : ℕ) (ch : Choice) (st : State) → All P (lines_from m row texts n j ch st)
    from_every zero j ch st = (holds ch st.atoms, tt)
    from_every (suc m) j ch st =
        choice_every (lines_from m row texts n (j + 1)) row j (λ c s. from_every m (j + 1) c s) (span_at row j).count ch st

    pub every_line : All P (all_lines row texts n)
    every_line = from_every n 0 no_choice (record { atoms = (table_in row).first })

-- ---- how many bytes

bytes_few : (b : ℕ) (ls : List (List ℕ)) → All (λ l. length l ≤ b) ls → length (bytes_of ls) ≤ length ls * b
bytes_few b [] a = omega arith
bytes_few b (l ∷ ls) a = omega (arith, a.0, bytes_few b ls a.1, length-append l (bytes_of ls))

module _ (row texts : List ℕ) (n : ℕ) where
  pub list_short : All (λ l. length l ≤ entry_line) (all_lines row texts n) → length (bytes_of (all_lines row texts n)) ≤ choices row 0 n * entry_line
  list_short a = omega (arith, bytes_few entry_line (all_lines row texts n) a, mul-le-mul_right entry_line (few_lines row texts n))

  -- THE LIST of a pair whose constants have at most 15 bytes, and its variables numbers below 16
  pub pair_short : ((c : ℕ) → get_or texts (cell_bytes * c) 0 ≤ longest_string)
      → ((k : ℕ) → k < kind_count → top_in row false k ≤ numbers_of_side) → ((k : ℕ) → k < kind_count → top_in row true k ≤ numbers_of_side)
      → length (bytes_of (all_lines row texts n)) ≤ choices row 0 n * entry_line
  pair_short short low₁ low₂ =
      list_short (every_line (λ l. length l ≤ entry_line) row texts n (λ ch atoms. any_line row texts n ch atoms short low₁ low₂))

-- a list with room for the longest line of every choice fits
pub surely_fits : (c b n : ℕ) → c ≤ n / entry_line → b ≤ c * entry_line → b ≤ n
surely_fits c b n h p = omega (arith, p, mul-le-mul_right entry_line h, div-mul-le_self n entry_line)

-- ---- how many choices, field by field from the last one on

-- a count is below 2 ^ 16, and there are four
pub most_choices : ℕ → ℕ
most_choices zero = 1
most_choices (suc m) = 65535 * most_choices m

most_choices_lem : (m : ℕ) → m < 4 → 65535 * most_choices m < 18446744073709551616
unfolding most_choices
most_choices_lem zero h = omega arith
most_choices_lem (suc zero) h = omega arith
most_choices_lem (suc (suc zero)) h = omega arith
most_choices_lem (suc (suc (suc zero))) h = omega arith
most_choices_lem (suc (suc (suc (suc m)))) h = absurd (omega arith)

-- k is the product of the fields from j on
pub record Product (row : List ℕ) (n j k : ℕ) : Type 0 where
  pub within : j ≤ n
  pub product : k ≡ choices row j (n - j)
  pub small : k ≤ most_choices (n - j)

module _ (row : List ℕ) (n : ℕ) where
  pub product_start : Product row n n 1
  unfolding most_choices
  product_start =
      let z : 0 ≡ n - n = omega arith in
      record { within = omega arith; product = ap (choices row n) z; small = subst (λ m. 1 ≤ most_choices m) z (omega arith) }

  module _ (j k : ℕ) (some : 0 < j) (h : Product row n j k) (s : ℕ) (few : s < 65536) where
    times_small : s * k ≤ 65535 * most_choices (n - j)
    times_small = mul-le-mul (let p : s ≤ 65535 = omega arith in p) h.small

    pub product_fits : n ≤ 4 → s * k < 18446744073709551616
    product_fits p = omega (arith, times_small, most_choices_lem (n - j) (omega (arith, h.within, p)))

    pub product_next : s ≡ (span_at row (j - 1)).count → Product row n (j - 1) (s * k)
    unfolding most_choices
    product_next e =
        let z : suc (n - j) ≡ n - (j - 1) = omega (arith, h.within) in
        let one : j ≡ j - 1 + 1 = omega arith in
        record {
          within = omega (arith, h.within);
          product = subst (λ m. s * k ≡ choices row (j - 1) m) z (ap₂ (λ a b. a * b) e (h.product ∙ ap (λ i. choices row i (n - j)) one));
          small = subst (λ m. s * k ≤ most_choices m) z times_small;
        }
