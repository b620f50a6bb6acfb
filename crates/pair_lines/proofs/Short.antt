-- A sharp bound on a line: constants of at most 15 bytes, and numbers of variables below 16.
use mathlib.Core.Bool.{Bool, true, false, cond, ◌&&◌}
use mathlib.Core.Path.{◌≡◌, refl}
use mathlib.Core.List.{List, [], ◌∷◌, ◌++◌}
use Prim.Native.Nat.{ℕ, zero, suc, ◌+◌, ◌*◌, ◌≤◌, ◌<◌}
use native.Mathlib.Omega.{arith}
use lib.ListN.{length, length-append, length-take, get_or, drop}
use Rattle.base_limits.specs.Limits.{longest_string, kind_count, entry_terms, numbers_of_side, longest_term, entry_line}
use Rattle.base_lists.specs.Seqs.{All, tabulate}
use Rattle.math_codes.proofs.Measures.{line_short}
use Rattle.pair_row.specs.Row.{table_in, cell_bytes, bytes_in, is_string, text_in, index_in, top_in}
use Rattle.overlap_entries.specs.declared.Choice.{Choice}
use Rattle.pair_lines.specs.Lines.{numbers_few, fits, field_in, items_in, names_in, spots_in, whole_line, line_in}
use Rattle.pair_lines.proofs.Laying.{fields_fit, count_fits, field_long, items_long, names_small}

-- a constant's bytes, and two quotes
pub cell_short : (row texts : List ℕ) → ((c : ℕ) → get_or texts (cell_bytes * c) 0 ≤ longest_string) → (c : ℕ) → length (text_in row texts c) ≤ longest_term
cell_short row texts short c = go (is_string row c)
  where
    few : length (bytes_in texts c) ≤ longest_string
    few = omega (arith, short c, length-take (get_or texts (cell_bytes * c) 0) (drop (cell_bytes * c + 1) texts))

    go : (b : Bool) → length (cond b (34 ∷ (bytes_in texts c ++ 34 ∷ [])) (bytes_in texts c)) ≤ longest_term
    go true = omega (arith, few, length-append (bytes_in texts c) (34 ∷ []))
    go false = omega (arith, few)

all_short : (n : ℕ) (f : ℕ → List ℕ) → ((j : ℕ) → j < n → length (f j) ≤ entry_terms) → All (λ l. length l ≤ entry_terms) (tabulate n f)
all_short zero f h = tt
all_short (suc n) f h = (h 0 (omega arith), all_short n (λ i. f (suc i)) (λ i p. h (suc i) (omega arith)))

-- A LINE
pub any_line : (row texts : List ℕ) (n : ℕ) (c : Choice) (atoms : List ℕ) → ((c : ℕ) → get_or texts (cell_bytes * c) 0 ≤ longest_string)
    → ((k : ℕ) → k < kind_count → top_in row false k ≤ numbers_of_side) → ((k : ℕ) → k < kind_count → top_in row true k ≤ numbers_of_side)
    → length (line_in row texts n c atoms) ≤ entry_line
unfolding line_in
any_line row texts n c atoms short low₁ low₂ = go (fits n c) (numbers_few row) refl
  where
    go : (b d : Bool) → fits n c ≡ b → length (cond (b && d) (whole_line row texts n c atoms) []) ≤ entry_line
    go true true e =
        line_short (table_in row) (text_in row texts) (cell_short row texts short) (names_in row n c atoms).numbers (names_small row n c atoms e)
        (index_in row false) (top_in row false) (index_in row true) (top_in row true) low₁ low₂ (spots_in row false n) (spots_in row true n) atoms
        (items_in row n c atoms) (omega (arith, items_long row n c atoms, fields_fit n c e))
        (all_short n (field_in row c atoms) (λ j h. omega (arith, field_long row c atoms j, count_fits n c e j h)))
    go true false e = omega arith
    go false d e = omega arith
