-- The line of an answer of the search, as code makes it of the pair's tables: the list variables of a side stand for one list of items.
use Rattle.std.specs.Prelude.{Bool, true, false, cond, ◌&&◌, List, [], ◌∷◌, ℕ, ◌%◌, eqb, leb, ltb, length}
use Rattle.base_limits.specs.Limits.{entry_terms, pair_items}
use Rattle.base_lists.specs.Seqs.{tabulate}
use Rattle.math_terms.specs.Seqs.{concat_map}
use Rattle.math_overlaps.specs.Candidates.{range}
use Rattle.math_codes.specs.Index.{has_at, value_at, listed_values, indexed_answer}
use Rattle.pair_row.specs.Row.{table_in, text_in, index_in, top_in}
use Rattle.pair_lines.specs.Lines.{run_places, numbers_few}

-- ---- values

-- no more items than an entry's field, each a code or a list variable: these have room for a number
abbrev pub are_items : List ℕ → Bool
are_items [] = true
are_items (c ∷ cs) = ltb c pair_items && are_items cs

abbrev pub value_fits : List ℕ → Bool
value_fits items = leb (length items) entry_terms && are_items items

-- the table of runs where the run of each list variable is the first n items
abbrev pub whole_runs : ℕ → List ℕ
whole_runs n = tabulate run_places (λ i. cond (eqb (i % 2) 0) 0 n)

-- what is listed of a variable, of those of a rank, and of a rule
module _ (row : List ℕ) (right : Bool) (atoms items : List ℕ) where
  abbrev pub value_with : ℕ → ℕ → List ℕ
  value_with k n = value_at (index_in row right) atoms (λ l. items) k n

  abbrev pub listed_at : ℕ → ℕ → List (List ℕ)
  listed_at k n = cond (has_at (index_in row right) k n) (value_with k n ∷ []) []

  abbrev pub listed_rank : ℕ → List (List ℕ)
  listed_rank k = concat_map (listed_at k) (range 0 (top_in row right k))

  abbrev pub listed_in : List (List ℕ)
  listed_in = listed_values (index_in row right) (top_in row right) atoms (λ l. items)

-- ---- the line

abbrev pub answer_fits : List ℕ → List ℕ → List ℕ → Bool
answer_fits row left right = numbers_few row && (value_fits left && value_fits right)

abbrev pub whole_answer : List ℕ → List ℕ → List ℕ → List ℕ → List ℕ → List ℕ
whole_answer row texts atoms left right =
    indexed_answer (table_in row) (text_in row texts) (index_in row false) (top_in row false) (λ l. left) (index_in row true) (top_in row true)
    (λ l. right) atoms

-- THE LINE of an answer; one whose values no search has, or of tables with too many variables, has none
unfoldable pub answer_in : List ℕ → List ℕ → List ℕ → List ℕ → List ℕ → List ℕ
answer_in row texts atoms left right = cond (answer_fits row left right) (whole_answer row texts atoms left right) []
