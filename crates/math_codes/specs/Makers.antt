-- What the code computes beside the list: whether there is an entry, and how long a line is.
use Rattle.std.specs.Prelude.{Bool, true, false, cond, ◌||◌, List, [], ◌∷◌, ℕ, ◌+◌, ◌-◌, ltb, length, get_or}
use Rattle.std.proofs.Math.Option.{Option, none, some}
use Rattle.base_limits.specs.Limits.{kind_count, pair_places, pair_items}
use Rattle.text_grammar.specs.Numbers.{digits_of}
use Rattle.math_overlaps.specs.Candidates.{Cand, range}
use Rattle.math_codes.specs.Tables.{Table}
use Rattle.math_codes.specs.Names.{no_names, name_fields}
use Rattle.math_codes.specs.Spots.{Spot, spot_cands}
use Rattle.math_codes.specs.Walks.{joins_on}
use Rattle.math_codes.specs.Lines.{items_size, fields_size}
use Rattle.math_codes.specs.Whole.{items_from, run_on}
use Rattle.math_codes.specs.Index.{has_at, value_at}

-- ---- do two rules overlap: the recursion without lines

-- no entry behind a clash
abbrev pub or_clash : Option (List ℕ) → (List ℕ → Bool) → Bool
or_clash none k = false
or_clash (some next) k = k next

-- for some candidate
abbrev pub any_of : (Cand → Bool) → List Cand → Bool
any_of f [] = false
any_of f (c ∷ cs) = f c || any_of f cs

module _ (below : ℕ → ℕ → Bool) (T : Table) {L M : Type 0} where
  -- whether some choice has no clash
  abbrev pub some_on : List (Spot L) → List (Spot M) → List ℕ → Bool
  some_on [] [] atoms = true
  some_on [] (Q ∷ Qs) atoms = false
  some_on (P ∷ Ps) [] atoms = false
  some_on (P ∷ Ps) (Q ∷ Qs) atoms = any_of (λ c. or_clash (joins_on below T P Q c atoms) (λ next. some_on Ps Qs next)) (spot_cands P Q)

-- ---- sizes

-- the largest byte
abbrev pub largest_byte : ℕ
largest_byte = 255

-- digits of a number below 1000
abbrev pub digits_size : ℕ → ℕ
digits_size n = cond (ltb n 10) 1 (cond (ltb n 100) 2 3)

-- `sizes` are those of the constants' texts, `numbers` has by code the number and one
abbrev pub item_size : Table → (ℕ → ℕ) → List ℕ → ℕ → ℕ
item_size T sizes numbers c = cond (T.variable c) (1 + digits_size (get_or numbers c 0 - 1)) (sizes c)

-- a sum over numbers
abbrev pub sum_of : (ℕ → ℕ) → List ℕ → ℕ
sum_of f [] = 0
sum_of f (n ∷ ns) = f n + sum_of f ns

-- `size` is an item's
module _ (size : ℕ → ℕ) where
  -- the number of a variable and its value; a blank, a tag, a letter and `=` beside them
  abbrev pub bound_size : ℕ → List ℕ → ℕ
  bound_size n cs = 4 + (length (digits_of n) + items_size size cs)

  -- a variable's part of a line; 0 of one that the rule lacks
  abbrev pub ranked_size : (ℕ → ℕ) → List ℕ → (ℕ → List ℕ) → ℕ → ℕ → ℕ
  ranked_size x atoms runs k n = cond (has_at x k n) (bound_size n (value_at x atoms runs k n)) 0

  -- the variables of a rank: a loop over the numbers below its top
  abbrev pub rank_sizes : (ℕ → ℕ) → (ℕ → ℕ) → List ℕ → (ℕ → List ℕ) → ℕ → ℕ
  rank_sizes x tops atoms runs k = sum_of (ranked_size x atoms runs k) (range 0 (tops k))

  -- those of a rule: a loop over the ranks
  abbrev pub values_size : (ℕ → ℕ) → (ℕ → ℕ) → List ℕ → (ℕ → List ℕ) → ℕ
  values_size x tops atoms runs = sum_of (rank_sizes x tops atoms runs) (range 0 kind_count)

  -- the line of an entry's items, by the indexes and tops of the two rules
  abbrev pub size_items : (ℕ → ℕ) → (ℕ → ℕ) → (ℕ → ℕ) → (ℕ → ℕ) → List (Spot ℕ) → List (Spot ℕ) → List ℕ → List (List ℕ) → ℕ
  size_items x₁ t₁ x₂ t₂ Ps Qs atoms is =
      fields_size size is + (values_size x₁ t₁ atoms (run_on Ps is) + (values_size x₂ t₂ atoms (run_on Qs is) + 1))

-- THE SIZE of the line of a choice and its last array
module _ (T : Table) (sizes : ℕ → ℕ) (x₁ t₁ x₂ t₂ : ℕ → ℕ) (Ps Qs : List (Spot ℕ)) where
  abbrev pub size_line : List Cand → List ℕ → ℕ
  size_line cs atoms =
      size_items (item_size T sizes (name_fields T (no_names pair_items kind_count) (items_from atoms pair_places 0 Ps Qs cs)).numbers) x₁ t₁ x₂ t₂
      Ps Qs
      atoms (items_from atoms pair_places 0 Ps Qs cs)
