-- Where a rule's variables stand, and a line's values with that: two nested loops, by type and by number, with no search.
use Rattle.std.specs.Prelude.{◌≡◌, Bool, true, false, cond, List, [], ◌∷◌, ◌++◌, ℕ, zero, suc, ◌+◌, ◌-◌, ◌*◌, ◌/◌, ◌%◌, ◌≤◌, ◌<◌, ltb, get_or, drop}
use Rattle.base_limits.specs.Limits.{largest_number, kind_count, atom_kind_count, numbers_of_side, field_places, rule_places, pair_places, pair_items}
use Rattle.math_types.specs.Order.{basic, list}
use Rattle.math_types.specs.Types.{Kind, basics, rank, kind_at, atom_kinds, entry}
use Rattle.math_terms.specs.Seqs.{concat_map}
use Rattle.text_grammar.specs.Letters.{letter_at}
use Rattle.text_grammar.specs.Numbers.{digits_of}
use Rattle.text_grammar.specs.Terms.{OurTerm}
use Rattle.text_grammar.specs.constants.Constants.{consts}
use Rattle.math_overlaps.specs.Shapes.{free, Side, of}
use Rattle.math_overlaps.specs.Candidates.{Cand, range}
use Rattle.overlap_spec.specs.Lines.{left_tag, right_tag}
use Rattle.overlap_spec.specs.Variables.{Variable, occurs, every}
use Rattle.math_codes.specs.Tables.{Table, code_of, same}
use Rattle.math_codes.specs.Names.{no_names, name_fields}
use Rattle.math_codes.specs.Lines.{items_text, fields_text, value_text, our_vars, our_row}
use Rattle.math_codes.specs.Spots.{Spot}
use Rattle.math_codes.specs.Walks.{walk_on}
use Rattle.math_codes.specs.Whole.{spots_of, items_from, run_on}

-- ---- the index of a rule: by slot the code and one, 0 for a variable that the rule lacks

-- the numbers of a type one behind the other; the type by its rank
abbrev pub slot_at : ℕ → ℕ → ℕ
slot_at k n = numbers_of_side * k + n

-- of a type
abbrev pub slot : Kind → ℕ → ℕ
slot k n = slot_at (rank k) n

-- what an index has for a variable of the rule on a side: of an atom variable its code and one, of a list variable anything but 0
module _ (r₁ r₂ : List (List OurTerm)) (d : Side) where
  abbrev pub Right : Kind → ℕ → ℕ → Type 0
  Right (basic k) n v = v ≡ suc (code_of (same basics consts our_vars) (our_row r₁ r₂) (free (of d k n)))
  Right list n v = 0 < v

  -- x is the index of r, the rule on the side d
  pub record Indexes (r : List (List OurTerm)) (x : ℕ → ℕ) : Type 0 where
    pub absent : (k : Kind) (n : ℕ) → n ≤ largest_number → occurs k n r ≡ false → x (slot k n) ≡ 0
    pub present : (k : Kind) (n : ℕ) → n ≤ largest_number → occurs k n r ≡ true → Right k n (x (slot k n))

-- by rank a bound on the numbers of a rule's variables
pub record Tops (r : List (List OurTerm)) (tops : ℕ → ℕ) : Type 0 where
  pub within : (k : ℕ) → k < kind_count → tops k ≤ numbers_of_side
  pub above : (k : Kind) (n : ℕ) → occurs k n r ≡ true → n < tops (rank k)

-- ---- there are such indexes and bounds for every two rules: `our_index_lem` and `our_tops_lem` of proofs/

module _ (r₁ r₂ : List (List OurTerm)) (d : Side) where
  -- an atom variable's code
  abbrev pub code_in : Kind → ℕ → ℕ
  code_in (basic k) n = code_of (same basics consts our_vars) (our_row r₁ r₂) (free (of d k n))
  code_in list n = 0

  -- what the index has for a variable
  abbrev pub index_at : List (List OurTerm) → Kind → ℕ → ℕ
  index_at r k n = cond (occurs k n r) (suc (code_in k n)) 0

  -- the index
  abbrev pub our_index : List (List OurTerm) → ℕ → ℕ
  our_index r s = index_at r (kind_at (s / numbers_of_side)) (s % numbers_of_side)

-- the bounds: all numbers
abbrev pub our_tops : ℕ → ℕ
our_tops k = numbers_of_side

-- ---- values over all variables

-- whether there is a variable
abbrev pub is_there : ℕ → Bool
is_there zero = false
is_there (suc c) = true

-- whether the rule has a variable
abbrev pub has : (ℕ → ℕ) → Variable → Bool
has x v = is_there (x (slot v.0 v.1))

-- a variable's value: of an atom variable by the array, of a list variable by its number
abbrev pub indexed_value : (ℕ → ℕ) → List ℕ → (ℕ → List ℕ) → Kind → ℕ → List ℕ
indexed_value x atoms runs (basic k) n = get_or atoms (x (slot (basic k) n) - 1) 0 ∷ []
indexed_value x atoms runs list n = runs n

module _ (T : Table) (texts : ℕ → List ℕ) where
  -- a variable's part of a line; nothing of one that the rule lacks
  abbrev pub shown_value : List ℕ → ℕ → (ℕ → ℕ) → List ℕ → (ℕ → List ℕ) → Variable → List ℕ
  shown_value numbers tag x atoms runs v = cond (has x v) (value_text T texts numbers tag v (indexed_value x atoms runs v.0 v.1)) []

  -- the variables of a rule in their order; `values_ranked` of proofs/ says that the loops below write the same
  abbrev pub every_value : List ℕ → ℕ → (ℕ → ℕ) → List ℕ → (ℕ → List ℕ) → List ℕ
  every_value numbers tag x atoms runs = concat_map (shown_value numbers tag x atoms runs) every

-- ---- values by rank and number

-- a variable's name
abbrev pub name_at : ℕ → ℕ → List ℕ
name_at k n = letter_at k ∷ digits_of n

-- whether the rule has it
abbrev pub has_at : (ℕ → ℕ) → ℕ → ℕ → Bool
has_at x k n = is_there (x (slot_at k n))

-- the types below list have the ranks below list's
abbrev pub value_at : (ℕ → ℕ) → List ℕ → (ℕ → List ℕ) → ℕ → ℕ → List ℕ
value_at x atoms runs k n = cond (ltb k atom_kinds) (get_or atoms (x (slot_at k n) - 1) 0 ∷ []) (runs n)

module _ (T : Table) (texts : ℕ → List ℕ) where
  -- a name and a value
  abbrev pub bound_text : List ℕ → ℕ → ℕ → ℕ → List ℕ → List ℕ
  bound_text numbers tag k n cs = 32 ∷ (tag ∷ (name_at k n ++ 61 ∷ items_text T texts numbers cs))

  -- a variable's part of a line
  abbrev pub ranked_value : List ℕ → ℕ → (ℕ → ℕ) → List ℕ → (ℕ → List ℕ) → ℕ → ℕ → List ℕ
  ranked_value numbers tag x atoms runs k n = cond (has_at x k n) (bound_text numbers tag k n (value_at x atoms runs k n)) []

  -- the variables of a rank: a loop over the numbers below its top
  abbrev pub rank_values : List ℕ → ℕ → (ℕ → ℕ) → (ℕ → ℕ) → List ℕ → (ℕ → List ℕ) → ℕ → List ℕ
  rank_values numbers tag x tops atoms runs k = concat_map (ranked_value numbers tag x atoms runs k) (range 0 (tops k))

  -- those of a rule: a loop over the ranks
  abbrev pub indexed_values : List ℕ → ℕ → (ℕ → ℕ) → (ℕ → ℕ) → List ℕ → (ℕ → List ℕ) → List ℕ
  indexed_values numbers tag x tops atoms runs = concat_map (rank_values numbers tag x tops atoms runs) (range 0 kind_count)

  -- the line of an entry's items, by the indexes and tops of the two rules
  module _ (x₁ t₁ x₂ t₂ : ℕ → ℕ) (Ps Qs : List (Spot ℕ)) where
    abbrev pub indexed_items : List ℕ → List (List ℕ) → List ℕ → List ℕ
    indexed_items atoms is numbers =
        fields_text T texts numbers is
        ++ (indexed_values numbers left_tag x₁ t₁ atoms (run_on Ps is)
        ++ (indexed_values numbers right_tag x₂ t₂ atoms (run_on Qs is) ++ 10 ∷ []))

    -- of a choice and its last array
    abbrev pub indexed_line : List Cand → List ℕ → List ℕ
    indexed_line cs atoms =
        indexed_items atoms (items_from atoms pair_places 0 Ps Qs cs)
        (name_fields T (no_names pair_items kind_count) (items_from atoms pair_places 0 Ps Qs cs)).numbers

  -- THE LIST as the code makes it, line by line
  abbrev pub indexed_list : List (List OurTerm) → List (List OurTerm) → (ℕ → ℕ) → (ℕ → ℕ) → (ℕ → ℕ) → (ℕ → ℕ) → List (List ℕ)
  indexed_list r₁ r₂ x₁ t₁ x₂ t₂ =
      walk_on entry T (spots_of field_places 0 r₁) (spots_of field_places rule_places r₂) T.first
      (λ cs last. indexed_line x₁ t₁ x₂ t₂ (spots_of field_places 0 r₁) (spots_of field_places rule_places r₂) cs last ∷ [])

-- ---- the line of an answer of a search

-- the values of a rule's variables in the line's order, by rank and number those that the index has
abbrev pub listed_values : (ℕ → ℕ) → (ℕ → ℕ) → List ℕ → (ℕ → List ℕ) → List (List ℕ)
listed_values x tops atoms runs =
    concat_map (λ k. concat_map (λ n. cond (has_at x k n) (value_at x atoms runs k n ∷ []) []) (range 0 (tops k))) (range 0 kind_count)

module _ (T : Table) (texts : ℕ → List ℕ) where
  -- the bindings part of an overlap line, without the blank in front; the variables are numbered by the values
  abbrev pub indexed_answer : (ℕ → ℕ) → (ℕ → ℕ) → (ℕ → List ℕ) → (ℕ → ℕ) → (ℕ → ℕ) → (ℕ → List ℕ) → List ℕ → List ℕ
  indexed_answer x₁ t₁ runs₁ x₂ t₂ runs₂ atoms =
      let vs = listed_values x₁ t₁ atoms runs₁ ++ listed_values x₂ t₂ atoms runs₂ in
      let numbers = (name_fields T (no_names pair_items kind_count) vs).numbers in
      drop 1
      (indexed_values T texts numbers left_tag x₁ t₁ atoms runs₁ ++ indexed_values T texts numbers right_tag x₂ t₂ atoms runs₂)
      ++ 10 ∷ []
