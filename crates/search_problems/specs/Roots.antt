-- The record of the equation of two fields, from the pair's tables, as code makes it. `root_holds` of proofs/Rooted says that it is the
-- problem that the search starts with.
use Rattle.std.specs.Prelude.{Bool, true, false, cond, List, [], ◌∷◌, ◌++◌, map, ℕ, suc, ◌+◌, ◌%◌, get_or}
use Rattle.base_limits.specs.Limits.{numbers_of_side, pair_places}
use Rattle.math_overlaps.specs.Candidates.{range}
use Rattle.search_problems.specs.variables.Sets.{with_name}
use Rattle.pair_row.specs.declared.Shape.{Shape}
use Rattle.pair_row.specs.Row.{table_in, shape_in}
use Rattle.search_items.specs.declared.Items.{Items}
use Rattle.search_items.specs.Items.{blank_items, collect}
use Rattle.search_problems.specs.declared.Problem.{Problem}

-- ---- list variables

-- "a right-side variable counting 16 above its number"; numbers beyond those of a side, which no table has, count by their remainder
abbrev pub list_number : Bool → ℕ → ℕ
list_number false n = n % numbers_of_side
list_number true n = numbers_of_side + n % numbers_of_side

-- a field's list variable, if it has one
abbrev pub own_items : Bool → Shape → Items
own_items right s = cond s.gapped (collect ((pair_places + list_number right s.list) ∷ [])) blank_items

-- its number put into a set
abbrev pub with_own : ℕ → Bool → Shape → ℕ
with_own set right s = cond s.gapped (with_name set (list_number right s.list)) set

-- ---- the equation

module _ (row : List ℕ) where
  -- the codes at n places from b on
  abbrev pub codes_at : ℕ → ℕ → List ℕ
  codes_at b n = map (λ p. get_or row p 0) (range b n)

  -- a field of a shape as it stands on the left side, or on the right
  abbrev pub side_codes : Bool → Shape → List ℕ
  side_codes right s =
      codes_at s.base s.head
      ++ cond s.gapped ((pair_places + list_number right s.list) ∷ codes_at (suc (s.base + s.head)) s.tail) []

  abbrev pub side_items : Bool → Shape → Items
  side_items right s = collect (side_codes right s)

  -- left = right, where each variable stands for itself
  abbrev pub start_of : Shape → Shape → Problem
  start_of a b =
      record {
        «open» = true;
        left = side_items false a;
        right = side_items true b;
        atoms = record { atoms = (table_in row).first };
        lists = own_items false a ∷ (own_items true b ∷ []);
        used = with_own (with_own 0 true b) false a;
      }

  -- "The equation is one field of the left rule and one of the right"
  abbrev pub root_value : Problem
  root_value = start_of (shape_in row false 0) (shape_in row true 0)
