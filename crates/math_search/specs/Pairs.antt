-- The equation of two rules: "one field of the left rule and one of the right; variables are distinct by side even if spelled alike".
use Rattle.std.specs.Prelude.{List, map, ℕ, ◌+◌}
use Rattle.base_limits.specs.Limits.{numbers_of_side}
use Rattle.math_types.specs.Order.{Order, basic, list}
use Rattle.math_terms.specs.Terms.{con, var}
use Rattle.math_terms.specs.Constants.{Consts, TermOver}
use Rattle.math_overlaps.specs.Shapes.{fixed, free, Side, left, right, of, pair_vars}
use Rattle.math_search.specs.Problems.{Names, Setting, atomic, listvar, Tm, Field}

module _ (O : Order) (C : Consts O) {A : Type 0} (name_eq : Discrete A) (S : Names) where
  -- the search over the variables of a pair of rules whose names are A
  abbrev pub pair_setting : Setting
  pair_setting = record { order = O; constants = C; variables = pair_vars O name_eq; names = S }

  module _ (list_name : Side → A → S.Name) where
    -- a term of the rule on a side, whose list variables are called by `list_name`
    abbrev pub side_term : Side → TermOver O C A → Tm pair_setting
    side_term s (con c) = atomic (fixed c)
    side_term s (var (basic k) a) = atomic (free (of s k a))
    side_term s (var list a) = listvar (list_name s a)

    abbrev pub side_field : Side → List (TermOver O C A) → Field pair_setting
    side_field s f = map (side_term s) f

-- "a right-side variable counting 16 above its number"
abbrev pub sixteen_above : Side → ℕ → ℕ
sixteen_above left n = n
sixteen_above right n = numbers_of_side + n
