-- Left-linear rules.
use Rattle.std.specs.Prelude.{List, [], ◌∷◌, ◌≤◌, length}
use Rattle.base_lists.specs.Seqs.{All}
use Rattle.math_types.specs.Order.{Full, basic, list}
use Rattle.math_terms.specs.Terms.{Term, con, var}
use Rattle.math_terms.specs.Seqs.{concat_map, Distinct}

module _ {C K A : Type 0} where
  -- the names of a field's list variables, from the left
  abbrev pub lists : List (Term C (Full K) A) → List A
  lists [] = []
  lists (con c ∷ f) = lists f
  lists (var (basic k) a ∷ f) = lists f
  lists (var list a ∷ f) = a ∷ lists f

  -- document 01: "a field has at most one"
  abbrev pub OneList : List (Term C (Full K) A) → Type 0
  OneList f = length (lists f) ≤ 1

  -- document 01: "A list variable may occur once in a whole rule (left-linearity), and a field has at most one"
  abbrev pub LeftLinear : List (List (Term C (Full K) A)) → Type 0
  LeftLinear rule = Distinct (concat_map lists rule) × All OneList rule
