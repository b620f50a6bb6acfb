-- The values of the search's moves over the pair's table, and the rules' numbers.
use Rattle.std.specs.Prelude as std
use Rattle.std.specs.Prelude.{Some, Bool, true, false, List, [], ◌∷◌, ℕ}
use Rattle.std.proofs.Math.Option.{Option, none, some}
use Rattle.math_search.specs.Problems.{solved, equation}
use Rattle.math_search.specs.Rules.{Rule, keep, bind}
use Rattle.math_search.specs.Rules.{Remove, Decomp1, Decomp1', Decomp2, Decomp2', Decomp3, Decomp4}
use Rattle.math_search.specs.Rules.{Subst1, Subst2, Subst3, Orient1, Orient2, Orient3, Orient4}
use Rattle.math_search.specs.Rules as rules
use Rattle.math_codes.specs.Lines.{OurAtom}
use Rattle.search_spec.specs.Answers.{setting}
use Rattle.search_items.specs.codes.Codes.{code_tm}
use Rattle.search_items.specs.Values.{items_value}
use Rattle.search_rules.specs.declared.Move.{Move}
use Rattle.search_rules.specs.Moves.{no_move, solved_move, solved_by, kept, bound}

-- "in this order: Remove, Decomp1, Decomp1', Decomp2, Decomp2', Decomp3, Decomp4, Subst1, Subst2, Subst3, Orient1 to Orient4"
abbrev pub number : Rule → ℕ
number Remove = 0
number Decomp1 = 1
number Decomp1' = 2
number Decomp2 = 3
number Decomp2' = 4
number Decomp3 = 5
number Decomp4 = 6
number Subst1 = 7
number Subst2 = 8
number Subst3 = 9
number Orient1 = 10
number Orient2 = 11
number Orient3 = 12
number Orient4 = 13

-- a rule brings in the fresh list variable or none
abbrev pub brings_in : List ℕ → Bool
brings_in [] = false
brings_in (n ∷ u) = true

-- THE VALUE of what a rule makes of an equation. No rule that solves a problem brings in a list variable.
abbrev pub made_move : List (Option OurAtom) → rules.Move setting → Move
made_move t (keep solved) = solved_move
made_move t (keep (equation L M)) = kept (items_value t L) (items_value t M)
made_move t (bind x s u solved) = solved_by (code_tm t x) (items_value t s)
made_move t (bind x s u (equation L M)) = bound (brings_in u) (code_tm t x) (items_value t s) (items_value t L) (items_value t M)

-- where it applies
abbrev pub move_code : List (Option OurAtom) → Option (rules.Move setting) → std.Option Move
move_code t none = no_move
move_code t (some m) = Some (made_move t m)
