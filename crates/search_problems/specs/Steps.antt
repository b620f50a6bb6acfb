-- A step of the search on records, as code makes it. `fails_holds` and `child_holds` of proofs/Agree say that it is the search's.
use Rattle.std.specs.Prelude.{Bool, false, not, cond, ◌&&◌, ℕ, Option, Some, None, leb, get_or}
use Rattle.std.specs.Option.{unwrap_or}
use Rattle.math_search.specs.worklist.Next.{next_ok}
use Rattle.search_problems.specs.variables.Sets.{digits, fresh_value, list_variables}
use Rattle.math_codes.specs.Tables.{Table}
use Rattle.search_items.specs.Items.{items_of}
use Rattle.search_rules.specs.declared.Head.{Head}
use Rattle.search_rules.specs.declared.Move.{Move}
use Rattle.search_rules.specs.Heads.{head_of}
use Rattle.search_rules.specs.Moves.{fresh_rules, applies_by, move_value}
use Rattle.search_rules.specs.Fails.{fails_value}
use Rattle.search_problems.specs.declared.Problem.{Problem}
use Rattle.search_problems.specs.Values.{blank_problem}
use Rattle.search_problems.specs.Applied.{applied_value}

-- "ones count variables of a problem": the record has all the list variables that a set can have, and no fresh one is left
abbrev pub none_left : Problem → Bool
none_left p = leb digits (list_variables p.used)

-- a move gives a child: where it needs a fresh list variable one is left. One always is (`fresh_left` of
-- proofs/Moved)
abbrev pub makes : Problem → Move → Bool
makes p m = not (m.fresh && none_left p)

abbrev pub child_by : Problem → Option Move → ℕ → Option Problem
child_by p None f = None
child_by p (Some m) f = cond (makes p m) (Some (applied_value p m f)) None

-- the rule of a number gives a child, by the heads a and b of the sides: told before the move is made
abbrev pub gives_by : Problem → Head → Head → ℕ → Bool
gives_by p a b r = applies_by a b (items_of p.left) (items_of p.right) r && not (get_or fresh_rules r false && none_left p)

module _ (T : Table) where
  -- "Failure rules come first: a problem that meets one gives no child."
  abbrev pub fails_of : Problem → Bool
  fails_of p = fails_value T p.left p.right

  -- "each rule that applies gives one child": by the rule of a number, with the fresh list variable f
  abbrev pub child_with : Problem → ℕ → ℕ → Option Problem
  child_with p r f = child_by p (move_value T r p.left p.right f) f

  abbrev pub child_of : Problem → ℕ → Option Problem
  child_of p r = child_with p r (fresh_value p.used)

  -- its record; the blank record where there is none
  abbrev pub child_record : Problem → ℕ → Problem
  child_record p r = unwrap_or (child_of p r) blank_problem

  -- the rule of a number gives a child; `gives_is` of proofs/Agree: it is `is_some (child_of p r)`
  abbrev pub gives : Problem → ℕ → Bool
  gives p r = gives_by p (head_of T (items_of p.left)) (head_of T (items_of p.right)) r

  -- the first rule from k on that gives a child
  abbrev pub next_rule : Problem → ℕ → ℕ
  next_rule p k = next_ok (gives p) k
