-- The failure rules on codes, as code makes them: of the heads a and b of the two sides, and of their codes ls and ms.
-- `fails_agrees` of proofs/Agree says that on the values of the search's fields they are the failure rules of document 001.
use Rattle.std.specs.Prelude.{Bool, false, cond, ◌&&◌, ◌||◌, not, List, ℕ, eqb}
use Rattle.math_types.specs.Types.{entry}
use Rattle.math_codes.specs.Tables.{Table}
use Rattle.search_items.specs.declared.Items.{Items}
use Rattle.search_items.specs.Items.{items_of}
use Rattle.search_items.specs.Substitution.{same_codes, occurs_in}
use Rattle.search_rules.specs.declared.Head.{Head}
use Rattle.search_rules.specs.Heads.{head_of}

abbrev pub occur : Head → List ℕ → List ℕ → Bool
occur a ls ms = cond (a.list && not a.longer) (occurs_in a.first ms && not (same_codes ms ls)) false

abbrev pub clash1 : Head → Head → Bool
clash1 a b = a.some && not a.variable && b.some && not b.variable && not (eqb a.first b.first)

abbrev pub clash2 : Head → Head → Bool
clash2 a b = a.some && not a.list && not b.some

abbrev pub clash3 : Head → Head → Bool
clash3 a b = not a.some && b.some && not b.list

abbrev pub clash4 : Head → Head → Bool
clash4 a b = a.variable && not a.longer && not (entry a.kind b.whole) && not (entry b.whole a.kind)

abbrev pub fails_by : Head → Head → List ℕ → List ℕ → Bool
fails_by a b ls ms = occur a ls ms || (clash1 a b || (clash2 a b || (clash3 a b || clash4 a b)))

module _ (T : Table) where
  abbrev pub fails_of : List ℕ → List ℕ → Bool
  fails_of ls ms = fails_by (head_of T ls) (head_of T ms) ls ms

  abbrev pub fails_value : Items → Items → Bool
  fails_value l m = fails_of (items_of l) (items_of m)
