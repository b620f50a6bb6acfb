use mathlib.Core.Path.{◌≡◌}
use Rattle.math_search.specs.worklist.Next.{next_ok}
use Rattle.pair_row.specs.Row.{table_in}
use Rattle.search_items.specs.Items.{items_of}
use Rattle.search_rules.specs.Heads.{head_of}
use Rattle.search_problems.specs.Steps.{gives_by, next_rule}
use Rattle.search_problems.proofs.Problem.next_rule.Given as goal

-- none of the rules from k up to i
abbrev pub invariant-loop-i : goal.invariant-loop-i
invariant-loop-i l =
    (l.a ≡ head_of (table_in l.row) (items_of l.self.left)) × (l.b ≡ head_of (table_in l.row) (items_of l.self.right))
    × (next_ok (gives_by l.self l.a l.b) l.i ≡ next_rule (table_in l.row) l.self l.k)
