use mathlib.Core.Path.{◌≡◌}
use lib.ListN.{length}
use Rattle.base_limits.specs.Limits.{numbers_of_side}
use Rattle.math_types.specs.Order.{list}
use Rattle.match_rules.specs.texts.Texts.{slip_fields}
use Rattle.print_matches.specs.answers.Values.{list_text}
use Rattle.print_matches.proofs.answers.Loops.{From}
use Rattle.print_matches.proofs.answers.put_lists.Given as goal

abbrev pub invariant-loop-n : goal.invariant-loop-n
invariant-loop-n l = (length l.x.runs ≡ numbers_of_side) × From l.rule.has list (list_text (slip_fields l.slip) l.x) l.initial.page l.n l.page
