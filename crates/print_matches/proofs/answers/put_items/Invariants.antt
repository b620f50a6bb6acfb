use mathlib.Core.Path.{◌≡◌}
use Prim.Native.Nat.{◌+◌, ◌≤◌}
use lib.ListN.{length, drop, take}
use Rattle.base_limits.specs.Limits.{most_items}
use Rattle.print_matches.proofs.answers.Loops.{LeftOn, row_text}
use Rattle.print_matches.proofs.answers.put_items.Given as goal

abbrev pub invariant-loop-i : goal.invariant-loop-i
invariant-loop-i l =
    (length l.f.terms ≡ most_items) × (l.end ≤ most_items)
    × LeftOn (row_text (drop (l.from + 1) (take l.end l.f.terms))) l.initial.page (row_text (drop l.i (take l.end l.f.terms))) l.page
