use mathlib.Core.Path.{◌≡◌}
use Prim.Native.Nat.{◌≤◌}
use lib.ListN.{length}
use Rattle.base_limits.specs.Limits.{most_rules}
use Rattle.text_accepted.specs.slips.Slips.{counted_slip}
use Rattle.book_rules.specs.Books.{counted_book}
use Rattle.book_rules.proofs.Picks.{Passed}
use Rattle.book_rules.proofs.pick.Given as goal

abbrev pub invariant-loop-i : goal.invariant-loop-i
invariant-loop-i l = (l.n ≡ l.book.n) × (l.n ≤ most_rules) × (length l.book.rules ≡ most_rules) × Passed (counted_book l.book) (counted_slip l.slip) l.n l.i
