use Rattle.book_rules.specs.texts.Keeping.{book_in}
use Rattle.book_rules.proofs.texts.Pairs.{BookLeft}
use Rattle.book_rules.proofs.texts.put_rows.Given as goal

abbrev pub invariant-loop-i : goal.invariant-loop-i
invariant-loop-i l = BookLeft (book_in l.kept l.row) l.kept.n l.initial.page l.i l.page
