use Rattle.book_rules.specs.texts.Keeping.{book_in}
use Rattle.book_rules.proofs.texts.Pairs.{RowLeft}
use Rattle.book_rules.proofs.texts.put_row.Given as goal

abbrev pub invariant-loop-j : goal.invariant-loop-j
invariant-loop-j l = RowLeft (book_in l.kept l.row) l.kept.n l.i l.initial.page l.j l.page
