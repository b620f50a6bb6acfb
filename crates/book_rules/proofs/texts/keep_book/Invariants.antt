use Rattle.book_rules.proofs.texts.Books.{Holds}
use Rattle.book_rules.proofs.texts.keep_book.Given as goal

abbrev pub invariant-loop-i : goal.invariant-loop-i
invariant-loop-i l = Holds l.book l.kept l.row l.i
