use mathlib.Core.Path.{sym}
use Rattle.book_rules.specs.texts.Keeping.{book_in}
use Rattle.book_rules.proofs.texts.Keeping.{book_long}
use Rattle.book_rules.proofs.texts.Pairs.{book_start, book_row}
use Rattle.book_rules.proofs.texts.put_rows.Goals as goal

pub loop-i-init : goal.loop-i-init
loop-i-init c =
    let kept = c.args.kept in
    let row = c.args.row.now in
    book_start (book_in kept row) kept.n c.args.page.now (sym (book_long kept row c.requires))

pub loop-i-preserved : goal.loop-i-preserved
loop-i-preserved c =
    let z = c.args in
    let l = c.loop-i in
    book_row (book_in z.kept z.row.now) z.kept.n z.page.now l.i l.page c.loop-i-test.true l.invariant c.put_row.ensures
