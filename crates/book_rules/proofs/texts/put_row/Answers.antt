use mathlib.Core.Path.{sym, ◌∙◌}
use Prim.Native.Nat.{◌+◌}
use Rattle.book_rules.specs.texts.Keeping.{book_in}
use Rattle.book_rules.proofs.texts.Keeping.{book_long}
use Rattle.book_rules.proofs.texts.Pairs.{row_start, row_pair, row_none, row_as}
use Rattle.book_rules.proofs.texts.put_row.Goals as goal
use Rattle.book_rules.proofs.texts.put_row.Goals.{else-overlap, then-overlap}

pub loop-j-init : goal.loop-j-init
loop-j-init c =
    let kept = c.args.kept in
    let row = c.args.row.now in
    row_start (book_in kept row) kept.n c.args.i c.args.page.now (sym (book_long kept row c.requires.0))

pub loop-j-preserved : goal.loop-j-preserved
loop-j-preserved c =
    let z = c.args in
    let l = c.loop-j in
    let h = c.loop-j-test.true in
    let o = c.overlap in
    let book = book_in z.kept z.row.now in
    (elim c.if-overlap.branch [
      | then-overlap w ↦ row_as book z.kept.n z.i z.page.now (l.j + 1) _ _ w.page-is
          (row_pair book z.kept.n z.i z.page.now l.j l.page h (sym o.ensures ∙ w.if-overlap.true) l.invariant w.put_pair.ensures)
      | else-overlap w ↦ row_as book z.kept.n z.i z.page.now (l.j + 1) _ _ w.page-is
          (row_none book z.kept.n z.i z.page.now l.j l.page h (sym o.ensures ∙ w.if-overlap.false) l.invariant)
    ])
