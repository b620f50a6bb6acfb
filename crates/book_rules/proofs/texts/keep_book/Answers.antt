use Rattle.book_rules.proofs.texts.Books.{holds_more}
use Rattle.book_rules.proofs.texts.keep_book.Goals as goal

pub loop-i-preserved : goal.loop-i-preserved
loop-i-preserved c =
    let z = c.args in
    let l = c.loop-i in
    let k = c.keep_rule-kept in
    holds_more z.book l.kept l.row l.i l.invariant c.loop-i-test.true _ k.result _ k.ensures
