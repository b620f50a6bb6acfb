use Rattle.text_accepted.specs.slips.Slips.{counted_slip}
use Rattle.book_rules.specs.Books.{counted_book}
use Rattle.book_rules.proofs.Picks.{counted_at, passed_found, passed_next}
use Rattle.book_rules.proofs.pick.Goals as goal

pub returns-then-m : goal.returns-then-m
returns-then-m c =
    let z = c.args in
    let l = c.loop-i in
    let h = c.loop-i-test.true in
    let M = c.match_rule-m in
    passed_found (counted_book z.book) (counted_slip z.slip) z.book.n l.i h l.invariant.3 _
    (counted_at z.book l.invariant.1 l.invariant.2 l.i _ h) M.result M.ensures c.if-m.true

pub loop-i-preserved : goal.loop-i-preserved
loop-i-preserved c =
    let z = c.args in
    let l = c.loop-i in
    let h = c.loop-i-test.true in
    let M = c.match_rule-m in (
      l.invariant.0,
      l.invariant.1,
      l.invariant.2,
      passed_next (counted_book z.book) (counted_slip z.slip) z.book.n l.i h l.invariant.3 _
          (counted_at z.book l.invariant.1 l.invariant.2 l.i _ h) M.result M.ensures c.if-m.false,
    )
