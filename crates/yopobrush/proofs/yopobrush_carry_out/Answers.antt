use borrow.Author.Rules.{rules}
use Rattle.yopobrush.proofs.Carries.{texts_carried}
use Rattle.yopobrush.proofs.yopobrush_carry_out.Goals as goal

pub returns : goal.returns
returns c =
    let C = c.carry_out-c in
    let S = c.read_slip-s in
    let R = c.read_rule-r in
    let z = c.args in
    let A = c.reading_of in
    let B = c.reading_of-2 in
    let N = c.number_of in
    texts_carried z.rule.now z.slip.now R.result S.result C.result R.ensures S.ensures C.ensures z.out.now A.result
    B.result N.result _ c.write_slip-written.ensures A.ensures B.ensures N.ensures c.carrying_of.ensures
