use mathlib.Core.Path.{sym, ◌∙◌}
use Rattle.pair_table.proofs.Loops.{member_other}
use Rattle.pair_table.proofs.Tables.code_of.Goals as goal

pub loop-k-preserved : goal.loop-k-preserved
loop-k-preserved c =
    let a = c.args in
    let L = c.loop-k in
    let s = sym c.same_constant.ensures ∙ c.if-same_constant.false in
    L.invariant ∙ member_other a.self.now.row.now a.self.now.texts.now a.p c.byte_at-n.result L.k c.byte_at-q.result c.loop-k-test.true c.byte_at-q.ensures s
