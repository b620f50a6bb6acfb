use mathlib.Core.Path.{sym, ◌∙◌}
use Rattle.math_types.specs.Types.{entry}
use Rattle.pair_row.specs.Row.{table_in}
use Rattle.pair_state.proofs.Cases.{join_clash}
use Rattle.pair_state.proofs.Meets.{meet_left, meet_right}
use Rattle.pair_state.proofs.State.join.Goals as goal

pub returns-else-goes_over-2 : goal.returns-else-goes_over-2
returns-else-goes_over-2 c =
    let z = c.args in
    let T = table_in z.row.now in
    let x = c.byte_at-x.result in
    let y = c.byte_at-y.result in
    let j = c.kind_at-j in
    let k = c.kind_at-k in
    let m = c.meet_rank in
    join_clash entry T z.p z.q z.self x y c.byte_at-x.ensures c.byte_at-y.ensures c.if-x-y.false
    (sym (meet_left T x y j.result k.result j.ensures k.ensures m.result m.ensures _ c.in_ok-m.was)
    ∙ sym c.goes_over.ensures ∙ c.if-goes_over.false)
    (sym (meet_right T x y j.result k.result j.ensures k.ensures m.result m.ensures _ c.in_ok-m.was)
    ∙ sym c.goes_over-else-goes_over.ensures ∙ c.if-goes_over-2.false)
