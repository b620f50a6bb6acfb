use Rattle.std.proofs.Common.{sym, ◌∙◌, take}
use Rattle.apply_rules.specs.filling.Filled.{filled_term, filled_field}
use Rattle.apply_rules.specs.filling.Pushes.{collected}
use Rattle.apply_rules.proofs.filling.Loops.{pushing_one, pushing_none}
use Rattle.apply_rules.proofs.filling.fill_field.Goals as goal

pub loop-t-preserved : goal.loop-t-preserved
loop-t-preserved c =
    let z = c.args in
    let L = c.loop-t in
    pushing_one (filled_term z.x.now z.s.now) (take c.min.result z.f.terms) (collected (filled_field z.x.now z.s.now z.f)) L.t-index L.y _ L.invariant
    c.loop-t-test.true c.push_term.new.w (rw c.in_ok-push_term.was at c.push_term.ensures)

pub returns-in_err-push_term : goal.returns-in_err-push_term
returns-in_err-push_term c =
    let z = c.args in
    let L = c.loop-t in
    c.from_residual.ensures
    ∙ sym (pushing_none (filled_term z.x.now z.s.now) (take c.min.result z.f.terms) (collected (filled_field z.x.now z.s.now z.f)) L.t-index L.y _ L.invariant
    c.loop-t-test.true (rw c.in_err-push_term.was at c.push_term.ensures))
