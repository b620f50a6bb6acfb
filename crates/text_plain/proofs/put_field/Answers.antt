use Rattle.std.proofs.Common.{rules, ◌≡◌, ◌∷◌}
use mathlib.Core.Path.{refl, ap}
use lib.ListN.{take}
use Rattle.text_write.proofs.Rows.{terms}
use Rattle.text_write.proofs.pieces.Pieces.{on_as}
use Rattle.text_plain.proofs.Rows.{on_row_next, on_row_whole}
use Rattle.text_plain.proofs.put_field.Goals as goal

pub loop-t-preserved : goal.loop-t-preserved
loop-t-preserved g c =
    let L = c.loop-t in
    on_row_next terms c.in-Some.others.now _ L.t-index L.page L.invariant _ _ refl c.loop-t-test.true
    c.put_bytes-in-loop-t.ensures c.put_term-in-loop-t.ensures

pub returns : goal.returns
returns g c =
    let z = c.args in
    let L = c.loop-t in
    let x = c.in-Some.first.now in
    let xs = c.in-Some.others.now in
    let is : take z.f.now.n z.f.now.terms ≡ x ∷ xs = search rules in
    on_as (on_row_whole terms xs _ L.t-index L.page L.invariant c.loop-t-test.false x c.put_term.ensures) (ap terms.whole is)
