use Rattle.std.proofs.Common.{rules, ◌≡◌, ◌∷◌}
use mathlib.Core.Path.{ap}
use lib.ListN.{take}
use Rattle.text_write.proofs.pieces.Pieces.{on_as}
use Rattle.text_plain.proofs.Rows.{fields, on_row_next, on_row_whole}
use Rattle.text_plain.proofs.put_fields.Goals as goal

pub loop-f-preserved : goal.loop-f-preserved
loop-f-preserved g c =
    let L = c.loop-f in
    on_row_next fields c.in-Some.others.now _ L.f-index L.page L.invariant _ _ c.f-item.is c.loop-f-test.true
    c.put_bytes.ensures c.put_field-in-loop-f.ensures

pub returns : goal.returns
returns g c =
    let z = c.args in
    let L = c.loop-f in
    let x = c.in-Some.first.now in
    let xs = c.in-Some.others.now in
    let is : take z.r.now.n z.r.now.fields ≡ x ∷ xs = search rules in
    on_as (on_row_whole fields xs _ L.f-index L.page L.invariant c.loop-f-test.false x c.put_field.ensures) (ap fields.whole is)
