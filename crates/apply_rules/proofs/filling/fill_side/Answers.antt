use Rattle.std.proofs.Common.{List, sym, ◌∙◌, ap, map, take}
use Rattle.text_values.specs.Values.{Field}
use Rattle.apply_rules.specs.filling.Filled.{filled_field, filled_as}
use Rattle.apply_rules.proofs.filling.Loops.{standing_one, standing_long, standing_all}
use Rattle.apply_rules.proofs.filling.fill_side.Goals as goal

pub returns-in_err-out : goal.returns-in_err-out
returns-in_err-out c =
    let z = c.args in
    let L = c.loop-i in
    let g = filled_field z.x.now z.s.now in
    c.from_residual.ensures
    ∙ standing_long g (take c.min.result z.side.fields) L.i L.out _ L.invariant.standing c.loop-i-test.true (sym c.fill_field.ensures ∙ c.in_err-out.was)
    ∙ ap (λ (l : List Field). filled_as (map g l)) L.invariant.fields

pub loop-i-preserved : goal.loop-i-preserved
loop-i-preserved c =
    let z = c.args in
    let L = c.loop-i in
    record {
      fields = L.invariant.fields;
      standing = standing_one (filled_field z.x.now z.s.now) (take c.min.result z.side.fields) L.i L.out _ L.invariant.standing c.loop-i-test.true
          c.in_ok-out.field-0 (sym c.fill_field.ensures ∙ c.in_ok-out.was);
    }

pub returns : goal.returns
returns c =
    let z = c.args in
    let L = c.loop-i in
    let g = filled_field z.x.now z.s.now in
    standing_all g (take c.min.result z.side.fields) L.i L.out L.invariant.standing c.loop-i-test.false
    ∙ ap (λ (l : List Field). filled_as (map g l)) L.invariant.fields
