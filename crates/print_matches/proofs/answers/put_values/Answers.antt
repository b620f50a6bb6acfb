use mathlib.Core.List.{map}
use Prim.Native.Nat.{ℕ}
use native.Mathlib.Omega.{arith}
use Rattle.math_types.specs.Types.{Kind, kinds}
use Rattle.text_values.specs.Values.{view_field}
use Rattle.overlap_spec.specs.Variables.{occurs}
use Rattle.match_rules.specs.texts.Texts.{side_fields, slip_fields}
use Rattle.text_write.proofs.pieces.Pieces.{on_as}
use Rattle.print_matches.specs.answers.Values.{said_value, said_kind}
use Rattle.print_matches.proofs.answers.Values.{same_kinds, noted_said}
use Rattle.print_matches.proofs.answers.Loops.{kind_text, kinds_next, kinds_all}
use Rattle.print_matches.proofs.answers.put_values.Goals as goal

pub loop-i-preserved : goal.loop-i-preserved
loop-i-preserved c =
    let L = c.loop-i in
    let z = c.args in
    kinds_next c.variables_in-r.result.has (slip_fields z.slip.now) z.x _
    L.i L.page L.invariant (omega (arith, c.loop-i-test.true, c.rank-i-end.ensures))
    _ c.kind_at.ensures c.put_atoms.ensures

pub returns : goal.returns
returns c =
    let L = c.loop-i in
    let N = c.variables_in-r in
    let z = c.args in
    let t = side_fields z.rule.now in
    let u = slip_fields z.slip.now in
    let v = N.result.has in
    on_as
    (kinds_all v u z.x _ L.i L.page L.invariant (omega (arith, c.loop-i-test.false, c.rank-i-end.ensures)) c.put_lists.ensures)
    (same_kinds (said_kind t u z.x) (kind_text v u z.x)
    (λ k. noted_said v (λ (k : Kind) (n : ℕ). occurs k n (map view_field t)) N.ensures k (λ n. said_value k n u z.x)) kinds)
