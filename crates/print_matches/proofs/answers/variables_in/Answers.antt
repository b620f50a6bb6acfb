use mathlib.Core.Bool.{false}
use Prim.Native.Nat.{◌<◌, ◌≤◌}
use native.Mathlib.Omega.{arith}
use lib.ListN.{replicate}
use Rattle.base_limits.specs.Limits.{variable_places}
use Rattle.text_passes.specs.Fields.{field_count}
use Rattle.match_rules.specs.texts.Texts.{side_fields}
use Rattle.print_matches.proofs.answers.Noted.{open_next, open_none, is_in, side_noted_lem, side_here, side_end}
use Rattle.print_matches.proofs.answers.variables_in.Goals as goal

pub loop-j-preserved : goal.loop-j-preserved
loop-j-preserved c =
    let t = c.args.rule.now in
    let L = c.loop-j in
    let F = c.field_in in
    let h : L.j < field_count t = omega (arith, c.field_count-j-end.ensures, c.loop-j-test.true) in
    open_next is_in (replicate variable_places false) (side_fields t) F.result _ _ L.v.has c.note_field-v.result.has
    (side_here t L.j F.result F.ensures h) L.invariant c.note_field-v.ensures

pub returns : goal.returns
returns c =
    let t = c.args.rule.now in
    let L = c.loop-j in
    let h : field_count t ≤ L.j = omega (arith, c.field_count-j-end.ensures, c.loop-j-test.false) in
    side_noted_lem L.v.has (side_fields t) (open_none is_in (replicate variable_places false) (side_fields t) _ L.v.has (side_end t L.j h) L.invariant)
