use native.Mathlib.Omega.{arith}
use Rattle.pair_lines.specs.Lines.{names_of}
use Rattle.pair_lines.proofs.Laying.{fields_fit, count_fits}
use Rattle.pair_lines.proofs.Loops.{lays_one}
use Rattle.pair_lines.proofs.lay.Goals as goal

pub lay_field-requires : goal.lay_field-requires
lay_field-requires c =
    let l = c.loop-j in
    let h = c.loop-j-test.true in
    (omega (arith, h, fields_fit c.args.fields c.args.c c.requires), count_fits c.args.fields c.args.c c.requires l.j h, l.invariant.2)

pub loop-j-preserved : goal.loop-j-preserved
loop-j-preserved c =
    let l = c.loop-j in
    let h = c.loop-j-test.true in
    let e = c.lay_field.ensures in
    lays_one c.args.row.now c.args.c c.args.atoms.now l.j l.items (names_of l.names) l.invariant (count_fits c.args.fields c.args.c c.requires l.j h)
    _ _ e.after e.names_after
