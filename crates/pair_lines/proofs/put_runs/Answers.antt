use Rattle.std.proofs.Common.{◌-◌, ◌<◌, arith}
use Rattle.pair_lines.proofs.Laying.{fields_fit, count_fits}
use Rattle.pair_lines.proofs.put_runs.Goals as goal

pub note_run-requires : goal.note_run-requires
note_run-requires c =
    let z = c.args in
    let j = c.loop-j.j - 1 in
    let h : j < z.fields = omega (arith, c.loop-j.invariant.0) in
    (omega (arith, h, fields_fit z.fields z.c c.requires), omega (arith, c.count_in.ensures, count_fits z.fields z.c c.requires j h))
