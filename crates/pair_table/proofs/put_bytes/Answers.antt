use mathlib.Core.Path.{sym, ◌∙◌}
use Prim.Native.Nat.{◌+◌, ◌*◌}
use Rattle.pair_row.specs.Row.{cell_bytes}
use Rattle.pair_table.proofs.Loops.{put_one}
use Rattle.pair_table.proofs.put_bytes.Goals as goal

pub loop-i-preserved : goal.loop-i-preserved
loop-i-preserved c =
    let a = c.args in
    let L = c.loop-i in
    rw (c.put_at.ensures, c.byte_at.ensures) (sym (put_one a.text.now L.texts a.from (cell_bytes * a.p + a.k) L.i a.n c.loop-i-test.true) ∙ L.invariant)
