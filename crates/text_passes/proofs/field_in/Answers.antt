use Rattle.std.proofs.Common.{◌∙◌, sym}
use Rattle.text_passes.proofs.Picking.{picked_past}
use Rattle.text_passes.proofs.field_in.Goals as goal

pub returns-after-loop-read : goal.returns-after-loop-read
returns-after-loop-read g c =
    let r = c.loop-read.read in sym (picked_past c.args.j r.text.now r.at c.loop-read.f c.loop-read-test.false) ∙ c.loop-read.invariant.1
