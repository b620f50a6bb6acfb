use mathlib.Core.Path.{sym, subst}
use mathlib.Core.List.{foldl}
use Prim.Native.Nat.{◌-◌}
use Rattle.search_items.specs.Items.{pushed}
use Rattle.search_problems.specs.Roots.{codes_at}
use Rattle.search_problems.proofs.Runs.{Pushing, pushing_one}
use Rattle.search_problems.proofs.push_codes.Goals as goal

pub loop-i-preserved : goal.loop-i-preserved
loop-i-preserved c =
    let L = c.loop-i in
    let z = c.args in
    let row = z.row.now in
    let whole = foldl pushed z.y.now (codes_at row z.b (z.e - z.b)) in
    let b = c.byte_at in
    subst (Pushing row whole z.e _) (sym c.push.ensures) (pushing_one row whole z.e L.i L.y b.result L.invariant c.loop-i-test.true b.ensures)
