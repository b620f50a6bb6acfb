-- A turn of the loop is one turn of the machine.
use Rattle.std.proofs.Common.{◌≡◌, sym, ◌∙◌, ap, subst, ℕ, ◌<◌, false}
use Rattle.search_steps.specs.Machine.{Config, conf, after, after_idle}
use Rattle.search_row.proofs.Left.{left, turn}
use Rattle.search_row.proofs.run.Goals as goal

-- from d on, n turns end where they end from c
idle : (n : ℕ) (c d : Config) → after n d ≡ after n c → (after n c).state.busy ≡ false → (after n d).state.busy ≡ false
idle n c d e h = ap (λ (y : Config). y.state.busy) e ∙ h

pub loop-s-smaller : goal.loop-s-smaller
loop-s-smaller g c =
    let d : Config = conf c.loop-s.s c.loop-s.row c.loop-s.out in
    subst (λ (y : Config). left g.turns y < left g.turns d) (sym c.step.ensures)
    (turn g.turns d (idle g.turns _ d c.loop-s.invariant c.requires) c.loop-s-test.true).1

pub loop-s-preserved : goal.loop-s-preserved
loop-s-preserved g c =
    let d : Config = conf c.loop-s.s c.loop-s.row c.loop-s.out in
    ap (after g.turns) c.step.ensures ∙ (turn g.turns d (idle g.turns _ d c.loop-s.invariant c.requires) c.loop-s-test.true).0 ∙ c.loop-s.invariant

pub returns : goal.returns
returns g c = (g.turns, sym c.loop-s.invariant ∙ after_idle g.turns (conf c.loop-s.s c.loop-s.row c.loop-s.out) c.loop-s-test.false, c.loop-s-test.false)
