use mathlib.Core.Path.{sym, ◌∙◌}
use native.Mathlib.Omega.{arith}
use Rattle.math_search.specs.worklist.Next.{next_end, next_here, next_on}
use Rattle.search_problems.specs.Steps.{gives_by}
use Rattle.search_problems.proofs.Problem.next_rule.Goals as goal

pub returns-then-gives_by : goal.returns-then-gives_by
returns-then-gives_by c =
    let L = c.loop-i in
    sym (next_here (gives_by c.args.self.now c.head_of-a.result c.head_of-b.result) L.i c.loop-i-test.true
    (sym c.gives_by.ensures ∙ c.if-gives_by.true)) ∙ L.invariant.2

pub loop-i-preserved : goal.loop-i-preserved
loop-i-preserved c =
    let L = c.loop-i in
    let on = next_on (gives_by c.args.self.now c.head_of-a.result c.head_of-b.result) L.i c.loop-i-test.true in
    (L.invariant.0, L.invariant.1, sym (on (sym c.gives_by.ensures ∙ c.if-gives_by.false)) ∙ L.invariant.2)

pub returns : goal.returns
returns c =
    let L = c.loop-i in
    sym (next_end (gives_by c.args.self.now c.head_of-a.result c.head_of-b.result) L.i (omega (arith, c.loop-i-test.false))) ∙ L.invariant.2
