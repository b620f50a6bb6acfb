use Rattle.std.proofs.Common.{ℕ, length, ap, ◌∙◌}
use Rattle.search_steps.specs.turns.Turns.{Turn, decided}
use Rattle.search_steps.specs.Machine.{line_of}
use Rattle.search_steps.proofs.Steps.{turn_is}
use Rattle.search_steps.proofs.advance.Goals as goal

pub returns-clause-state : goal.returns-clause-state
returns-clause-state c =
    let s = c.args.s.now in
    let p = c.args.p.now in
    c.decide.ensures.state ∙ ap (λ (n : ℕ). (decided s p n).state) c.note-n.ensures.0
    ∙ ap (λ (t : Turn). t.state) (turn_is s p (length (line_of s p)))
