use mathlib.Core.Path.{sym, ◌∙◌, ap, ap₂}
use mathlib.Core.Bool.{Bool, false, not, ◌&&◌}
use lib.ListN.{get_or}
use Rattle.search_rules.specs.Moves.{fresh_rules}
use Rattle.search_problems.specs.Steps.{none_left}
use Rattle.search_problems.proofs.Problem.gives_by.Goals as goal

pub returns-then-applies : goal.returns-then-applies
returns-then-applies c =
    ap₂ (λ (b d : Bool). b && not d) (sym c.if-applies.true ∙ c.applies.ensures)
    (ap₂ (λ (b d : Bool). b && d) c.brings.ensures c.none_left.ensures)

pub returns-else-applies : goal.returns-else-applies
returns-else-applies c =
    let fresh : Bool = not (get_or fresh_rules c.args.rule false && none_left c.args.self.now) in
    c.if-applies.false ∙ ap (λ (b : Bool). b && fresh) (sym c.if-applies.false ∙ c.applies.ensures)
