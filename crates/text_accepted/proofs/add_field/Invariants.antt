use Rattle.text_values.specs.Values.{view_term}
use Rattle.text_accepted.specs.linearity.Lists.{add_term}
use Rattle.text_accepted.proofs.Folds.{Folded}
use Rattle.text_accepted.proofs.add_field.Given as goal

abbrev pub invariant-loop-t : goal.invariant-loop-t
invariant-loop-t l = Folded view_term add_term l.t-items l.initial.now l.t-index l.now
