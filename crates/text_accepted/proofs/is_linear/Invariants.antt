use Rattle.text_values.specs.Values.{view_field}
use Rattle.text_accepted.specs.linearity.Lists.{add_field}
use Rattle.text_accepted.proofs.Folds.{Folded}
use Rattle.text_accepted.proofs.is_linear.Given as goal

abbrev pub invariant-loop-f : goal.invariant-loop-f
invariant-loop-f l = Folded view_field add_field l.f-items l.initial.l l.f-index l.l
