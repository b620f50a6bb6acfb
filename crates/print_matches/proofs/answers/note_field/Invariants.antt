use Rattle.std.proofs.Common.{drop}
use Rattle.print_matches.proofs.answers.Noted.{Open, is_term}
use Rattle.print_matches.proofs.answers.note_field.Given as goal

abbrev pub invariant-loop-t : goal.invariant-loop-t
invariant-loop-t l = Open is_term l.initial.w.has l.t-items (drop l.t-index l.t-items) l.w.has
