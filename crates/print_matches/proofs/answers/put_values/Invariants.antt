use Rattle.match_rules.specs.texts.Texts.{slip_fields}
use Rattle.print_matches.proofs.answers.Loops.{KindsFrom}
use Rattle.print_matches.proofs.answers.put_values.Given as goal

abbrev pub invariant-loop-i : goal.invariant-loop-i
invariant-loop-i l = KindsFrom l.r.has (slip_fields l.slip) l.x l.initial.page l.i l.page
