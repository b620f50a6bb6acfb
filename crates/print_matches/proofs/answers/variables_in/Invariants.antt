use lib.ListN.{drop}
use Rattle.match_rules.specs.texts.Texts.{side_fields}
use Rattle.print_matches.proofs.answers.Noted.{Open, is_in}
use Rattle.print_matches.proofs.answers.variables_in.Given as goal

abbrev pub invariant-loop-j : goal.invariant-loop-j
invariant-loop-j l = Open is_in l.initial.v.has (side_fields l.rule) (drop l.j (side_fields l.rule)) l.v.has
