use Rattle.std.proofs.Common.{◌≡◌, drop}
use Rattle.match_rules.specs.Tests.{runs_over}
use Rattle.match_rules.proofs.run_field.Given as goal

-- what is left of the terms makes the whole
abbrev pub invariant-loop-i : goal.invariant-loop-i
invariant-loop-i l = runs_over l.j l.count 0 l.terms l.initial.runs ≡ runs_over l.j l.count l.i (drop l.i l.terms) l.runs
