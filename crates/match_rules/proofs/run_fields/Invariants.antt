use Rattle.std.proofs.Common.{◌≡◌, length, drop}
use Rattle.match_rules.specs.Tests.{runs_all}
use Rattle.match_rules.proofs.run_fields.Given as goal

-- what is left of the fields makes the whole
abbrev pub invariant-loop-j : goal.invariant-loop-j
invariant-loop-j l = runs_all 0 l.fs l.ws l.initial.runs ≡ runs_all (length l.yielded) (drop (length l.yielded) l.fs) (drop (length l.yielded) l.ws) l.runs
