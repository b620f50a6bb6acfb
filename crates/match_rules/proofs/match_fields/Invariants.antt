use Rattle.std.proofs.Common.{◌≡◌, ◌+◌, ◌*◌, ◌≤◌, length, drop}
use Rattle.base_limits.specs.Limits.{most_terms}
use Rattle.match_rules.specs.Tests.{fields_tested, fields_compared, no_values}
use Rattle.match_rules.proofs.match_fields.Given as goal

-- what is left of the fields, with so many items compared so far, is all of them
abbrev pub invariant-loop-f : goal.invariant-loop-f
invariant-loop-f l = record {
  can_next : (goal.iterator-loop-f).can_next l.f-iterator;
  is_finite : (goal.iterator-loop-f).is_finite l.f-iterator;
  few : l.compared ≤ most_terms * length l.yielded;
  left_tested : fields_tested l.fs l.ws no_values ≡ fields_tested (drop (length l.yielded) l.fs) (drop (length l.yielded) l.ws) l.v;
  left_compared : fields_compared l.fs l.ws no_values
      ≡ l.compared + fields_compared (drop (length l.yielded) l.fs) (drop (length l.yielded) l.ws) l.v;
}
