use Rattle.std.proofs.Common.{◌≡◌, ◌+◌, ◌*◌, ◌≤◌, drop}
use Rattle.base_limits.specs.Limits.{most_fields, most_terms}
use Rattle.text_passes.specs.Fields.{field_count}
use Rattle.match_rules.specs.Tests.{no_values, fields_tested, fields_compared, no_runs, runs_all}
use Rattle.match_rules.specs.texts.Texts.{side_fields, slip_fields}
use Rattle.match_rules.proofs.texts.compare_texts.Given as goal

-- what is left of the fields, with so many items compared so far and these runs, is all of them
abbrev pub invariant-loop-j : goal.invariant-loop-j
invariant-loop-j l = record {
  side : l.n ≡ field_count l.rule;
  slip : l.n ≡ field_count l.slip;
  few_fields : l.n ≤ most_fields;
  few_compared : l.compared ≤ most_terms * l.j;
  left_tested : fields_tested (side_fields l.rule) (slip_fields l.slip) no_values
      ≡ fields_tested (drop l.j (side_fields l.rule)) (drop l.j (slip_fields l.slip)) l.v;
  left_compared : fields_compared (side_fields l.rule) (slip_fields l.slip) no_values
      ≡ l.compared + fields_compared (drop l.j (side_fields l.rule)) (drop l.j (slip_fields l.slip)) l.v;
  left_runs : runs_all 0 (side_fields l.rule) (slip_fields l.slip) no_runs
      ≡ runs_all l.j (drop l.j (side_fields l.rule)) (drop l.j (slip_fields l.slip)) l.runs;
}
