use Rattle.std.proofs.Common.{◌≡◌, take}
use Rattle.apply_rules.specs.filling.Filled.{filled_field}
use Rattle.apply_rules.proofs.filling.Loops.{Standing}
use Rattle.apply_rules.proofs.filling.fill_side.Given as goal

abbrev pub invariant-loop-i : goal.invariant-loop-i
invariant-loop-i l = record {
  fields : l.fields ≡ take l.fn.side.n l.fn.side.fields;
  standing : Standing (filled_field l.x l.s) l.fields l.i l.out;
}
