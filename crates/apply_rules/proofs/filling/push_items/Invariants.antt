use Rattle.std.proofs.Common.{◌≡◌, drop}
use Rattle.apply_rules.specs.filling.Filled.{some_items}
use Rattle.apply_rules.specs.filling.Pushes.{pushed_all}
use Rattle.apply_rules.proofs.filling.push_items.Given as goal

-- what is left of the items makes the whole
abbrev pub invariant-loop-t : goal.invariant-loop-t
invariant-loop-t l = record {
  items : l.t-items ≡ some_items l.fn.f l.start l.count;
  left : pushed_all l.initial.w l.t-items ≡ pushed_all l.w (drop l.t-index l.t-items);
}
