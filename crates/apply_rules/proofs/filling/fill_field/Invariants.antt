use Rattle.std.proofs.Common.{◌≡◌, drop}
use Rattle.math_terms.specs.Seqs.{concat_map}
use Rattle.apply_rules.specs.filling.Filled.{filled_term, filled_field}
use Rattle.apply_rules.specs.filling.Pushes.{pushed_all, collected}
use Rattle.apply_rules.proofs.filling.fill_field.Given as goal

-- what is left of the terms makes the whole
abbrev pub invariant-loop-t : goal.invariant-loop-t
invariant-loop-t l = collected (filled_field l.x l.s l.fn.f) ≡ pushed_all l.y (concat_map (filled_term l.x l.s) (drop l.t-index l.t-items))
