use Rattle.std.proofs.Common.{◌≡◌, ◌+◌, ◌*◌, ◌≤◌, drop}
use Rattle.base_limits.specs.Limits.{most_items}
use Rattle.match_fields.specs.Fields.{walked, walk_compared, terms_of, items_of}
use Rattle.match_fields.proofs.walk_field.Given as goal

-- what is left of the walk, with so many items compared so far, is the whole walk
abbrev pub invariant-loop-t : goal.invariant-loop-t
invariant-loop-t l = record {
  few_items : l.p ≤ most_items * l.t-index;
  few_compared : l.compared ≤ l.t-index;
  terms : l.t-items ≡ terms_of l.fn.f;
  left_tested : walked l.gap (items_of l.w) (terms_of l.fn.f) 0 l.fn.v ≡ walked l.gap (items_of l.w) (drop l.t-index l.t-items) l.p l.now;
  left_compared : walk_compared l.gap (items_of l.w) (terms_of l.fn.f) 0 l.fn.v
      ≡ l.compared + walk_compared l.gap (items_of l.w) (drop l.t-index l.t-items) l.p l.now;
}
