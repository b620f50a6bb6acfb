use mathlib.Core.Path.{ap}
use Prim.Native.Nat.{◌-◌}
use borrow.Author.Rules.{rules}
use Rattle.overlap_entries.specs.declared.Span.{Span}
use Rattle.overlap_list.proofs.Spans.{span_is}
use Rattle.overlap_list.proofs.Short.{product_start, product_fits, product_next}
use Rattle.overlap_list.proofs.choices.Goals as goal

pub loop-j-init : goal.loop-j-init
loop-j-init c = product_start c.args.row.now c.args.fields

pub overflow_mul-n : goal.overflow_mul-n
overflow_mul-n c =
    let L = c.loop-j in
    record {
      fits =
          product_fits c.args.row.now c.args.fields L.j L.n c.loop-j-test.true L.invariant
          c.span_of.result.count (search rules) c.requires;
    }

pub loop-j-preserved : goal.loop-j-preserved
loop-j-preserved c =
    let z = c.args in
    let L = c.loop-j in
    let f = c.shape_at-f in
    let g = c.shape_at-g in
    let s = c.span_of in
    product_next z.row.now z.fields L.j L.n c.loop-j-test.true L.invariant s.result.count
    (search rules)
    (ap (λ (x : Span). x.count) (span_is z.row.now (L.j - 1) f.result g.result f.ensures g.ensures s.result s.ensures))
