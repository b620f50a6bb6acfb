use mathlib.Core.Path.{ap}
use mathlib.Core.List.{[], ◌∷◌, ◌++◌}
use Prim.Native.Nat.{◌+◌}
use native.Mathlib.Omega.{arith}
use lib.ListN.{get_or, drop, take}
use Rattle.text_grammar.specs.Plain.{term_text}
use Rattle.text_values.specs.Values.{view_term}
use Rattle.match_fields.proofs.Walks.{absent}
use Rattle.text_write.proofs.pieces.Pieces.{on_next, on_as}
use Rattle.print_matches.proofs.answers.Loops.{left_on_next, rest_on_as, none_left_on, row_text, first_item, next_item, last_item}
use Rattle.print_matches.proofs.answers.put_items.Goals as goal

pub loop-i-preserved : goal.loop-i-preserved
loop-i-preserved c =
    let z = c.args in
    let L = c.loop-i in
    let s = z.f.terms in
    let end = c.min-from.result
    + c.min.result in
    let h = c.loop-i-test.true in
    let t = term_text (view_term (get_or s L.i absent)) in
    let rest = row_text (drop (L.i + 1) (take end s)) in (
      L.invariant.0,
      L.invariant.1,
      left_on_next t rest (left_on_next (58 ∷ []) (t ++ rest)
          (rest_on_as (next_item s end L.i absent h (omega (arith, L.invariant.0, L.invariant.1))) L.invariant.2)
          c.put_bytes-in-loop-i.ensures) c.put_term-in-loop-i.ensures,
    )

pub returns : goal.returns
returns c =
    let z = c.args in
    let L = c.loop-i in
    let n = c.min-n in
    let from = c.min-from in
    let size = c.min in
    let end = from.result + size.result in
    let s = z.f.terms in
    let last = none_left_on (rest_on_as (last_item s end L.i c.loop-i-test.false) L.invariant.2) in
    on_as (on_next c.put_term.ensures last) (first_item z.f z.start z.count n.result from.result end L.invariant.0 n.ensures from.ensures
    (ap (◌+◌ from.result) size.ensures) absent (omega (arith, c.if-end-from.false)))
