-- The next field is asked for where a candidate's joins are alive, with the lines behind it; and what is left after a candidate makes the same list.
use Rattle.std.proofs.Common.{◌≡◌, ◌+◌, ◌-◌, ◌≤◌, ◌<◌, ap, ◌∙◌, arith}
use Rattle.overlap_list.specs.Listing.{candidate_of}
use Rattle.overlap_list.proofs.Spans.{join_is}
use Rattle.overlap_list.proofs.Laws.{choosing_first, choosing_alive, choosing_clash}
use Rattle.overlap_list.proofs.+choose_next_field.Goals as goal

pub choose-next_field-u-requires : goal.choose-next_field-u-requires
choose-next_field-u-requires t c =
    let z = c.args in
    let h : z.j < z.fields = c.requires.0 in
    let L = c.loop-k in
    let f = c.shape_at-f in
    let g = c.shape_at-g in
    let d = c.candidate_of-c in
    let r = c.join_fields in
    let s = c.span_of-s.result in
    let p : 1 ≤ L.k = c.loop-k-test.true in
    let one : L.k - 1 + 1 ≡ L.k = omega arith in (
      omega arith,
      (
        omega arith,
        choosing_first z.row.now z.texts.now z.fields z.j z.ch z.st z.t z.out.now s L.k L.u L.out L.invariant
            p d.result r.result (d.ensures ∙ ap (candidate_of s) one)
            (join_is z.row.now z.j f.result g.result f.ensures g.ensures d.result.items z.st r.result r.ensures)
            c.choose_at-chosen.result c.in-Some.next c.in-Some.is c.choose_at-chosen.ensures,
      ),
    )

pub choose-loop-k-preserved-in-Some : goal.choose-loop-k-preserved-in-Some
choose-loop-k-preserved-in-Some t c =
    let z = c.args in
    let L = c.loop-k in
    let s = c.span_of-s.result in
    let f = c.shape_at-f in
    let g = c.shape_at-g in
    let d = c.candidate_of-c in
    let r = c.join_fields in
    let p : 1 ≤ L.k = c.loop-k-test.true in
    let one : L.k - 1 + 1 ≡ L.k = omega arith in
    choosing_alive z.row.now z.texts.now z.fields z.j z.ch z.st z.t z.out.now s L.k L.u L.out L.invariant p
    d.result r.result (d.ensures ∙ ap (candidate_of s) one)
    (join_is z.row.now z.j f.result g.result f.ensures g.ensures d.result.items z.st r.result r.ensures)
    c.choose_at-chosen.result c.in-Some.next c.in-Some.is c.choose_at-chosen.ensures _ _
    c.next_field-u.ensures.stores c.next_field-u.ensures.moderate

pub choose-loop-k-preserved : goal.choose-loop-k-preserved
choose-loop-k-preserved t c =
    let z = c.args in
    let L = c.loop-k in
    let s = c.span_of-s.result in
    let f = c.shape_at-f in
    let g = c.shape_at-g in
    let d = c.candidate_of-c in
    let r = c.join_fields in
    let p : 1 ≤ L.k = c.loop-k-test.true in
    let one : L.k - 1 + 1 ≡ L.k = omega arith in
    choosing_clash z.row.now z.texts.now z.fields z.j z.ch z.st z.t z.out.now s L.k L.u L.out L.invariant p
    d.result r.result (d.ensures ∙ ap (candidate_of s) one)
    (join_is z.row.now z.j f.result g.result f.ensures g.ensures d.result.items z.st r.result r.ensures)
    c.in_default.is
