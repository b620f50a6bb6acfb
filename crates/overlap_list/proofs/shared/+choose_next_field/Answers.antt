-- What is left makes the answer, at first and after each candidate that leads to no choice.
use Rattle.std.proofs.Common.{◌≡◌, ◌+◌, ◌-◌, ◌≤◌, true, false, sym, ap, ◌∙◌, arith}
use Rattle.overlap_list.specs.Listing.{candidate_of}
use Rattle.overlap_list.proofs.Spans.{span_is, join_is}
use Rattle.overlap_list.proofs.shared.Choices.{seeking_start, seeking_clash, seeking_alive}
use Rattle.overlap_list.proofs.shared.+choose_next_field.Goals as goal

pub choose-loop-k-init : goal.choose-loop-k-init
choose-loop-k-init t c =
    let z = c.args in
    let f = c.shape_at-f in
    let g = c.shape_at-g in
    let s = c.span_of-s in
    seeking_start z.row.now z.fields z.j z.st s.result
    (span_is z.row.now z.j f.result g.result f.ensures g.ensures s.result s.ensures) c.requires

pub choose-returns-then-next_field : goal.choose-returns-then-next_field
choose-returns-then-next_field t c =
    let z = c.args in
    let L = c.loop-k in
    let s = c.span_of-s.result in
    let f = c.shape_at-f in
    let g = c.shape_at-g in
    let d = c.candidate_of-c in
    let r = c.join_fields in
    let p : 1 ≤ L.k = c.loop-k-test.true in
    let one : L.k - 1 + 1 ≡ L.k = omega arith in
    let found =
    seeking_alive z.row.now z.fields z.j z.st s L.k L.invariant p d.result r.result (d.ensures ∙ ap (candidate_of s) one)
    (join_is z.row.now z.j f.result g.result f.ensures g.ensures d.result.items z.st r.result r.ensures)
    true c.in-Some.next c.in-Some.is (sym c.if-next_field.true ∙ c.next_field.ensures) in
    found.makes

pub choose-loop-k-preserved-else-next_field : goal.choose-loop-k-preserved-else-next_field
choose-loop-k-preserved-else-next_field t c =
    let z = c.args in
    let L = c.loop-k in
    let s = c.span_of-s.result in
    let f = c.shape_at-f in
    let g = c.shape_at-g in
    let d = c.candidate_of-c in
    let r = c.join_fields in
    let p : 1 ≤ L.k = c.loop-k-test.true in
    let one : L.k - 1 + 1 ≡ L.k = omega arith in
    seeking_alive z.row.now z.fields z.j z.st s L.k L.invariant p d.result r.result (d.ensures ∙ ap (candidate_of s) one)
    (join_is z.row.now z.j f.result g.result f.ensures g.ensures d.result.items z.st r.result r.ensures)
    false c.in-Some.next c.in-Some.is (sym c.if-next_field.false ∙ c.next_field.ensures)

pub choose-loop-k-preserved : goal.choose-loop-k-preserved
choose-loop-k-preserved t c =
    let z = c.args in
    let L = c.loop-k in
    let s = c.span_of-s.result in
    let f = c.shape_at-f in
    let g = c.shape_at-g in
    let d = c.candidate_of-c in
    let r = c.join_fields in
    let p : 1 ≤ L.k = c.loop-k-test.true in
    let one : L.k - 1 + 1 ≡ L.k = omega arith in
    seeking_clash z.row.now z.fields z.j z.st s L.k L.invariant p d.result r.result (d.ensures ∙ ap (candidate_of s) one)
    (join_is z.row.now z.j f.result g.result f.ensures g.ensures d.result.items z.st r.result r.ensures)
    c.in_default.is
