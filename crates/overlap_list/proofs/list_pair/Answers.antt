-- By the choices or by the count, and with room for all lines.
use Rattle.std.proofs.Common.{◌≡◌, List, ℕ, ◌*◌, ◌≤◌, length, sym, ap, ◌∙◌, subst, arith}
use lib.Seq.{sets}
use Rattle.base_limits.specs.Limits.{entry_line}
use Rattle.text_write.specs.pieces.Stored.{bytes_of}
use Rattle.overlap_counts.specs.declared.Counts.{Counts}
use Rattle.overlap_list.specs.Listing.{pair_lines}
use Rattle.overlap_list.proofs.Counts.{measured, room_enough}
use Rattle.overlap_list.proofs.Short.{surely_fits}
use Rattle.overlap_list.proofs.list_pair.Goals as goal

pub returns-then-most_lines-out : goal.returns-then-most_lines-out
returns-then-most_lines-out c =
    let z = c.args in
    let n = c.most_lines in
    let u = c.all_lines in
    let ls = pair_lines z.pair z.row.now z.texts.now in
    let fits : length (bytes_of ls) ≤ length z.out.now =
    surely_fits n.result (length (bytes_of ls)) (length z.out.now) c.if-most_lines-out.true
    (subst (λ m. length (bytes_of ls) ≤ m * entry_line) (sym n.ensures) c.requires.short) in
    room_enough ls z.out.now u.result u.ensures.0 (omega (arith, fits, ap (λ (x : Counts). x.bytes) u.ensures.0)) u.ensures.1

pub returns : goal.returns
returns c =
    let z = c.args in
    let t = c.all_lines-counts in
    let u = c.all_lines-2 in
    let ls = pair_lines z.pair z.row.now z.texts.now in
    let same = measured (bytes_of ls) z.out.now t.ensures.1 in
    let bytes : t.result.bytes ≡ u.result.bytes = ap (λ (x : Counts). x.bytes) (t.ensures.0 ∙ sym u.ensures.0) in
    room_enough ls z.out.now u.result u.ensures.0 (omega (arith, c.if-out-counts.false, ap length same, bytes))
    (u.ensures.1 ∙ ap (λ (l : List ℕ). sets l 0 (bytes_of ls)) same)
