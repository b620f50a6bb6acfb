use Prim.Native.Nat.{◌-◌}
use mathlib.Core.Path.{ap}
use native.Mathlib.Omega.{arith}
use lib.ListN.{length}
use Rattle.text_write.proofs.pieces.Pieces.{on_as}
use Rattle.print_pairs.proofs.Said.{line_said}
use Rattle.print_pairs.proofs.Lengths.{line_long}
use Rattle.print_pairs.proofs.put_line.Goals as goal

pub returns-then-n-gt-PAIR_LINE : goal.returns-then-n-gt-PAIR_LINE
returns-then-n-gt-PAIR_LINE c =
    let said = line_long c.args.line.now c.if-n-gt-PAIR_LINE.true in
    record { placed = on_as c.put_bytes.ensures said; line_len_bound = omega (arith, ap length said) }

pub returns : goal.returns
returns c =
    let z = c.args in
    let p = z.page.now in
    let T = c.tab_place-tab in
    let D = c.behind-rest in
    let k = length p.bytes.now - p.at in
    let S = c.put_texts.ensures in
    let said = line_said z.line.now T.result D.result T.ensures.0 D.ensures k c.if-n-gt-PAIR_LINE.false (omega (arith, c.requires)) in
    record { placed = on_as S.placed said; line_len_bound = omega (arith, ap length said, S.right_len_bound) }
