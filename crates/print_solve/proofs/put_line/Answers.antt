use native.Mathlib.Omega.{arith}
use Rattle.print_solve.proofs.Pieces.{piece_as}
use Rattle.print_solve.proofs.Said.{line_said}
use Rattle.print_solve.proofs.Lengths.{line_long}
use Rattle.print_solve.proofs.put_line.Goals as goal

pub returns-then-n-gt-LONGEST_LINE : goal.returns-then-n-gt-LONGEST_LINE
returns-then-n-gt-LONGEST_LINE c =
    let it = piece_as (line_long c.args.line.now c.if-n-gt-LONGEST_LINE.true) (c.put_bytes.ensures, omega arith) in
    record { placed = it.0; line_len_bound = it.1 }

pub returns : goal.returns
returns c =
    let z = c.args in
    let T = c.tab_place-tab in
    let D = c.behind-rest in
    let R = c.put_right.ensures in
    let said = line_said z.line.now T.result D.result T.ensures.0 D.ensures c.read_field-left.ensures c.if-n-gt-LONGEST_LINE.false in
    let it = piece_as said (R.placed, R.line_len_bound) in
    record { placed = it.0; line_len_bound = it.1 }
