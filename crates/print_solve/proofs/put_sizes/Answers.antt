use native.Mathlib.Omega.{arith}
use Rattle.text_accepted.specs.Accepted.{counted_field}
use Rattle.print_solve.proofs.Pieces.{piece_as}
use Rattle.print_solve.proofs.Said.{tab_there, no_tab_there}
use Rattle.print_solve.proofs.put_sizes.Goals as goal

pub returns-then-tab_place-n : goal.returns-then-tab_place-n
returns-then-tab_place-n c =
    let z = c.args in
    let T = c.tab_place-tab in
    let D = c.behind-rest in
    let U = c.tab_place in
    let said = tab_there z.line.now T.result D.result T.ensures.0 D.ensures
    (counted_field z.left) (counted_field z.right) U.result U.ensures.0 c.if-tab_place-n.true in
    let it = piece_as said (c.put_bytes.ensures, omega arith) in
    record { placed = it.0; line_len_bound = it.1 }

pub returns : goal.returns
returns c =
    let z = c.args in
    let T = c.tab_place-tab in
    let D = c.behind-rest in
    let U = c.tab_place in
    let R = c.put_row.ensures in
    let said = no_tab_there z.line.now T.result D.result T.ensures.0 D.ensures
    (counted_field z.left) (counted_field z.right) U.result U.ensures.0 c.if-tab_place-n.false in
    let it = piece_as said (R.placed, R.room_len_bound) in
    record { placed = it.0; line_len_bound = it.1 }
