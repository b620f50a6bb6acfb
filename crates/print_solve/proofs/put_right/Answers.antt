use Rattle.text_accepted.specs.Accepted.{counted_field}
use Rattle.print_solve.proofs.Pieces.{piece_as}
use Rattle.print_solve.proofs.Said.{right_said}
use Rattle.print_solve.proofs.put_right.Goals as goal

pub returns : goal.returns
returns c =
    let z = c.args in
    let T = c.tab_place-tab in
    let D = c.behind-rest in
    let S = c.put_sizes.ensures in
    let said = right_said z.line.now T.result D.result T.ensures.0 D.ensures (counted_field z.left) c.read_field-right.ensures in
    let it = piece_as said (S.placed, S.line_len_bound) in
    record { placed = it.0; line_len_bound = it.1 }
