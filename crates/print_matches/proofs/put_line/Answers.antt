use Rattle.text_write.proofs.pieces.Pieces.{on_as}
use Rattle.print_matches.proofs.Said.{line_said}
use Rattle.print_matches.proofs.Lengths.{line_long}
use Rattle.print_matches.proofs.put_line.Goals as goal

pub returns-then-n-gt-SLIP_LINE : goal.returns-then-n-gt-SLIP_LINE
returns-then-n-gt-SLIP_LINE c = on_as c.put_bytes.ensures (line_long c.args.line.now c.if-n-gt-SLIP_LINE.true)

pub returns : goal.returns
returns c =
    let z = c.args in
    let T = c.tab_place-tab in
    let D = c.behind-rest in
    on_as c.put_reads.ensures (line_said z.line.now T.result D.result T.ensures.0 D.ensures c.if-n-gt-SLIP_LINE.false)
