use mathlib.Core.Path.{sym}
use lib.Seq.{length-take-le}
use Rattle.text_write.proofs.pieces.Pieces.{on_as}
use Rattle.print_carry.proofs.Said.{line_said}
use Rattle.print_carry.proofs.Lengths.{line_long}
use borrow.Author.Rules.{rules}
use Rattle.print_carry.proofs.put_line.Goals as goal

pub returns-then-n-gt-SLIP_LINE : goal.returns-then-n-gt-SLIP_LINE
returns-then-n-gt-SLIP_LINE c =
    let z = c.args in
    on_as c.put_bytes.ensures (line_long z.line.now c.if-n-gt-SLIP_LINE.true)

pub returns : goal.returns
returns c =
    let z = c.args in
    let T = c.tab_place-tab in
    let D = c.behind-rest in
    let R = c.read_rule-rule in
    let S = c.read_slip-slip in
    let short = c.if-n-gt-SLIP_LINE.false in
    on_as c.put_reads.ensures
    (line_said z.line.now T.result D.result T.ensures.0 D.ensures R.result S.result short R.ensures S.ensures)
