use Rattle.pair_table.proofs.Loops.{cell_minus, cell_plain}
use Rattle.pair_table.proofs.put_cell.Goals as goal

pub returns-then-minus : goal.returns-then-minus
returns-then-minus c =
    let a = c.args in
    cell_minus a.p a.minus a.text.now a.texts.now a.from a.n c.if-minus.true c.put_at.ensures c.put_at-then-minus.ensures
    c.put_bytes.ensures

pub returns : goal.returns
returns c =
    let a = c.args in
    cell_plain a.p a.minus a.text.now a.texts.now a.from a.n c.if-minus.false c.put_at-2.ensures c.put_bytes-2.ensures
