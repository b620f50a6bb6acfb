use Rattle.pair_row.specs.Row.{table_in}
use Rattle.pair_lines.specs.Lines.{names_of, most_count}
use Rattle.pair_lines.proofs.Answers.{items_few, items_one}
use Rattle.pair_lines.proofs.Numbering.name_items.Goals as goal

pub name_item-requires : goal.name_item-requires
name_item-requires c =
    let z = c.args in
    let L = c.loop-c in
    items_few (table_in z.row.now) (names_of z.self.now) z.items.now most_count L.c-index (names_of L.self) L.invariant c.requires

pub loop-c-preserved : goal.loop-c-preserved
loop-c-preserved c =
    let z = c.args in
    let L = c.loop-c in
    items_one (table_in z.row.now) (names_of z.self.now) z.items.now L.c-index (names_of L.self) _ L.invariant c.loop-c-test.true c.name_item.ensures
