use Rattle.pair_row.specs.Row.{table_in}
use Rattle.pair_lines.specs.Lines.{names_of, most_count}
use Rattle.pair_lines.specs.Answers.{value_with}
use Rattle.pair_lines.proofs.Answers.{few_first}
use Rattle.pair_lines.proofs.Numbering.name_value.Goals as goal

pub name_item-requires : goal.name_item-requires
name_item-requires c =
    let z = c.args in
    few_first (table_in z.row.now) most_count (value_with z.row.now z.side.now.right z.side.now.atoms.now z.side.now.items.now z.rank z.n) (names_of z.self.now) c.requires
