use Rattle.pair_row.specs.Row.{table_in}
use Rattle.pair_lines.specs.Lines.{names_of, most_count}
use Rattle.pair_lines.specs.Answers.{listed_rank}
use Rattle.pair_lines.proofs.Answers.{values_one, values_few}
use Rattle.pair_lines.proofs.Numbering.name_values.Goals as goal

pub name_rank-requires : goal.name_rank-requires
name_rank-requires c =
    let z = c.args in
    let L = c.loop-rank in
    values_few (table_in z.row.now) (names_of z.self.now) (listed_rank z.row.now z.side.now.right z.side.now.atoms.now z.side.now.items.now) most_count L.rank 4 (names_of L.self)
    L.invariant c.loop-rank-test.true c.requires

pub loop-rank-preserved : goal.loop-rank-preserved
loop-rank-preserved c =
    let z = c.args in
    let L = c.loop-rank in
    values_one (table_in z.row.now) (names_of z.self.now) (listed_rank z.row.now z.side.now.right z.side.now.atoms.now z.side.now.items.now) L.rank (names_of L.self) _ L.invariant
    c.name_rank.ensures
