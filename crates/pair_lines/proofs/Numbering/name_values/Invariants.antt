use Rattle.std.proofs.Common.{◌≡◌}
use Rattle.pair_row.specs.Row.{table_in}
use Rattle.pair_lines.specs.Lines.{names_of}
use Rattle.pair_lines.specs.Answers.{listed_rank}
use Rattle.pair_lines.proofs.Answers.{up_to}
use Rattle.pair_lines.proofs.Numbering.name_values.Given as goal

abbrev pub invariant-loop-rank : goal.invariant-loop-rank
invariant-loop-rank l = names_of l.self ≡ up_to (table_in l.row) (names_of l.initial.self) (listed_rank l.row l.side.right l.side.atoms.now l.side.items.now) l.rank
