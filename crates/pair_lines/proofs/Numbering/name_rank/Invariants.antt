use Rattle.std.proofs.Common.{◌≡◌}
use Rattle.pair_row.specs.Row.{table_in}
use Rattle.pair_lines.specs.Lines.{names_of}
use Rattle.pair_lines.specs.Answers.{listed_at}
use Rattle.pair_lines.proofs.Answers.{up_to}
use Rattle.pair_lines.proofs.Numbering.name_rank.Given as goal

abbrev pub invariant-loop-n : goal.invariant-loop-n
invariant-loop-n l = names_of l.self ≡ up_to (table_in l.row) (names_of l.initial.self) (listed_at l.row l.side.right l.side.atoms.now l.side.items.now l.rank) l.n
