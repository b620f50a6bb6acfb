use Rattle.std.proofs.Common.{◌≡◌, take}
use Rattle.math_codes.specs.Names.{name_codes}
use Rattle.pair_row.specs.Row.{table_in}
use Rattle.pair_lines.specs.Lines.{names_of}
use Rattle.pair_lines.proofs.Numbering.name_items.Given as goal

abbrev pub invariant-loop-c : goal.invariant-loop-c
invariant-loop-c l = names_of l.self ≡ name_codes (table_in l.row) (names_of l.initial.self) (take l.c-index l.items)
