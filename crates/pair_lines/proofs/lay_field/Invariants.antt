use Prim.Native.Nat.{◌+◌, ◌*◌}
use Rattle.base_limits.specs.Limits.{entry_terms, pair_places}
use Rattle.pair_row.specs.Row.{table_in, spot_of}
use Rattle.overlap_entries.specs.Entries.{item_at}
use Rattle.pair_lines.specs.Lines.{names_of}
use Rattle.pair_lines.proofs.Loops.{Named}
use Rattle.pair_lines.proofs.lay_field.Given as goal

abbrev pub invariant-loop-i : goal.invariant-loop-i
invariant-loop-i l =
    Named (table_in l.row) l.initial.items (names_of l.initial.names) (entry_terms * l.j) (entry_terms * l.j)
    (item_at l.atoms (spot_of l.s) (spot_of l.t) l.n l.long (pair_places + l.j)) l.i l.items (names_of l.names)
