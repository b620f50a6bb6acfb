use Rattle.math_types.specs.Types.{entry}
use Rattle.math_codes.specs.Spots.{cell_at}
use Rattle.pair_row.specs.Row.{table_in, spot_of}
use Rattle.overlap_entries.proofs.Runs.{Left}
use Rattle.overlap_entries.proofs.join_fields.Given as goal

abbrev pub invariant-loop-p : goal.invariant-loop-p
invariant-loop-p l = Left entry (table_in l.row) (cell_at (spot_of l.s) l.n) (cell_at (spot_of l.t) l.n) l.n l.fn.st.atoms l.now.atoms l.p
