use Prim.Native.Nat.{◌+◌, ◌*◌}
use Rattle.base_limits.specs.Limits.{entry_terms, pair_places}
use Rattle.pair_row.specs.Row.{table_in, spot_of}
use Rattle.overlap_entries.specs.Entries.{chosen_in, item_at}
use Rattle.pair_lines.specs.Lines.{names_of}
use Rattle.pair_lines.proofs.Loops.{named_one}
use Rattle.pair_lines.proofs.lay_field.Goals as goal

pub loop-i-preserved : goal.loop-i-preserved
loop-i-preserved c =
    let l = c.loop-i in
    let z = c.args in
    named_one (table_in z.row.now) z.items.now (names_of z.names.now) (entry_terms * z.j) (entry_terms * z.j)
    (item_at z.atoms.now (spot_of c.shape_at-s.result) (spot_of c.shape_at-t.result) (chosen_in z.c z.j).items
    (chosen_in z.c z.j).long (pair_places + z.j))
    l.i l.items (names_of l.names) l.invariant c.item_at-x.result c.item_at-x.ensures _ _
    c.put_at.ensures
    c.name_item.ensures
