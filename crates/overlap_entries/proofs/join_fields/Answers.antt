use mathlib.Core.Path.{sym, ◌∙◌, subst}
use Prim.Native.Nat.{◌+◌}
use Rattle.math_types.specs.Types.{entry}
use Rattle.math_codes.specs.Spots.{cell_at}
use Rattle.pair_row.specs.Row.{table_in, spot_of}
use Rattle.pair_state.specs.declared.State.{State}
use Rattle.overlap_entries.specs.Entries.{place_in}
use Rattle.overlap_entries.proofs.Runs.{Left, left_first, left_none, left_same, left_clash, left_one}
use Rattle.overlap_entries.proofs.join_fields.Goals as goal
use Rattle.overlap_entries.proofs.join_fields.Goals.{then-differ+in_ok-now, else-differ}

pub returns : goal.returns
returns c =
    let z = c.args in
    let e =
    left_none entry (table_in z.row.now) (cell_at (spot_of z.s) z.n) (cell_at (spot_of z.t) z.n) z.n z.st.atoms c.loop-p.now.atoms c.loop-p.p
    c.loop-p.invariant c.loop-p-test.false in
    rw e

pub loop-p-init : goal.loop-p-init
loop-p-init c =
    let z = c.args in
    left_first entry (table_in z.row.now) (cell_at (spot_of z.s) z.n) (cell_at (spot_of z.t) z.n) z.n z.st.atoms

pub returns-in_err-now : goal.returns-in_err-now
returns-in_err-now c =
    let z = c.args in
    let l = c.loop-p in
    let e =
    left_clash entry (table_in z.row.now) (cell_at (spot_of z.s) z.n) (cell_at (spot_of z.t) z.n) z.n z.st.atoms l.now l.p
    (place_in c.cell_at-a.result) (place_in c.cell_at-b.result) c.cell_at-a.ensures c.cell_at-b.ensures l.invariant c.loop-p-test.true
    c.join_cells.result c.join_cells.ensures c.in_err-now.was in
    rw e c.from_residual.ensures

pub loop-p-preserved : goal.loop-p-preserved
loop-p-preserved c =
    let z = c.args in
    let l = c.loop-p in
    let T = table_in z.row.now in
    let a = cell_at (spot_of z.s) z.n in
    let b = cell_at (spot_of z.t) z.n in
    let i = place_in c.cell_at-a.result in
    let k = place_in c.cell_at-b.result in
    let S : State → Type 0 = λ st. Left entry T a b z.n z.st.atoms st.atoms (l.p + 1) in
    elim c.if-differ.branch [
      | then-differ+in_ok-now w ↦
          let J = w.join_cells in
          subst S (sym w.now-is)
          (left_one entry T a b z.n z.st.atoms l.now l.p i k c.cell_at-a.ensures c.cell_at-b.ensures l.invariant c.loop-p-test.true
          J.result J.ensures _ w.in_ok-now.was)
      | else-differ w ↦
          subst S (sym w.now-is)
          (left_same entry T a b z.n z.st.atoms l.now.atoms l.p i k c.cell_at-a.ensures c.cell_at-b.ensures l.invariant c.loop-p-test.true
          (sym c.differ.ensures ∙ w.if-differ.false))
    ]
