use Rattle.std.proofs.Common.{ℕ, zero, suc, List, [], ◌∷◌, ◌++◌, ◌≡◌, ◌≤◌, ◌<◌, ◌+◌, ◌-◌, ◌*◌, true, length, take, drop, arith, ap, ap₂, ◌∙◌, refl}
use Rattle.std.proofs.Math.Seq.{take_all}
use Rattle.base_limits.specs.Limits.{entry_terms}
use Rattle.overlap_entries.specs.declared.Choice.{Choice}
use Rattle.pair_row.specs.Row.{table_in, text_in}
use Rattle.pair_lines.specs.Lines.{count_at, fits, field_in, items_in, laid_in, shown_run, shown_fields}
use Rattle.pair_lines.proofs.Laying.{count_fits, laid_field, laid_long, laid_room, items_long}
use Rattle.pair_lines.proofs.Puts.{puts_none, puts_as, puts_next, puts_moved}
use Rattle.pair_lines.proofs.Texts.{bar_before, fields_next, fields_room}
use Rattle.pair_lines.proofs.Shown.put_fields.Goals as goal
use Rattle.pair_lines.proofs.Shown.put_fields.Goals.{then-j-gt0, else-j-gt0}

bar_is : (j : ℕ) → 0 < j → 124 ∷ [] ≡ bar_before j
bar_is zero h = absurd (omega arith)
bar_is (suc j) h = refl

bar_none : (j : ℕ) → j ≤ 0 → [] ≡ bar_before j
bar_none zero h = refl
bar_none (suc j) h = absurd (omega arith)

-- the items that the code cuts out are the field's
cut : (row : List ℕ) (n : ℕ) (c : Choice) (atoms items : List ℕ) (k j : ℕ) → fits n c ≡ true → items ≡ laid_in row n c atoms → k ≡ count_at c j → j < n
    → take (entry_terms * j + k - entry_terms * j) (drop (entry_terms * j) items) ≡ field_in row c atoms j
cut row n c atoms items k j ok e q h =
    ap₂ (λ (m : ℕ) (l : List ℕ). take m (drop (entry_terms * j) l))
    (let z : entry_terms * j + k - entry_terms * j ≡ count_at c j = omega (arith, q) in z) e
    ∙ laid_field row n c atoms ok j h

pub overflow_add-to : goal.overflow_add-to
overflow_add-to c =
    let z = c.args in
    omega (arith, c.count_in.ensures, count_fits z.fields z.c c.requires.c_value.0 c.loop-j.j c.loop-j-test.true)

pub put_byte-p-requires : goal.put_byte-p-requires
put_byte-p-requires c =
    let z = c.args in
    let s = z.self.now in
    let L = c.loop-j in
    let room = fields_room (table_in s.row.now) (text_in s.row.now s.texts.now) s.numbers.now z.fields (field_in s.row.now z.c z.atoms.now) L.j
    c.loop-j-test.true in
    omega (arith, L.invariant.0, room, c.requires.atoms_len_bound, ap length (bar_is L.j c.if-j-gt0.true))

pub slice_bounds-put_run-end : goal.slice_bounds-put_run-end
slice_bounds-put_run-end c =
    let z = c.args in
    let row = z.self.now.row.now in
    let room = laid_room row z.fields z.c z.atoms.now c.requires.c_value.0 c.loop-j.j c.loop-j-test.true in
    omega (arith, room, c.count_in.ensures, ap length c.requires.c_value.1, laid_long row z.fields z.c z.atoms.now)

pub put_run-q-requires : goal.put_run-q-requires
put_run-q-requires c =
    let z = c.args in
    let s = z.self.now in
    let L = c.loop-j in
    let h = c.loop-j-test.true in
    let front = shown_fields s (take L.j (items_in s.row.now z.fields z.c z.atoms.now)) in
    let e = cut s.row.now z.fields z.c z.atoms.now z.items.now c.count_in.result L.j c.requires.c_value.0 c.requires.c_value.1 c.count_in.ensures h in
    let room = fields_room (table_in s.row.now) (text_in s.row.now s.texts.now) s.numbers.now z.fields (field_in s.row.now z.c z.atoms.now) L.j h in
    let at : c.if-j-gt0.p ≡ L.q + length (bar_before L.j) = elim c.if-j-gt0.branch [
      | then-j-gt0 w ↦ omega (arith, w.p-is, w.put_byte-p.ensures.0, ap length (bar_is L.j w.if-j-gt0.true))
      | else-j-gt0 w ↦ omega (arith, w.p-is, ap length (bar_none L.j w.if-j-gt0.false))
    ] in
    omega (arith, at, L.invariant.0, room, c.requires.atoms_len_bound, ap (λ (l : List ℕ). length (shown_run s l)) e)

pub loop-j-preserved : goal.loop-j-preserved
loop-j-preserved c =
    let z = c.args in
    let s = z.self.now in
    let L = c.loop-j in
    let h = c.loop-j-test.true in
    let l = z.out.now in
    let f = field_in s.row.now z.c z.atoms.now in
    let a = shown_fields s (take L.j (items_in s.row.now z.fields z.c z.atoms.now)) in
    let b = bar_before L.j in
    let e = cut s.row.now z.fields z.c z.atoms.now z.items.now c.count_in.result L.j c.requires.c_value.0 c.requires.c_value.1 c.count_in.ensures h in
    puts_as 0 l (fields_next (table_in s.row.now) (text_in s.row.now s.texts.now) s.numbers.now z.fields f L.j h)
    (puts_next (a ++ b) (shown_run s (f L.j)) 0 l
    (elim c.if-j-gt0.branch [
      | then-j-gt0 w ↦ puts_moved (a ++ b) 0 l w.p-is w.out-is
          (puts_next a b 0 l L.invariant (puts_as L.q L.out (bar_is L.j w.if-j-gt0.true) w.put_byte-p.ensures))
      | else-j-gt0 w ↦ puts_moved (a ++ b) 0 l w.p-is w.out-is
          (puts_next a b 0 l L.invariant (puts_as L.q L.out (bar_none L.j w.if-j-gt0.false) (puts_none L.q L.out)))
    ])
    (puts_as c.if-j-gt0.p c.if-j-gt0.out (ap (shown_run s) e) c.put_run-q.ensures))

pub returns : goal.returns
returns c =
    let z = c.args in
    let s = z.self.now in
    let is = items_in s.row.now z.fields z.c z.atoms.now in
    let all = take_all c.loop-j.j is (omega (arith, c.loop-j-test.false, items_long s.row.now z.fields z.c z.atoms.now)) in
    puts_as 0 z.out.now (ap (shown_fields s) all) c.loop-j.invariant
