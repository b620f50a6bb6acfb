use Rattle.std.proofs.Common.{ℕ, List, [], ◌∷◌, ◌++◌, arith, sym, ap, ◌∙◌}
use Rattle.math_terms.specs.Seqs.{concat_map}
use Rattle.math_overlaps.specs.Candidates.{range}
use Rattle.math_codes.specs.Index.{name_at}
use Rattle.pair_row.specs.Row.{top_in}
use Rattle.pair_lines.specs.declared.Bindings.{Bindings}
use Rattle.pair_lines.specs.Lines.{run_by, tag_of, unled, shown_run, shown_value}
use Rattle.pair_lines.proofs.Puts.{puts_none, puts_as, puts_next, puts_moved, unled_none, unled_few, unled_behind, unled_next}
use Rattle.pair_lines.proofs.Values.{name_in, shown_in, name_long, shown_there, shown_not, shown_long, shown_led, all_led, texts_one, texts_room}
use Rattle.pair_lines.proofs.Bindings.put_rank.Goals as goal
use Rattle.pair_lines.proofs.Bindings.put_rank.Goals.{else-index_at-ne0, then-index_at-ne0}

-- what is written of variable n of a rank
abbrev shown_one : Bindings → ℕ → ℕ → List ℕ
shown_one s k n =
    shown_in s.shown.row.now s.shown.texts.now s.shown.numbers.now s.side.right s.side.atoms.now (run_by s.runs.now s.side.items.now) k n

pub put_name-p-requires : goal.put_name-p-requires
put_name-p-requires c =
    let s = c.args.self.now in
    let k = c.args.rank in
    let L = c.loop-n in
    let room = texts_room (shown_one s k) L.n (top_in s.shown.row.now s.side.right k) (omega (arith, c.loop-n-test.true, c.top_at-top.ensures)) in
    let long = shown_long s.shown.row.now s.shown.texts.now s.shown.numbers.now s.side.right s.side.atoms.now (run_by s.runs.now s.side.items.now) k L.n
    (λ e. c.if-index_at-ne0.true (c.index_at.ensures ∙ e)) in
    omega (arith, L.invariant.0, unled_few s.led c.args.at (concat_map (shown_one s k) (range 0 L.n)), room, c.requires, long)

pub put_value-q-requires : goal.put_value-q-requires
put_value-q-requires c =
    let s = c.args.self.now in
    let k = c.args.rank in
    let L = c.loop-n in
    let room = texts_room (shown_one s k) L.n (top_in s.shown.row.now s.side.right k) (omega (arith, c.loop-n-test.true, c.top_at-top.ensures)) in
    let long = shown_long s.shown.row.now s.shown.texts.now s.shown.numbers.now s.side.right s.side.atoms.now (run_by s.runs.now s.side.items.now) k L.n
    (λ e. c.if-index_at-ne0.true (c.index_at.ensures ∙ e)) in
    omega (
      arith,
      L.invariant.0,
      unled_few s.led c.args.at (concat_map (shown_one s k) (range 0 L.n)),
      room,
      c.requires,
      long,
      c.put_name-p.ensures.0,
      name_long s.side.right k L.n,
      unled_few s.led L.q (name_in s.side.right k L.n),
    )

pub loop-n-preserved : goal.loop-n-preserved
loop-n-preserved c =
    let s = c.args.self.now in
    let k = c.args.rank in
    let L = c.loop-n in
    let n = L.n in
    let row = s.shown.row.now in
    let texts = s.shown.texts.now in
    let ns = s.shown.numbers.now in
    let runs = run_by s.runs.now s.side.items.now in
    let f = shown_one s k in
    let named = name_in s.side.right k n in
    let value = shown_run s.shown (shown_value s k n) in
    let led = all_led f (shown_led row texts ns s.side.right s.side.atoms.now runs k) (range 0 n) in
    puts_as c.args.at c.args.out.now (ap (unled s.led c.args.at) (texts_one f n))
    (unled_next s.led (concat_map f (range 0 n)) (f n) c.args.at c.args.out.now led L.invariant
    (elim c.if-index_at-ne0.branch [
      | then-index_at-ne0 w ↦ puts_moved (unled s.led L.q (f n)) L.q L.out w.q-is w.out-is
          (puts_as L.q L.out
          (unled_behind s.led L.q 32 (tag_of s.side.right ∷ (name_at k n ++ 61 ∷ [])) value
          ∙ ap (unled s.led L.q)
          (shown_there row texts ns s.side.right s.side.atoms.now runs k n (λ e. w.if-index_at-ne0.true (c.index_at.ensures ∙ e))))
          (puts_next (unled s.led L.q named) value L.q L.out w.put_name-p.ensures w.put_value-q.ensures))
      | else-index_at-ne0 w ↦ puts_moved (unled s.led L.q (f n)) L.q L.out w.q-is w.out-is
          (puts_as L.q L.out
          (sym (unled_none s.led L.q)
          ∙ ap (unled s.led L.q) (shown_not row texts ns s.side.right s.side.atoms.now runs k n (sym c.index_at.ensures ∙ w.if-index_at-ne0.false)))
          (puts_none L.q L.out))
    ]))
