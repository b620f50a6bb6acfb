use mathlib.Core.Path.{ap}
use native.Mathlib.Omega.{arith}
use Rattle.math_terms.specs.Seqs.{concat_map}
use Rattle.math_overlaps.specs.Candidates.{range}
use Rattle.pair_lines.specs.Lines.{run_by, unled, rank_in}
use Rattle.pair_lines.proofs.Puts.{puts_as, unled_few, unled_next}
use Rattle.pair_lines.proofs.Values.{rank_led, all_led, texts_one, texts_room}
use Rattle.pair_lines.proofs.Bindings.put_values.Goals as goal

pub put_rank-q-requires : goal.put_rank-q-requires
put_rank-q-requires c =
    let z = c.args in
    let L = c.loop-k in
    let f = rank_in z.self.now.shown.row.now z.self.now.shown.texts.now z.self.now.shown.numbers.now z.self.now.side.right z.self.now.side.atoms.now (run_by z.self.now.runs.now z.self.now.side.items.now) in
    let few = unled_few z.self.now.led z.at (concat_map f (range 0 L.k)) in
    omega (arith, L.invariant.0, few, texts_room f L.k 4 c.loop-k-test.true, c.requires)

pub loop-k-preserved : goal.loop-k-preserved
loop-k-preserved c =
    let z = c.args in
    let L = c.loop-k in
    let runs = run_by z.self.now.runs.now z.self.now.side.items.now in
    let f = rank_in z.self.now.shown.row.now z.self.now.shown.texts.now z.self.now.shown.numbers.now z.self.now.side.right z.self.now.side.atoms.now runs in
    let led = rank_led z.self.now.shown.row.now z.self.now.shown.texts.now z.self.now.shown.numbers.now z.self.now.side.right z.self.now.side.atoms.now runs in
    puts_as z.at z.out.now (ap (unled z.self.now.led z.at) (texts_one f L.k))
    (unled_next z.self.now.led (concat_map f (range 0 L.k)) (f L.k) z.at z.out.now (all_led f led (range 0 L.k)) L.invariant
    c.put_rank-q.ensures)
