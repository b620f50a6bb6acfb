use Rattle.math_terms.specs.Seqs.{concat_map}
use Rattle.math_overlaps.specs.Candidates.{range}
use Rattle.pair_lines.specs.Lines.{Puts, run_by, unled, rank_in}
use Rattle.pair_lines.proofs.Bindings.put_values.Given as goal

abbrev pub invariant-loop-k : goal.invariant-loop-k
invariant-loop-k l =
    Puts (unled l.self.led l.at (concat_map (rank_in l.self.shown.row.now l.self.shown.texts.now l.self.shown.numbers.now l.self.side.right l.self.side.atoms.now (run_by l.self.runs.now l.self.side.items.now)) (range 0 l.k))) l.at l.initial.out l.q l.out
