use Rattle.math_terms.specs.Seqs.{concat_map}
use Rattle.math_overlaps.specs.Candidates.{range}
use Rattle.pair_lines.specs.Lines.{Puts, run_by, unled}
use Rattle.pair_lines.proofs.Values.{shown_in}
use Rattle.pair_lines.proofs.Bindings.put_rank.Given as goal

abbrev pub invariant-loop-n : goal.invariant-loop-n
invariant-loop-n l =
    Puts (unled l.self.led l.at (concat_map (shown_in l.self.shown.row.now l.self.shown.texts.now l.self.shown.numbers.now l.self.side.right l.self.side.atoms.now (run_by l.self.runs.now l.self.side.items.now) l.rank) (range 0 l.n))) l.at l.initial.out l.q l.out
