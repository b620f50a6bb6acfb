-- In the turns that were taken no newline was met, or the line is found.
use Rattle.line_io.proofs.Finding.{Turn}
use Rattle.line_io.proofs.next_line.Given as goal

abbrev pub invariant-loop-turn : goal.invariant-loop-turn
invariant-loop-turn g l = Turn l.initial.t.input l.initial.t.output l.initial.chunk l.initial.line l._turn l.t l.chunk l.line
