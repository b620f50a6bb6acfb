use Rattle.std.proofs.Common.{refl, arith}
use Rattle.line_io.proofs.Finding.{turn_first, turn_more, turn_last}
use Rattle.line_io.proofs.next_line.Goals as goal

pub loop-turn-init : goal.loop-turn-init
loop-turn-init g c = turn_first c.args.s.input c.args.s.output c.args.chunk.now c.args.line.now c.no_line.ensures

pub loop-turn-preserved : goal.loop-turn-preserved
loop-turn-preserved g c =
    turn_more c.args.s.input c.args.s.output c.args.chunk.now c.args.line.now refl c.if-t.false c.loop-turn.invariant c.step-t.ensures

pub returns-after-loop-turn : goal.returns-after-loop-turn
returns-after-loop-turn g c =
    turn_last c.args.s.input c.args.s.output c.args.chunk.now c.args.line.now {c = c.loop-turn.chunk} {l = c.loop-turn.line} (omega arith) c.loop-turn.invariant
