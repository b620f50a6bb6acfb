-- At most one read, and what is taken behind it.
use Rattle.line_io.proofs.Finding.{step_takes, step_ends}
use Rattle.line_io.proofs.step.Goals as goal

pub returns-then-input : goal.returns-then-input
returns-then-input g c =
    step_takes c.args.s c.args.chunk.now c.refill-input.new.chunk c.args.line.now c.flush_before_read-output.result
    c.in_chunk-before.result c.refill-input.result c.in_chunk-before.ensures c.refill-input.ensures c.flush_before_read-output.ensures
    c.if-input.true c.take_part-t.ensures.0 c.take_part-t.ensures.1

pub returns : goal.returns
returns g c =
    step_ends c.args.s c.args.chunk.now c.refill-input.new.chunk c.args.line.now c.flush_before_read-output.result
    c.in_chunk-before.result c.refill-input.result c.in_chunk-before.ensures c.refill-input.ensures c.flush_before_read-output.ensures
    c.if-input.false
