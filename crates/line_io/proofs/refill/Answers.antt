-- What waits, the end that was met before, or what a read brings.
use Rattle.std.proofs.Common.{refl, sym, arith}
use Rattle.std.proofs.lemmas.Bool.{true≢false}
use Rattle.line_io.specs.Lines.{waits, dry, reads}
use Rattle.line_io.proofs.Finding.{some_untaken, none_untaken}
use Rattle.line_io.proofs.refill.Goals as goal

pub returns-then-old : goal.returns-then-old
returns-then-old g c =
    record {
      order = omega arith;
      within = c.requires;
      fills = waits (some_untaken c.args.old c.args.chunk.now c.if-old.true c.requires) refl refl;
    }

pub returns-then-old-2 : goal.returns-then-old-2
returns-then-old-2 g c =
    record {
      order = omega arith;
      within = omega arith;
      fills = dry (none_untaken c.args.old c.args.chunk.now c.if-old.false) c.if-old-2.true refl refl;
    }

pub returns-in-Ok : goal.returns-in-Ok
returns-in-Ok g c =
    record {
      order = omega arith;
      within = c.in-Ok.ensures.bound.0;
      fills = reads (none_untaken c.args.old c.args.chunk.now c.if-old.false) c.if-old-2.false refl refl (λ h. absurd (true≢false (sym h)));
    }

pub returns-in-Err : goal.returns-in-Err
returns-in-Err g c =
    record {
      order = omega arith;
      within = omega arith;
      fills = reads (none_untaken c.args.old c.args.chunk.now c.if-old.false) c.if-old-2.false refl refl (λ h. refl);
    }
