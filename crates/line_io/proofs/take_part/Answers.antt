-- The part before the newline is added.
use Rattle.std.proofs.Common.{ap, ◌∙◌, ℕ, List, length, arith}
use Rattle.line_io.specs.Taking.{added_bytes}
use Rattle.line_io.proofs.Parts.{found_is, part_is, taken_newline, taken_rest}
use Rattle.line_io.proofs.take_part.Goals as goal

pub returns-then-e-end : goal.returns-then-e-end
returns-then-e-end c =
    let i = c.args.input in
    let u = c.args.chunk.now in
    let l = c.args.line.now in
    let f = found_is i u c.requires.0 c.requires.1 c.find.ensures.value in (
      taken_newline i u c.requires.0 c.requires.1 _ f (omega arith) c.args.l (length l) c.add_part-more.ensures.0 c.if-e-end.true,
      c.add_part-more.ensures.1 ∙ ap (λ (p : List ℕ). added_bytes c.args.l p l) (part_is i u c.requires.0 c.requires.1 _ f (omega arith)),
    )

pub returns : goal.returns
returns c =
    let i = c.args.input in
    let u = c.args.chunk.now in
    let l = c.args.line.now in
    let f = found_is i u c.requires.0 c.requires.1 c.find.ensures.value in (
      taken_rest i u c.requires.0 c.requires.1 _ f (omega arith) c.args.l (length l) c.add_part-more.ensures.0 c.if-e-end.false,
      c.add_part-more.ensures.1 ∙ ap (λ (p : List ℕ). added_bytes c.args.l p l) (part_is i u c.requires.0 c.requires.1 _ f (omega arith)),
    )
