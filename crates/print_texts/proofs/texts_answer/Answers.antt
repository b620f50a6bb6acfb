use mathlib.Core.Path.{subst}
use mathlib.Core.List.{List}
use Prim.Native.Nat.{ℕ}
use native.Mathlib.Omega.{arith}
use borrow.Author.Rules.{rules}
use Rattle.text_write.specs.Answers.{Writes}
use Rattle.text_write.proofs.pieces.Pieces.{on_next, front_is, front_size}
use Rattle.print_texts.specs.Texts.{rule_answer, slip_answer, texts_answer}
use Rattle.print_texts.proofs.Lengths.{texts_short}
use Rattle.print_texts.proofs.texts_answer.Goals as goal

pub returns : goal.returns
unfolding texts_answer
returns c =
    let z = c.args in
    let l = c.room-text.result in
    let G = c.give in
    subst (λ (t : List ℕ). Writes t z.out.now G.result G.new.out) (front_is (texts_answer z.line.now) l
    (omega (arith, texts_short z.line.now, c.room-text.ensures.long))
    (on_next c.put_rule_answer.ensures c.put_slip_answer.ensures).placed) G.ensures
