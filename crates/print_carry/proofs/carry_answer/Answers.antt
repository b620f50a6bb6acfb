use mathlib.Core.Path.{subst}
use mathlib.Core.List.{List}
use Prim.Native.Nat.{ℕ}
use native.Mathlib.Omega.{arith}
use Rattle.text_grammar.specs.Ascii.{newline}
use Rattle.text_write.specs.Answers.{Writes}
use Rattle.text_write.proofs.pieces.Pieces.{on_three, front_is, front_size}
use Rattle.print_carry.specs.Carry.{title_text, line_text, carry_answer}
use Rattle.print_carry.proofs.Lengths.{answer_short}
use borrow.Author.Rules.{rules}
use Rattle.print_carry.proofs.carry_answer.Goals as goal

pub returns : goal.returns
unfolding carry_answer
returns c =
    let z = c.args in
    let R = c.room-text in
    let G = c.give in
    let h = answer_short z.k z.line.now (search rules) in
    let all = on_three c.put_title.ensures c.put_line.ensures c.put_bytes.ensures in
    let front = front_is (carry_answer z.k z.line.now) R.result (omega (arith, h, R.ensures.long)) all.placed in
    record {
      writes = subst (λ (t : List ℕ). Writes t z.out.now G.result G.new.out) front G.ensures;
      line_len_bound = h;
    }
