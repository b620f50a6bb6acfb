use mathlib.Core.Path.{subst}
use mathlib.Core.List.{List}
use Prim.Native.Nat.{ℕ}
use native.Mathlib.Omega.{arith}
use Rattle.text_write.specs.Answers.{Writes}
use Rattle.text_write.proofs.pieces.Pieces.{on_next, front_is}
use Rattle.print_solve.specs.Solve.{solve_answer}
use Rattle.print_solve.proofs.Lengths.{answer_short}
use borrow.Author.Rules.{rules}
use Rattle.print_solve.proofs.solve_answer.Goals as goal

pub returns : goal.returns
unfolding solve_answer
returns c =
    let z = c.args in
    let R = c.room-text in
    let L = c.put_line.ensures in
    let G = c.give in
    let h = answer_short z.k z.line.now (search rules) L.line_len_bound in
    let all = on_next c.put_title.ensures L.placed in
    let front = front_is (solve_answer z.k z.line.now) R.result (omega (arith, h, R.ensures.long)) all.placed in
    record {
      writes = subst (λ (t : List ℕ). Writes t z.out.now G.result G.new.out) front G.ensures;
      line_len_bound = h;
    }
