use mathlib.Core.Path.{subst}
use mathlib.Core.List.{List}
use Prim.Native.Nat.{ℕ, ◌≤◌}
use native.Mathlib.Omega.{arith}
use lib.ListN.{length}
use Rattle.text_write.specs.Answers.{Writes}
use Rattle.text_write.proofs.Answers.{wrote}
use Rattle.text_write.proofs.pieces.Pieces.{front_is}
use Rattle.print_pairs.specs.Pairs.{pair_answer}
use borrow.Author.Rules.{rules}
use Rattle.print_pairs.proofs.pair_answer.Goals as goal

pub returns-then-out-ge-LONGEST_ANSWER : goal.returns-then-out-ge-LONGEST_ANSWER
returns-then-out-ge-LONGEST_ANSWER c =
    let z = c.args in
    let P = c.put_answer in
    let t = pair_answer z.k z.line.now in
    let h : length t ≤ length z.out.now = omega (arith, P.ensures.line_len_bound, c.if-out-ge-LONGEST_ANSWER.true) in
    record {
      writes = wrote t z.out.now h (omega (arith, P.ensures.placed.placed.0)) (search rules);
      line_len_bound = P.ensures.line_len_bound;
    }

pub returns : goal.returns
returns c =
    let z = c.args in
    let l = c.room-text in
    let P = c.put_answer-2.ensures in
    let G = c.give in
    let t = pair_answer z.k z.line.now in
    let front = front_is t l.result (omega (arith, P.line_len_bound, l.ensures.long)) P.placed.placed in
    record {
      writes = subst (λ (u : List ℕ). Writes u z.out.now G.result G.new.out) front G.ensures;
      line_len_bound = P.line_len_bound;
    }
