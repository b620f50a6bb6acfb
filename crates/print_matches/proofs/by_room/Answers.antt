use mathlib.Core.Path.{subst}
use mathlib.Core.List.{List}
use Prim.Native.Nat.{ℕ}
use native.Mathlib.Omega.{arith}
use Rattle.text_write.specs.Answers.{Writes}
use Rattle.text_write.proofs.pieces.Pieces.{front_is}
use Rattle.print_matches.specs.Matches.{match_answer}
use Rattle.print_matches.proofs.Lengths.{answer_short}
use borrow.Author.Rules.{rules}
use Rattle.print_matches.proofs.by_room.Goals as goal

pub returns : goal.returns
returns c =
    let g = c.give in
    let z = c.args in
    let short = answer_short z.k z.line.now (search rules) in
    subst (λ (t : List ℕ). Writes t z.out.now g.result g.new.out)
    (front_is (match_answer z.k z.line.now) c.room-text.result (omega (arith, short, c.room-text.ensures.long)) c.put_answer.ensures.placed) g.ensures
