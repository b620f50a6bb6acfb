use mathlib.Core.Path.{subst}
use mathlib.Core.List.{List}
use Prim.Native.Nat.{ℕ}
use lib.ListN.{replicate}
use Rattle.text_write.specs.Answers.{Writes}
use Rattle.text_write.proofs.pieces.Pieces.{front_is, front_size}
use Rattle.print_book.specs.Book.{added_text, longest_stop}
use borrow.Author.Rules.{rules}
use Rattle.print_book.proofs.line_answer.Goals as goal

pub returns : goal.returns
returns c =
    let z = c.args in
    let P = c.put_answer in
    let G = c.give in record {
      writes = subst (λ (t : List ℕ). Writes t z.out.now G.result G.new.out)
          (front_is (added_text z.k z.added) (replicate longest_stop 0) P.ensures.added_len_bound P.ensures.placed.placed) G.ensures;
      added_len_bound = P.ensures.added_len_bound;
    }
