use mathlib.Core.Path.{subst}
use mathlib.Core.List.{List}
use Prim.Native.Nat.{ℕ, ◌≤◌}
use native.Mathlib.Omega.{arith}
use lib.ListN.{length, replicate}
use Rattle.text_write.specs.Answers.{Writes}
use Rattle.text_write.proofs.pieces.Pieces.{front_is}
use Rattle.book_spec.specs.Books.{book_text, longest_book_text}
use Rattle.book_rules.specs.texts.Keeping.{room_for, book_in}
use Rattle.book_rules.proofs.texts.Keeping.{book_long}
use Rattle.book_rules.proofs.texts.Pairs.{lines_fit}
use Rattle.book_rules.proofs.texts.write_pairs.Goals as goal

pub returns : goal.returns
returns c =
    let z = c.args in
    let G = c.give in
    let room : z.kept.n ≤ room_for (length z.row.now) = omega (arith, c.if-room_for-kept.false, c.room_for.ensures) in
    let book = book_in z.kept z.row.now in
    subst (λ (t : List ℕ). Writes t z.out.now G.result G.new.out)
    (front_is (book_text book) (replicate longest_book_text 0) (lines_fit book z.kept.n (book_long z.kept z.row.now room) (omega (arith, room)))
    c.put_rows.ensures.placed) G.ensures
