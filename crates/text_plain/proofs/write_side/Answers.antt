use mathlib.Core.Path.{◌≡◌, sym, ◌∙◌, subst}
use mathlib.Core.Bool.{true}
use mathlib.Core.List.{List}
use Prim.Native.Nat.{ℕ, ◌≤◌}
use native.Mathlib.Omega.{arith}
use lib.ListN.{length, replicate, length-replicate}
use Rattle.base_limits.specs.Limits.{longest_side}
use borrow.Author.Tests.{not-false}
use Rattle.text_grammar.specs.Plain.{plain}
use Rattle.text_values.specs.Values.{view_side}
use Rattle.text_accepted.specs.Accepted.{accepted_left}
use Rattle.text_write.specs.Answers.{Writes}
use Rattle.text_write.proofs.pieces.Pieces.{front_is}
use Rattle.text_plain.proofs.Answers.{of_side}
use Rattle.text_plain.proofs.Lengths.{left_short}
use Rattle.text_plain.proofs.write_side.Goals as goal

pub returns : goal.returns
returns c =
    let z = c.args in
    let G = c.give in
    let room = replicate longest_side 0 in
    let is : accepted_left z.r ≡ true = sym c.is_left.ensures ∙ not-false _ c.if-not-is_left.false-raw in
    let fits : length (plain (view_side z.r)) ≤ length room = omega (arith, left_short z.r is, length-replicate {A = ℕ} longest_side 0) in
    let front = front_is (plain (view_side z.r)) room fits c.put_fields.ensures.placed in
    of_side z.r z.out.now is (subst (λ (t : List ℕ). Writes t z.out.now G.result G.new.out) front G.ensures)
