use mathlib.Core.Path.{◌≡◌, sym, ◌∙◌, subst}
use mathlib.Core.Bool.{true}
use mathlib.Core.List.{List}
use Prim.Native.Nat.{ℕ, ◌≤◌}
use native.Mathlib.Omega.{arith}
use lib.ListN.{length, take, replicate, length-replicate}
use Rattle.base_limits.specs.Limits.{longest_slip}
use borrow.Author.Tests.{not-false}
use Rattle.text_grammar.specs.Plain.{plain}
use Rattle.text_values.specs.Values.{view_slip}
use Rattle.text_accepted.specs.slips.Slips.{accepted_slip}
use Rattle.text_write.specs.Answers.{Writes}
use Rattle.text_write.proofs.pieces.Pieces.{front_is}
use Rattle.text_plain.proofs.slips.Answers.{of_slip}
use Rattle.text_plain.proofs.slips.Lengths.{slip_short}
use Rattle.text_plain.proofs.slips.write_slip.Goals as goal

pub returns : goal.returns
returns c =
    let z = c.args in
    let G = c.give in
    let room = replicate longest_slip 0 in
    let is : accepted_slip z.s ≡ true = sym c.is_slip.ensures ∙ not-false _ c.if-not-is_slip.false-raw in
    let fits : length (plain (view_slip z.s)) ≤ length room = omega (arith, slip_short z.s is, length-replicate {A = ℕ} longest_slip 0) in
    let front = front_is (plain (view_slip z.s)) room fits c.put_slip.ensures.placed in
    let same : c.text-2-1.given.0 ≡ c.put_slip.new.page.bytes.now = c.text-2-1.given.1.1 (sym c.put_slip.ensures.same_bytes) in
    let all : c.min-n.result ≡ c.put_slip.new.page.at = omega (arith, c.min-n.ensures, c.put_slip.ensures.placed.0, fits) in
    let given = subst (λ (t : List ℕ). Writes (take c.min-n.result t) z.out.now G.result G.new.out) same G.ensures in
    let whole = subst (λ (n : ℕ). Writes (take n c.put_slip.new.page.bytes.now) z.out.now G.result G.new.out) all given in
    of_slip z.s z.out.now is (subst (λ (t : List ℕ). Writes t z.out.now G.result G.new.out) front whole)
