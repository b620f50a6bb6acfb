use mathlib.Core.Path.{◌≡◌, sym, ◌∙◌, subst}
use mathlib.Core.Bool.{true}
use mathlib.Core.List.{List}
use Prim.Native.Nat.{ℕ, ◌≤◌}
use native.Mathlib.Omega.{arith}
use lib.ListN.{length, replicate, length-replicate}
use Rattle.base_limits.specs.Limits.{longest_rule}
use borrow.Author.Tests.{not-false}
use Rattle.text_grammar.specs.rules.Plain.{plain_both}
use Rattle.text_values.specs.Values.{view_rule}
use Rattle.text_accepted.specs.rules.Rules.{accepted_rule}
use Rattle.text_write.specs.Answers.{Writes}
use Rattle.text_write.proofs.pieces.Pieces.{front_is}
use Rattle.text_plain.proofs.rules.Answers.{of_rule}
use Rattle.text_plain.proofs.rules.Lengths.{both_short}
use Rattle.text_plain.proofs.rules.write_rule.Goals as goal

pub returns : goal.returns
returns c =
    let z = c.args in
    let G = c.give in
    let room = replicate longest_rule 0 in
    let is : accepted_rule z.r ≡ true = sym c.is_rule.ensures ∙ not-false _ c.if-not-is_rule.false-raw in
    let fits : length (plain_both (view_rule z.r)) ≤ length room = omega (arith, both_short z.r is, length-replicate {A = ℕ} longest_rule 0) in
    let front = front_is (plain_both (view_rule z.r)) room fits c.put_rule.ensures.placed in
    of_rule z.r z.out.now is (subst (λ (t : List ℕ). Writes t z.out.now G.result G.new.out) front G.ensures)
