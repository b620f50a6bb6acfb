use mathlib.Core.Path.{◌≡◌}
use Prim.Native.Nat.{◌+◌, ◌<◌}
use native.Mathlib.Omega.{arith}
use lib.ListN.{length}
use Rattle.math_types.specs.Values.{kind_of}
use Rattle.match_fields.specs.bindings.Values.{slot}
use Rattle.match_fields.proofs.Walks.{absent}
use Rattle.print_matches.specs.answers.Values.{atom_text}
use Rattle.print_matches.proofs.answers.Loops.{from_as, from_all, from_one, from_other, atom_shown}
use Rattle.text_write.proofs.pieces.Pieces.{on_as}
use Rattle.print_matches.proofs.answers.put_atoms.Goals as goal
use Rattle.print_matches.proofs.answers.put_atoms.Goals.{else-rule-i, then-rule-i}

pub loop-n-preserved : goal.loop-n-preserved
loop-n-preserved c =
    let z = c.args in
    let L = c.loop-n in
    let h = c.loop-n-test.true in
    let i = c.slot-first.result + L.n in
    let is_i : i ≡ slot (kind_of z.k) L.n = omega (arith, c.slot-first.ensures) in
    let inside : i < length z.v.terms = omega (arith, L.invariant.0, is_i, c.requires, h) in (
      L.invariant.0,
      (elim c.if-rule-i.branch [
        | then-rule-i w ↦ from_as z.rule.has (kind_of z.k) (atom_text z.v (kind_of z.k)) _ (L.n + 1) w.page-is
            (from_one z.rule.has (kind_of z.k) (atom_text z.v (kind_of z.k)) _
            L.n L.page L.invariant.1 h i is_i _ w.if-rule-i.true w.put_name.ensures
            (on_as w.put_term.ensures (atom_shown z.v (kind_of z.k) L.n i absent is_i inside)))
        | else-rule-i w ↦ from_as z.rule.has (kind_of z.k) (atom_text z.v (kind_of z.k)) _ (L.n + 1) w.page-is
            (from_other z.rule.has (kind_of z.k) (atom_text z.v (kind_of z.k)) _
            L.n L.page L.invariant.1 h i is_i _ w.if-rule-i.false)
      ]),
    )

pub returns : goal.returns
returns c =
    let z = c.args in
    let L = c.loop-n in
    from_all z.rule.has (kind_of z.k) (atom_text z.v (kind_of z.k)) _ L.n L.page L.invariant.1 c.loop-n-test.false
