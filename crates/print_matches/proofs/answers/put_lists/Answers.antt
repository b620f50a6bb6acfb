use mathlib.Core.Path.{◌≡◌}
use Prim.Native.Nat.{◌+◌}
use native.Mathlib.Omega.{arith}
use Rattle.math_types.specs.Order.{list}
use Rattle.match_rules.specs.texts.Texts.{slip_fields}
use Rattle.match_fields.specs.bindings.Values.{slot}
use Rattle.print_matches.specs.answers.Values.{list_text}
use Rattle.print_matches.proofs.answers.Loops.{from_as, from_one, from_other, list_shown}
use Rattle.text_write.proofs.pieces.Pieces.{on_as}
use Rattle.print_matches.proofs.answers.put_lists.Goals as goal
use Rattle.print_matches.proofs.answers.put_lists.Goals.{else-rule-i, then-rule-i}

pub loop-n-preserved : goal.loop-n-preserved
loop-n-preserved c =
    let z = c.args in
    let L = c.loop-n in
    let h = c.loop-n-test.true in
    let i = 48 + L.n in
    let is_i : i ≡ slot list L.n = omega arith in (
      L.invariant.0,
      (elim c.if-rule-i.branch [
        | then-rule-i w ↦ from_as z.rule.has list (list_text (slip_fields z.slip.now) z.x) _ (L.n + 1) w.page-is
            (from_one z.rule.has list (list_text (slip_fields z.slip.now) z.x) _
            L.n L.page L.invariant.1 h i is_i _ w.if-rule-i.true w.put_name.ensures
            (on_as w.put_run.ensures (list_shown (slip_fields z.slip.now) z.x L.n _ (omega (arith, L.invariant.0, h)))))
        | else-rule-i w ↦ from_as z.rule.has list (list_text (slip_fields z.slip.now) z.x) _ (L.n + 1) w.page-is
            (from_other z.rule.has list (list_text (slip_fields z.slip.now) z.x) _
            L.n L.page L.invariant.1 h i is_i _ w.if-rule-i.false)
      ]),
    )
