use native.Mathlib.Omega.{arith}
use Rattle.text_scan.proofs.split.Splits.{found_at, right_in}
use borrow.Author.Rules.{rules}
use Rattle.text_scan.proofs.split.behind_equal.Goals as goal

pub overflow_add-result-in-Some-2 : goal.overflow_add-result-in-Some-2
overflow_add-result-in-Some-2 c =
    let q = c.requires in
    let stops = found_at _ c.grammar_place.result _ c.grammar_place.ensures c.in-Some.is in
    let h = right_in c.args.text.now c.args.p q.text_value.0 q.text_value.1 q.p_value.0 q.p_value.1 (omega (arith, c.if-text-p.false))
    c.if-text-p-ne62.false c.in-Some.q stops in
    search rules
