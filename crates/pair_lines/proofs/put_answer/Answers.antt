use Rattle.std.proofs.Common.{true, false, [], ◌∷◌, ◌++◌, sym, ap, ◌∙◌, arith}
use borrow.Author.Tests.{not-true, not-false}
use Rattle.math_codes.specs.Names.{Names}
use Rattle.pair_lines.specs.Lines.{run_by, unled, values_in}
use Rattle.pair_lines.proofs.Puts.{puts_none, puts_as, puts_next, unled_few, unled_next}
use Rattle.pair_lines.proofs.Values.{values_led}
use Rattle.pair_lines.proofs.AnswerLines.{answer_many, answer_left, answer_right, left_few, right_few, both_named, both_short, answer_text_lem}
use Rattle.pair_lines.proofs.put_answer.Goals as goal

pub returns-then-not-numbers_few : goal.returns-then-not-numbers_few
returns-then-not-numbers_few c =
    let z = c.args in
    let a = c.numbers_few in
    let e = sym a.ensures ∙ not-true a.result c.if-not-numbers_few.true-raw in record {
      puts = puts_as 0 z.out.now (answer_many z.row.now z.texts.now z.atoms.now z.left.now z.right.now e) (puts_none 0 z.out.now);
      upper_bound = omega arith;
    }

pub returns-then-not-value_fits : goal.returns-then-not-value_fits
returns-then-not-value_fits c =
    let z = c.args in
    let few = sym c.numbers_few.ensures ∙ not-false c.numbers_few.result c.if-not-numbers_few.false-raw in
    let e = sym c.value_fits.ensures ∙ not-true c.value_fits.result c.if-not-value_fits.true-raw in record {
      puts = puts_as 0 z.out.now (answer_left z.row.now z.texts.now z.atoms.now z.left.now z.right.now few e) (puts_none 0 z.out.now);
      upper_bound = omega arith;
    }

pub returns-then-not-value_fits-2 : goal.returns-then-not-value_fits-2
returns-then-not-value_fits-2 c =
    let z = c.args in
    let few = sym c.numbers_few.ensures ∙ not-false c.numbers_few.result c.if-not-numbers_few.false-raw in
    let ok₁ = sym c.value_fits.ensures ∙ not-false c.value_fits.result c.if-not-value_fits.false-raw in
    let e = sym c.value_fits-2.ensures ∙ not-true c.value_fits-2.result c.if-not-value_fits-2.true-raw in record {
      puts = puts_as 0 z.out.now (answer_right z.row.now z.texts.now z.atoms.now z.left.now z.right.now few ok₁ e) (puts_none 0 z.out.now);
      upper_bound = omega arith;
    }

pub name_values-requires : goal.name_values-requires
name_values-requires c =
    let z = c.args in
    let few = sym c.numbers_few.ensures ∙ not-false c.numbers_few.result c.if-not-numbers_few.false-raw in
    let ok₁ = sym c.value_fits.ensures ∙ not-false c.value_fits.result c.if-not-value_fits.false-raw in
    let ok₂ = sym c.value_fits-2.ensures ∙ not-false c.value_fits-2.result c.if-not-value_fits-2.false-raw in
    left_few z.row.now z.texts.now z.atoms.now z.left.now z.right.now few ok₁ ok₂ _ c.none-names.ensures

pub name_values-requires-2 : goal.name_values-requires-2
name_values-requires-2 c =
    let z = c.args in
    let few = sym c.numbers_few.ensures ∙ not-false c.numbers_few.result c.if-not-numbers_few.false-raw in
    let ok₁ = sym c.value_fits.ensures ∙ not-false c.value_fits.result c.if-not-value_fits.false-raw in
    let ok₂ = sym c.value_fits-2.ensures ∙ not-false c.value_fits-2.result c.if-not-value_fits-2.false-raw in
    right_few z.row.now z.texts.now z.atoms.now z.left.now z.right.now few ok₁ ok₂ _ _ c.none-names.ensures c.name_values.ensures

pub put_values-p-requires : goal.put_values-p-requires
put_values-p-requires c =
    let z = c.args in
    let few = sym c.numbers_few.ensures ∙ not-false c.numbers_few.result c.if-not-numbers_few.false-raw in
    let ok₁ = sym c.value_fits.ensures ∙ not-false c.value_fits.result c.if-not-value_fits.false-raw in
    let ok₂ = sym c.value_fits-2.ensures ∙ not-false c.value_fits-2.result c.if-not-value_fits-2.false-raw in
    let small = both_short z.row.now z.texts.now z.atoms.now z.left.now z.right.now few ok₁ ok₂ _ _ _ c.none-names.ensures c.name_values.ensures
    c.name_values-2.ensures c.whole_runs.result c.whole_runs-2.result c.whole_runs.ensures c.whole_runs-2.ensures (λ i. omega (arith, c.type_inv.texts i)) in
    omega (arith, small)

pub put_values-q-requires : goal.put_values-q-requires
put_values-q-requires c =
    let z = c.args in
    let few = sym c.numbers_few.ensures ∙ not-false c.numbers_few.result c.if-not-numbers_few.false-raw in
    let ok₁ = sym c.value_fits.ensures ∙ not-false c.value_fits.result c.if-not-value_fits.false-raw in
    let ok₂ = sym c.value_fits-2.ensures ∙ not-false c.value_fits-2.result c.if-not-value_fits-2.false-raw in
    let small = both_short z.row.now z.texts.now z.atoms.now z.left.now z.right.now few ok₁ ok₂ _ _ _ c.none-names.ensures c.name_values.ensures
    c.name_values-2.ensures c.whole_runs.result c.whole_runs-2.result c.whole_runs.ensures c.whole_runs-2.ensures (λ i. omega (arith, c.type_inv.texts i)) in
    let ns = c.name_values-2.new.self.numbers in
    let l = values_in z.row.now z.texts.now ns false z.atoms.now (run_by c.whole_runs.result z.left.now) in
    let r = values_in z.row.now z.texts.now ns true z.atoms.now (run_by c.whole_runs-2.result z.right.now) in
    omega (arith, small, c.put_values-p.ensures.0, unled_few false 0 l)

pub put_byte-requires : goal.put_byte-requires
put_byte-requires c =
    let z = c.args in
    let few = sym c.numbers_few.ensures ∙ not-false c.numbers_few.result c.if-not-numbers_few.false-raw in
    let ok₁ = sym c.value_fits.ensures ∙ not-false c.value_fits.result c.if-not-value_fits.false-raw in
    let ok₂ = sym c.value_fits-2.ensures ∙ not-false c.value_fits-2.result c.if-not-value_fits-2.false-raw in
    let small = both_short z.row.now z.texts.now z.atoms.now z.left.now z.right.now few ok₁ ok₂ _ _ _ c.none-names.ensures c.name_values.ensures
    c.name_values-2.ensures c.whole_runs.result c.whole_runs-2.result c.whole_runs.ensures c.whole_runs-2.ensures (λ i. omega (arith, c.type_inv.texts i)) in
    let ns = c.name_values-2.new.self.numbers in
    let l = values_in z.row.now z.texts.now ns false z.atoms.now (run_by c.whole_runs.result z.left.now) in
    let r = values_in z.row.now z.texts.now ns true z.atoms.now (run_by c.whole_runs-2.result z.right.now) in
    omega (arith, small, c.put_values-p.ensures.0, unled_few false 0 l, c.put_values-q.ensures.0, unled_few false c.put_values-p.result r)

pub returns : goal.returns
returns c =
    let z = c.args in
    let few = sym c.numbers_few.ensures ∙ not-false c.numbers_few.result c.if-not-numbers_few.false-raw in
    let ok₁ = sym c.value_fits.ensures ∙ not-false c.value_fits.result c.if-not-value_fits.false-raw in
    let ok₂ = sym c.value_fits-2.ensures ∙ not-false c.value_fits-2.result c.if-not-value_fits-2.false-raw in
    let small = both_short z.row.now z.texts.now z.atoms.now z.left.now z.right.now few ok₁ ok₂ _ _ _ c.none-names.ensures c.name_values.ensures
    c.name_values-2.ensures c.whole_runs.result c.whole_runs-2.result c.whole_runs.ensures c.whole_runs-2.ensures (λ i. omega (arith, c.type_inv.texts i)) in
    let ns = c.name_values-2.new.self.numbers in
    let l = values_in z.row.now z.texts.now ns false z.atoms.now (run_by c.whole_runs.result z.left.now) in
    let r = values_in z.row.now z.texts.now ns true z.atoms.now (run_by c.whole_runs-2.result z.right.now) in
    let named = both_named z.row.now z.texts.now z.atoms.now z.left.now z.right.now _ _ _ c.none-names.ensures c.name_values.ensures c.name_values-2.ensures in
    let text = answer_text_lem z.row.now z.texts.now z.atoms.now z.left.now z.right.now few ok₁ ok₂ ns c.whole_runs.result c.whole_runs-2.result
    (ap (λ (x : Names). x.numbers) named) c.whole_runs.ensures c.whole_runs-2.ensures in
    let led = values_led z.row.now z.texts.now ns false z.atoms.now (run_by c.whole_runs.result z.left.now) in
    let values = unled_next false l r 0 z.out.now led c.put_values-p.ensures c.put_values-q.ensures in record {
      puts = puts_as 0 z.out.now text (puts_next (unled false 0 (l ++ r)) (10 ∷ []) 0 z.out.now values c.put_byte.ensures);
      upper_bound = omega (
        arith,
        small,
        c.put_values-p.ensures.0,
        unled_few false 0 l,
        c.put_values-q.ensures.0,
        unled_few false c.put_values-p.result r,
        c.put_byte.ensures.0,
      );
    }
