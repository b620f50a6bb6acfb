use Rattle.std.proofs.Common.{◌≡◌, true, false, [], ◌∷◌, ◌++◌, sym, ap, ◌∙◌, arith}
use borrow.Author.Tests.{not-true, not-false}
use Rattle.math_codes.specs.Names.{Names}
use Rattle.math_codes.specs.Lines.{fields_text}
use Rattle.pair_row.specs.Row.{table_in, text_in}
use Rattle.pair_lines.specs.Lines.{items_in, names_in, run_by, values_in}
use Rattle.pair_lines.proofs.Bounds.{line_none, line_many, line_text_lem, parts_short}
use Rattle.pair_lines.proofs.Puts.{puts_none, puts_as, puts_next}
use Rattle.pair_lines.proofs.put_line.Goals as goal

pub returns-then-not-fits : goal.returns-then-not-fits
returns-then-not-fits c =
    let z = c.args in
    let e = sym c.fits.ensures ∙ not-true c.fits.result c.if-not-fits.true-raw in
    record {
      puts = puts_as 0 z.out.now (line_none z.row.now z.texts.now z.fields z.c z.atoms.now e) (puts_none 0 z.out.now);
      upper_bound = omega arith;
    }

pub returns-then-not-numbers_few : goal.returns-then-not-numbers_few
returns-then-not-numbers_few c =
    let z = c.args in
    let ok = sym c.fits.ensures ∙ not-false c.fits.result c.if-not-fits.false-raw in
    let e = sym c.numbers_few.ensures ∙ not-true c.numbers_few.result c.if-not-numbers_few.true-raw in record {
      puts = puts_as 0 z.out.now (line_many z.row.now z.texts.now z.fields z.c z.atoms.now ok e) (puts_none 0 z.out.now);
      upper_bound = omega arith;
    }

pub put_fields-p-requires : goal.put_fields-p-requires
put_fields-p-requires c =
    let z = c.args in
    let ok = sym c.fits.ensures ∙ not-false c.fits.result c.if-not-fits.false-raw in
    let few = sym c.numbers_few.ensures ∙ not-false c.numbers_few.result c.if-not-numbers_few.false-raw in
    let ns = c.lay-x.result.names.numbers in
    let items = c.lay-x.result.items in
    let named : ns ≡ (names_in z.row.now z.fields z.c z.atoms.now).numbers = ap (λ (x : Names). x.numbers) c.lay-x.ensures.names_value in
    let left = c.put_runs.new.runs in
    let right = c.put_runs-2.new.runs in
    let small = parts_short z.row.now z.texts.now z.fields z.c z.atoms.now (λ i. omega (arith, c.type_inv.row i)) (λ i. omega (arith, c.type_inv.texts i)) ns
    items left right named c.lay-x.ensures.items_value c.put_runs.ensures c.put_runs-2.ensures ok few in
    record { c_value = (ok, c.lay-x.ensures.items_value); atoms_len_bound = omega (arith, small) }

pub put_values-q-requires : goal.put_values-q-requires
put_values-q-requires c =
    let z = c.args in
    let ok = sym c.fits.ensures ∙ not-false c.fits.result c.if-not-fits.false-raw in
    let few = sym c.numbers_few.ensures ∙ not-false c.numbers_few.result c.if-not-numbers_few.false-raw in
    let ns = c.lay-x.result.names.numbers in
    let items = c.lay-x.result.items in
    let named : ns ≡ (names_in z.row.now z.fields z.c z.atoms.now).numbers = ap (λ (x : Names). x.numbers) c.lay-x.ensures.names_value in
    let left = c.put_runs.new.runs in
    let right = c.put_runs-2.new.runs in
    let small = parts_short z.row.now z.texts.now z.fields z.c z.atoms.now (λ i. omega (arith, c.type_inv.row i)) (λ i. omega (arith, c.type_inv.texts i)) ns
    items left right named c.lay-x.ensures.items_value c.put_runs.ensures c.put_runs-2.ensures ok few in
    omega (arith, small, c.put_fields-p.ensures.0)

pub put_values-r-requires : goal.put_values-r-requires
put_values-r-requires c =
    let z = c.args in
    let ok = sym c.fits.ensures ∙ not-false c.fits.result c.if-not-fits.false-raw in
    let few = sym c.numbers_few.ensures ∙ not-false c.numbers_few.result c.if-not-numbers_few.false-raw in
    let ns = c.lay-x.result.names.numbers in
    let items = c.lay-x.result.items in
    let named : ns ≡ (names_in z.row.now z.fields z.c z.atoms.now).numbers = ap (λ (x : Names). x.numbers) c.lay-x.ensures.names_value in
    let left = c.put_runs.new.runs in
    let right = c.put_runs-2.new.runs in
    let small = parts_short z.row.now z.texts.now z.fields z.c z.atoms.now (λ i. omega (arith, c.type_inv.row i)) (λ i. omega (arith, c.type_inv.texts i)) ns
    items left right named c.lay-x.ensures.items_value c.put_runs.ensures c.put_runs-2.ensures ok few in
    omega (arith, small, c.put_fields-p.ensures.0, c.put_values-q.ensures.0)

pub put_byte-requires : goal.put_byte-requires
put_byte-requires c =
    let z = c.args in
    let ok = sym c.fits.ensures ∙ not-false c.fits.result c.if-not-fits.false-raw in
    let few = sym c.numbers_few.ensures ∙ not-false c.numbers_few.result c.if-not-numbers_few.false-raw in
    let ns = c.lay-x.result.names.numbers in
    let items = c.lay-x.result.items in
    let named : ns ≡ (names_in z.row.now z.fields z.c z.atoms.now).numbers = ap (λ (x : Names). x.numbers) c.lay-x.ensures.names_value in
    let left = c.put_runs.new.runs in
    let right = c.put_runs-2.new.runs in
    let small = parts_short z.row.now z.texts.now z.fields z.c z.atoms.now (λ i. omega (arith, c.type_inv.row i)) (λ i. omega (arith, c.type_inv.texts i)) ns
    items left right named c.lay-x.ensures.items_value c.put_runs.ensures c.put_runs-2.ensures ok few in
    omega (arith, small, c.put_fields-p.ensures.0, c.put_values-q.ensures.0, c.put_values-r.ensures.0)

pub returns : goal.returns
returns c =
    let z = c.args in
    let ok = sym c.fits.ensures ∙ not-false c.fits.result c.if-not-fits.false-raw in
    let few = sym c.numbers_few.ensures ∙ not-false c.numbers_few.result c.if-not-numbers_few.false-raw in
    let ns = c.lay-x.result.names.numbers in
    let items = c.lay-x.result.items in
    let named : ns ≡ (names_in z.row.now z.fields z.c z.atoms.now).numbers = ap (λ (x : Names). x.numbers) c.lay-x.ensures.names_value in
    let left = c.put_runs.new.runs in
    let right = c.put_runs-2.new.runs in
    let small = parts_short z.row.now z.texts.now z.fields z.c z.atoms.now (λ i. omega (arith, c.type_inv.row i)) (λ i. omega (arith, c.type_inv.texts i)) ns
    items left right named c.lay-x.ensures.items_value c.put_runs.ensures c.put_runs-2.ensures ok few in
    let F = c.put_fields-p in
    let A = c.put_values-q in
    let B = c.put_values-r in
    let E = c.put_byte in
    let a = fields_text (table_in z.row.now) (text_in z.row.now z.texts.now) ns (items_in z.row.now z.fields z.c z.atoms.now) in
    let b = values_in z.row.now z.texts.now ns false z.atoms.now (run_by left items) in
    let d = values_in z.row.now z.texts.now ns true z.atoms.now (run_by right items) in
    let end = puts_next d (10 ∷ []) A.result A.new.out B.ensures E.ensures in
    let behind = puts_next b (d ++ 10 ∷ []) F.result F.new.out A.ensures end in
    let all = puts_next a (b ++ (d ++ 10 ∷ [])) 0 z.out.now F.ensures behind in
    let text = line_text_lem z.row.now z.texts.now z.fields z.c z.atoms.now ns items left right named c.lay-x.ensures.items_value c.put_runs.ensures
    c.put_runs-2.ensures ok few in
    record { puts = puts_as 0 z.out.now text all; upper_bound = omega (arith, small, F.ensures.0, A.ensures.0, B.ensures.0, E.ensures.0) }
