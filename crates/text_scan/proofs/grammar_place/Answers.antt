use Rattle.std.proofs.Common.{rules, [], arith, ◌<◌, get_or, ap}
use Rattle.text_scan.specs.Tables.{state_number}
use Rattle.text_scan.proofs.StepTable.{step_at, is_refused}
use Rattle.text_scan.specs.declared.tables.Reading.TheVariants.{Before, Refused}
use Rattle.text_scan.proofs.Places.{place_refused, place_more}
use Rattle.text_scan.proofs.grammar_place.Goals as goal

pub returns-then-eq : goal.returns-then-eq
returns-then-eq c =
    let L = c.loop-i in
    let byte : get_or c.args.text.now c.loop-i.i 0 < 256 = omega (arith, c.type_inv.text c.loop-i.i) in
    place_refused c.args.text.now L.i _ L.invariant c.loop-i-test.true _ (step_at L.state _ [] Before L.invariant.1 byte) byte (ap state_number {y = Refused} (search rules))

pub loop-i-preserved : goal.loop-i-preserved
loop-i-preserved c =
    let L = c.loop-i in
    let byte : get_or c.args.text.now c.loop-i.i 0 < 256 = omega (arith, c.type_inv.text c.loop-i.i) in
    place_more c.args.text.now L.i _ L.invariant c.loop-i-test.true _ (step_at L.state _ _ _ L.invariant.1 byte) byte (λ e. let is = is_refused _ e in search rules)
