use mathlib.Core.Path.{sym, ◌∙◌}
use Rattle.print_solve.proofs.Fields.{one_field_lem, with_right, no_one_field}
use Rattle.print_solve.proofs.read_field.Goals as goal

pub returns-then-right-ne0 : goal.returns-then-right-ne0
returns-then-right-ne0 c =
    let R = c.read_rule-read in
    let t = c.args.text.now in
    c.no_field.ensures ∙ sym (with_right t R.result R.ensures c.if-right-ne0.true)

pub returns-then-left-eq1 : goal.returns-then-left-eq1
returns-then-left-eq1 c =
    let R = c.read_rule-read in
    let t = c.args.text.now in
    one_field_lem t R.result R.ensures _ c.if-right-ne0.false c.if-left-eq1.true

pub returns : goal.returns
returns c =
    let R = c.read_rule-read in
    let t = c.args.text.now in
    c.no_field-2.ensures ∙ sym (no_one_field t R.result R.ensures c.if-left-eq1.false)
