use mathlib.Core.Path.{sym, ◌∙◌}
use native.Mathlib.Omega.{arith}
use lib.ListN.{get_or-eq_default}
use Rattle.base_lists.specs.Seqs.{tabulate_long, tabulate_at}
use Rattle.text_values.specs.Values.{blank_slip_field}
use Rattle.text_passes.specs.Fields.{field_count, slip_field}
use Rattle.match_rules.specs.texts.Texts.{slip_fields}
use Rattle.print_matches.proofs.answers.field_at.Goals as goal

pub returns-then-fields-j : goal.returns-then-fields-j
returns-then-fields-j c =
    let t = c.args.slip.now in
    c.no_terms.ensures
    ∙ sym (get_or-eq_default (slip_fields t) blank_slip_field {n = c.args.j}
    (omega (arith, c.requires, c.if-fields-j.true, tabulate_long (field_count t) (slip_field t))))

pub returns : goal.returns
returns c =
    let t = c.args.slip.now in
    c.field_in.ensures
    ∙ sym (tabulate_at (field_count t) (slip_field t) c.args.j blank_slip_field (omega (arith, c.requires, c.if-fields-j.false)))
