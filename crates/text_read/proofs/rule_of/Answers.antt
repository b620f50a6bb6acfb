use mathlib.Core.Path.{sym, ◌∙◌}
use Rattle.text_read.proofs.Values.{one_rule}
use Rattle.text_read.proofs.rule_of.Goals as goal

pub returns-in-One : goal.returns-in-One
returns-in-One c =
    one_rule c.args.text.now c.requires.1 (sym c.requires.0 ∙ c.in-One.is) c.fields_in.result
    c.no_fields.result c.fields_in.ensures c.no_fields.ensures
