use Rattle.std.proofs.Common.{rules, tests}
use Rattle.std.proofs.lemmas.Iterator.{YieldsList-from_slice}
use Rattle.std.proofs.lemmas.Iterator.Search.{any_from_yields_List}
use mathlib.Core.Path.{sym, ◌∙◌}
use lib.ListN.{take}
use Rattle.math_types.specs.Values.{kind_of}
use Rattle.text_values.specs.Values.{view_field}
use Rattle.overlap_spec.specs.Variables.{in_field}
use Rattle.text_accepted.proofs.variables.Members.{some_field}
use Rattle.text_accepted.proofs.variables.has_variable.Goals as goal

pub returns : goal.returns
returns c =
    let z = c.args in
    let used = take z.r.n z.r.fields in
    any_from_yields_List (λ f. in_field (kind_of z.k) z.n (view_field f)) _ _ c.any.result c.any.ensures.ran (YieldsList-from_slice used (search rules)) (λ x b q k. search (rules, tests))
    ∙ sym (some_field (kind_of z.k) z.n used)
