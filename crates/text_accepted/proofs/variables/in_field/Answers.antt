use Rattle.std.proofs.Common.{rules, tests}
use Rattle.std.proofs.lemmas.Iterator.{YieldsList-from_slice}
use Rattle.std.proofs.lemmas.Iterator.Search.{any_from_yields_List}
use mathlib.Core.Path.{sym, ◌∙◌}
use lib.ListN.{take}
use Rattle.math_types.specs.Values.{kind_of}
use Rattle.text_values.specs.Values.{view_term}
use Rattle.overlap_spec.specs.Variables.{is_variable}
use Rattle.text_accepted.proofs.variables.Members.{some_term}
use Rattle.text_accepted.proofs.variables.in_field.Goals as goal

pub returns : goal.returns
returns c =
    let z = c.args in
    let used = take z.f.now.n z.f.now.terms in
    any_from_yields_List (λ t. is_variable (kind_of z.k) z.n (view_term t)) _ _ c.any.result c.any.ensures.ran (YieldsList-from_slice used (search rules)) (λ x b q k. search (rules, tests))
    ∙ sym (some_term (kind_of z.k) z.n used)
