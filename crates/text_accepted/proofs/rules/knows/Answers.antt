use Rattle.std.proofs.Common.{rules, tests}
use Rattle.std.proofs.lemmas.Iterator.{YieldsList-from_slice}
use Rattle.std.proofs.lemmas.Iterator.Search.{all_from_yields_List}
use mathlib.Core.Path.{sym, ◌∙◌}
use lib.ListN.{take}
use Rattle.text_values.specs.Values.{view_field, view_side}
use Rattle.text_accepted.specs.rules.Rules.{known_field}
use Rattle.text_accepted.proofs.rules.Members.{every_field}
use Rattle.text_accepted.proofs.rules.knows.Goals as goal

pub returns : goal.returns
returns c =
    let z = c.args in
    let used = take z.y.now.n z.y.now.fields in
    all_from_yields_List (λ f. known_field (view_side z.x.now) (view_field f)) _ _ c.all.result c.all.ensures.ran (YieldsList-from_slice used (search rules)) (λ x b q k. search (rules, tests))
    ∙ sym (every_field (view_side z.x.now) used)
