use Rattle.std.proofs.Common.{rules, tests}
use Rattle.std.proofs.lemmas.Iterator.{YieldsList-from_slice}
use Rattle.std.proofs.lemmas.Iterator.Search.{all_from_yields_List}
use mathlib.Core.Path.{sym, ◌∙◌}
use lib.ListN.{take}
use Rattle.text_values.specs.Values.{view_term, view_side}
use Rattle.text_accepted.specs.rules.Rules.{known_term}
use Rattle.text_accepted.proofs.rules.Members.{every_term}
use Rattle.text_accepted.proofs.rules.knows_field.Goals as goal

pub returns : goal.returns
returns c =
    let z = c.args in
    let used = take z.f.now.n z.f.now.terms in
    all_from_yields_List (λ t. known_term (view_side z.x.now) (view_term t)) _ _ c.all.result c.all.ensures.ran (YieldsList-from_slice used (search rules)) (λ x b q k. search (rules, tests))
    ∙ sym (every_term (view_side z.x.now) used)
