use Rattle.std.proofs.Common.{rules, ◌≤◌, ◌<◌}
use Rattle.std.proofs.lemmas.Iterator.{YieldsList-from_slice, cases_from_all}
use borrow.Author.Tests.{tests}
use Rattle.base_limits.specs.Limits.{pair_items}
use Rattle.pair_lines.proofs.Answers.{value_all}
use Rattle.pair_lines.proofs.value_fits.Goals as goal

pub returns-then-items-le-ENTRY_TERMS : goal.returns-then-items-le-ENTRY_TERMS
returns-then-items-le-ENTRY_TERMS c =
    let items = c.args.items.now in
    value_all items c.if-items-le-ENTRY_TERMS.true c.all.result
    (cases_from_all _ _ c.all.result (λ x. x < pair_items) (λ x. pair_items ≤ x) c.all.ensures.ran (YieldsList-from_slice items cc)
    (λ x q k. search (rules, tests)) (λ x q k. search (rules, tests)))
