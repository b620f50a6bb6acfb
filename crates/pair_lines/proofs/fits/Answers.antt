use Rattle.std.proofs.Common.{rules, ◌≤◌, ◌<◌}
use Rattle.std.proofs.lemmas.Iterator.{YieldsList-from_slice, YieldsList-from_take, cases_from_all}
use borrow.Author.Tests.{tests}
use Rattle.base_limits.specs.Limits.{entry_terms}
use Rattle.overlap_entries.specs.Entries.{item_count}
use Rattle.pair_lines.proofs.Loops.{fits_all}
use Rattle.pair_lines.proofs.fits.Goals as goal

pub returns-then-fields-le-MOST_FIELDS : goal.returns-then-fields-le-MOST_FIELDS
returns-then-fields-le-MOST_FIELDS c =
    let z = c.args in
    let fs = z.c.fields in
    fits_all z.fields z.c c.if-fields-le-MOST_FIELDS.true (search rules) c.all.result
    (cases_from_all _ _ c.all.result (λ x. item_count x.items x.long ≤ entry_terms) (λ x. entry_terms < item_count x.items x.long) c.all.ensures.ran
    (YieldsList-from_take z.fields (YieldsList-from_slice fs cc) cc) (λ x q k. search (rules, tests)) (λ x q k. search (rules, tests)))
