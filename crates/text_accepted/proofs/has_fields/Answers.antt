use Rattle.std.proofs.Common.{rules}
use Rattle.base_limits.specs.Limits.{most_fields}
use Rattle.text_values.proofs.canonical.Filled.{parted_good, parted_bad, parted_over}
use Rattle.text_accepted.specs.Accepted.{terms_ok, terms_blank}
use Rattle.text_accepted.proofs.has_fields.Goals as goal

pub returns-then-are_fields : goal.returns-then-are_fields
returns-then-are_fields g c =
    parted_good (terms_ok c.args.variables) (terms_blank c.args.variables) most_fields c.args.r.now.n c.args.r.now.fields (search rules) c.in-Some.ensures.cases c.are_fields.ensures c.if-are_fields.true
    c.are_blank_fields.ensures

pub returns-else-are_fields : goal.returns-else-are_fields
returns-else-are_fields g c =
    parted_bad (terms_ok c.args.variables) (terms_blank c.args.variables) most_fields c.args.r.now.n c.args.r.now.fields (search rules) c.in-Some.ensures.cases c.are_fields.ensures c.if-are_fields.false

pub returns-in-None : goal.returns-in-None
returns-in-None g c = parted_over (terms_ok c.args.variables) (terms_blank c.args.variables) most_fields c.args.r.now.n c.args.r.now.fields (search rules) c.in-None.ensures.cases
