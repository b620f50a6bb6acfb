use Rattle.std.proofs.Common.{rules}
use Rattle.text_values.specs.canonical.Terms.{term_blank}
use Rattle.text_values.proofs.canonical.Filled.{parted_good, parted_bad, parted_over}
use Rattle.text_accepted.specs.Accepted.{may_stand}
use Rattle.text_accepted.proofs.has_terms.Goals as goal

pub returns-then-are_terms : goal.returns-then-are_terms
returns-then-are_terms g c =
    parted_good (may_stand c.args.variables) term_blank g.row.PLACES c.args.f.now.n c.args.f.now.terms (search rules) c.in-Some.ensures.cases c.are_terms.ensures c.if-are_terms.true
    c.are_blank.ensures

pub returns-else-are_terms : goal.returns-else-are_terms
returns-else-are_terms g c =
    parted_bad (may_stand c.args.variables) term_blank g.row.PLACES c.args.f.now.n c.args.f.now.terms (search rules) c.in-Some.ensures.cases c.are_terms.ensures c.if-are_terms.false

pub returns-in-None : goal.returns-in-None
returns-in-None g c = parted_over (may_stand c.args.variables) term_blank g.row.PLACES c.args.f.now.n c.args.f.now.terms (search rules) c.in-None.ensures.cases
