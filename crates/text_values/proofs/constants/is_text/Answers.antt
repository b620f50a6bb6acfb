use Rattle.std.proofs.Common.{rules}
use Rattle.base_limits.specs.Limits.{longest_string}
use Rattle.text_values.specs.constants.Constants.{is_inside, is_zero}
use Rattle.text_values.proofs.canonical.Filled.{parted_good, parted_bad, parted_over}
use Rattle.text_values.proofs.constants.is_text.Goals as goal

pub returns-then-are_inside : goal.returns-then-are_inside
returns-then-are_inside c =
    parted_good is_inside is_zero longest_string c.args.n c.args.text.now (search rules) c.in-Some.ensures.cases c.are_inside.ensures c.if-are_inside.true
    c.are_zero.ensures

pub returns-else-are_inside : goal.returns-else-are_inside
returns-else-are_inside c =
    parted_bad is_inside is_zero longest_string c.args.n c.args.text.now (search rules) c.in-Some.ensures.cases c.are_inside.ensures c.if-are_inside.false

pub returns-in-None : goal.returns-in-None
returns-in-None c = parted_over is_inside is_zero longest_string c.args.n c.args.text.now (search rules) c.in-None.ensures.cases
