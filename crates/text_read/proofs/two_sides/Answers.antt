use Rattle.text_scan.proofs.split.Splits.{two_sides}
use Rattle.text_read.proofs.Values.{two_rule}
use borrow.Author.Rules.{rules}
use Rattle.text_read.proofs.two_sides.Goals as goal

pub slice_bounds-fields_in-count : goal.slice_bounds-fields_in-count
slice_bounds-fields_in-count c = let s = (two_sides c.args.text.now c.args.p c.requires.0).inside in search rules

pub slice_bounds-fields_in-start : goal.slice_bounds-fields_in-start
slice_bounds-fields_in-start c = let s = (two_sides c.args.text.now c.args.p c.requires.0).inside in search rules

pub returns : goal.returns
returns c =
    two_rule c.args.text.now c.requires.1 c.args.p c.requires.0 c.fields_in-left.result c.fields_in-right.result c.fields_in-left.ensures c.fields_in-right.ensures
