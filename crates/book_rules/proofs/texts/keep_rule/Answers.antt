use mathlib.Core.Path.{◌∙◌}
use lib.ListN.{replicate}
use Rattle.base_limits.specs.Limits.{longest_side}
use Rattle.text_grammar.specs.Plain.{plain}
use Rattle.text_accepted.specs.Accepted.{counted_left}
use Rattle.text_write.proofs.pieces.Pieces.{written_long, written_count, written_front}
use Rattle.text_plain.proofs.Lengths.{plain_short}
use Rattle.overlap_list.proofs.Texts.{plain_is}
use Rattle.book_rules.proofs.texts.Books.{keeps_as}
use Rattle.book_rules.proofs.texts.keep_rule.Goals as goal

pub slice_bounds-text-end : goal.slice_bounds-text-end
slice_bounds-text-end c =
    let v = c.left_of-side.result in
    written_long (plain (counted_left v)) (replicate longest_side 0) (plain_short v) c.size_of-n.ensures c.write_side.ensures

pub slice_bounds-keep_text-end : goal.slice_bounds-keep_text-end
slice_bounds-keep_text-end c =
    let v = c.left_of-side.result in
    written_count (plain (counted_left v)) (replicate longest_side 0) (plain_short v) c.size_of-n.ensures
    c.write_side.ensures

pub returns : goal.returns
returns c =
    let z = c.args in
    let L = c.left_of-side in
    keeps_as z.kept z.row.now
    (written_front (plain (counted_left L.result)) (replicate longest_side 0) (plain_short L.result) c.size_of-n.ensures
    c.write_side.ensures
    ∙ plain_is z.rule L.ensures) c.keep_text.ensures
