use Rattle.text_write.specs.pieces.Stored.{bytes_of}
use Rattle.overlap_list.specs.Listing.{pair_lines}
use Rattle.overlap_list.proofs.Counts.{measured}
use Rattle.overlap_list.proofs.asking.Commits.{lines_written}
use Rattle.overlap_list.proofs.asking.commit_pair.Goals as goal

pub returns : goal.returns
returns c =
    let z = c.args in
    let t = c.all_lines-counts in
    let u = c.all_lines in
    let ls = pair_lines z.pair z.row.now z.texts.now in
    let same = measured (bytes_of ls) z.out.now t.ensures.1 in
    lines_written ls z.out.now _ same z.asked t.result t.ensures.0 c.answer_of.result c.answer_of.ensures
    c.in_ok-answer_of.was u.result u.ensures.0 u.ensures.1
