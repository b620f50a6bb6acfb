use Rattle.overlap_list.proofs.Texts.{texts_noted}
use Rattle.overlap_list.proofs.note_texts.Goals as goal

pub returns : goal.returns
returns c =
    let l = c.judge_left-l in
    let r = c.judge_left-r in
    let N = c.note_side-n in
    let M = c.note_side-m in
    texts_noted c.args.left.now c.args.right.now l.result r.result l.ensures r.ensures N.result M.result
    N.ensures.value M.ensures.value c.requires.0 c.requires.1 N.ensures.row_after N.ensures.texts_after M.ensures.row_after M.ensures.texts_after
    c.pair_of.result c.pair_of.ensures
