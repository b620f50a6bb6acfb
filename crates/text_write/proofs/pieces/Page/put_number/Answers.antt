use mathlib.Core.Path.{sym}
use lib.ListN.{replicate}
use borrow.Author.Rules.{rules}
use Rattle.text_grammar.specs.Numbers.{digits_of}
use Rattle.text_write.proofs.Digits.{digits_64}
use Rattle.text_write.proofs.pieces.Pieces.{written_long, written_count, written_front, on_as}
use Rattle.text_write.proofs.pieces.Page.put_number.Goals as goal

pub slice_bounds-digits-end : goal.slice_bounds-digits-end
slice_bounds-digits-end c =
    let W = c.write_number in
    written_long (digits_of c.args.n) (replicate 20 0) (digits_64 _ (search rules)) c.size_of-size.ensures W.ensures

pub slice_bounds-put_bytes-end : goal.slice_bounds-put_bytes-end
slice_bounds-put_bytes-end c =
    let W = c.write_number in
    written_count (digits_of c.args.n) (replicate 20 0) (digits_64 _ (search rules)) c.size_of-size.ensures W.ensures

pub returns : goal.returns
returns c =
    let W = c.write_number in
    let S = c.size_of-size in
    on_as c.put_bytes.ensures (sym (written_front (digits_of c.args.n) (replicate 20 0) (digits_64 _ (search rules)) S.ensures W.ensures))
