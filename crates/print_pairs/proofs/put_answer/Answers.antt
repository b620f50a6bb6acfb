use mathlib.Core.Path.{ap}
use native.Mathlib.Omega.{arith}
use lib.ListN.{length}
use lib.Seq.{length-sets}
use Rattle.text_write.proofs.pieces.Pieces.{on_next}
use Rattle.print_pairs.specs.Pairs.{title_text, pair_answer}
use Rattle.print_pairs.proofs.Lengths.{title_short, answer_short}
use borrow.Author.Rules.{rules}
use Rattle.print_pairs.proofs.put_answer.Goals as goal

pub put_line-requires : goal.put_line-requires
put_line-requires c =
    let z = c.args in
    let T = c.put_title.ensures.placed in
    omega (arith, title_short z.k (search rules), T.0, ap length T.1, length-sets z.page.now.bytes.now z.page.now.at (title_text z.k), c.requires)

pub returns : goal.returns
unfolding pair_answer
returns c =
    let z = c.args in
    let L = c.put_line.ensures in record {
      placed = on_next c.put_title.ensures L.placed;
      line_len_bound = answer_short z.k z.line.now (search rules) L.line_len_bound;
    }
