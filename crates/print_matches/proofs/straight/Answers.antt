use native.Mathlib.Omega.{arith}
use Rattle.text_write.proofs.pieces.Pieces.{front_written}
use Rattle.print_matches.specs.Matches.{match_answer}
use Rattle.print_matches.proofs.Lengths.{answer_short}
use borrow.Author.Rules.{rules}
use Rattle.print_matches.proofs.straight.Goals as goal

pub returns : goal.returns
returns c =
    let z = c.args in
    let short = answer_short z.k z.line.now (search rules) in
    front_written (match_answer z.k z.line.now) z.out.now (omega (arith, short, c.requires)) (search rules)
