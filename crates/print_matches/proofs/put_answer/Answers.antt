use Rattle.text_write.proofs.pieces.Pieces.{on_three}
use Rattle.print_matches.specs.Matches.{match_answer}
use Rattle.print_matches.proofs.put_answer.Goals as goal

pub returns : goal.returns
unfolding match_answer
returns c = on_three c.put_title.ensures c.put_line.ensures c.put_bytes.ensures
