use borrow.Author.Rules.{rules}
use Rattle.text_grammar.specs.Ascii.{ascii, newline}
use Rattle.text_write.proofs.pieces.Pieces.{on_three, on_as}
use Rattle.print_texts.specs.Verdicts.{rule_said}
use Rattle.print_texts.proofs.Verdicts.{rule_pieces}
use Rattle.print_texts.proofs.put_rule_answer.Goals as goal

pub returns : goal.returns
returns c =
    let z = c.args in
    let R = c.read_rule-read in
    on_as (on_three c.put_bytes.ensures c.put_rule_read.ensures c.put_newline.ensures) (rule_pieces z.line.now R.result R.ensures)
