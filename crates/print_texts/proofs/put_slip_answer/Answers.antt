use borrow.Author.Rules.{rules}
use Rattle.text_grammar.specs.Ascii.{ascii, newline}
use Rattle.text_write.proofs.pieces.Pieces.{on_three, on_as}
use Rattle.print_texts.specs.Verdicts.{verdict_text}
use Rattle.print_texts.proofs.Verdicts.{slip_pieces}
use Rattle.print_texts.proofs.put_slip_answer.Goals as goal

pub returns : goal.returns
returns c =
    let z = c.args in
    let R = c.read_slip-read in
    on_as (on_three c.put_bytes.ensures c.put_slip_verdict.ensures c.put_newline.ensures) (slip_pieces z.line.now R.result R.ensures)
