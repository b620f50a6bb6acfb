use Rattle.text_grammar.specs.Ascii.{ascii}
use Rattle.text_write.proofs.pieces.Pieces.{on_as}
use borrow.Author.Rules.{rules}
use Rattle.print_parts.proofs.Verdicts.{text_accepted, text_refused}
use Rattle.print_carry.proofs.put_slip_read.Goals as goal

pub returns-in-Err : goal.returns-in-Err
returns-in-Err c =
    let z = c.args in
    let e = c.in-Err.is in
    on_as c.put_refusal.ensures (text_refused (ascii "refused slip ") z.read.verdict _ _ _ e)
