use mathlib.Core.Path.{sym, ◌∙◌}
use Rattle.text_grammar.specs.Ascii.{ascii}
use Rattle.text_write.proofs.pieces.Pieces.{on_as}
use Rattle.print_parts.proofs.Verdicts.{text_refused}
use Rattle.print_matches.proofs.put_slip.Goals as goal

pub returns-in-Err : goal.returns-in-Err
returns-in-Err c =
    let J = c.judge_slip-verdict in
    on_as c.put_refusal.ensures (text_refused (ascii "refused slip ") _ _ _ _ (sym J.ensures ∙ c.in-Err.is))
