use mathlib.Core.Path.{sym, ap}
use borrow.Author.Rules.{rules}
use Rattle.text_grammar.specs.Plain.{plain}
use Rattle.text_values.specs.Values.{view_slip}
use Rattle.text_write.proofs.pieces.Pieces.{on_as, on_next}
use Rattle.print_carry.specs.Values.{said_answer, said_carried}
use Rattle.print_carry.proofs.put_carried.Goals as goal

pub returns : goal.returns
returns c =
    let z = c.args in
    let C = c.carry_out-c in
    on_as (on_next c.put_words.ensures c.put_slip.ensures) (sym (ap said_carried C.ensures))
