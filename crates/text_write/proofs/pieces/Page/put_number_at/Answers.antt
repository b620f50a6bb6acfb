use Rattle.text_write.proofs.pieces.Pieces.{on_three}
use Rattle.text_grammar.specs.Numbers.{digits_of}
use Rattle.text_grammar.specs.Ascii.{ascii}
use Rattle.text_write.proofs.pieces.Page.put_number_at.Goals as goal

pub returns : goal.returns
returns c =
    let z = c.args in
    on_three {a = digits_of z.n} {b = ascii " at "} {c = digits_of z.place} c.put_number.ensures c.put_bytes.ensures c.put_number-2.ensures
