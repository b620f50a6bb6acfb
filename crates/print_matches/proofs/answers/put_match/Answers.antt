use Rattle.match_rules.specs.texts.Texts.{side_fields, slip_fields}
use Rattle.text_write.proofs.pieces.Pieces.{on_next, on_three, on_as}
use Rattle.print_matches.proofs.answers.Values.{said_no, said_yes}
use Rattle.print_matches.proofs.answers.put_match.Goals as goal

pub returns-then-not-m : goal.returns-then-not-m
returns-then-not-m c =
    let C = c.compare_texts-c in
    let z = c.args in
    on_as (on_next c.put_bytes.ensures c.put_number.ensures)
    (said_no (side_fields z.rule.now) (slip_fields z.slip.now) C.result C.ensures c.if-not-m.true)

pub returns : goal.returns
returns c =
    let C = c.compare_texts-c in
    let z = c.args in
    on_as (on_three c.put_bytes-2.ensures c.put_number-2.ensures c.put_values.ensures)
    (said_yes (side_fields z.rule.now) (slip_fields z.slip.now) C.result C.ensures c.if-not-m.false)
