use Rattle.std.proofs.Common.{[], ◌∷◌, take, get_or, arith, ap, sym}
use Rattle.std.proofs.Math.Seq.{take_all}
use Rattle.math_codes.specs.Lines.{item_text, colon_texts, items_text}
use Rattle.pair_row.specs.Row.{table_in, text_in}
use Rattle.pair_lines.proofs.Puts.{puts_as, puts_next}
use Rattle.pair_lines.proofs.Texts.{colons_one, colons_room}
use Rattle.pair_lines.proofs.Shown.put_run.Goals as goal

pub put_byte-p-requires : goal.put_byte-p-requires
put_byte-p-requires c =
    let z = c.args in
    let S = c.in-Some in
    let room = colons_room (table_in z.self.now.row.now) (text_in z.self.now.row.now z.self.now.texts.now) z.self.now.numbers.now z.run.now S.first.now S.others.now S.ensures.cases.0
    c.loop-c.c-index c.loop-c-test.true in
    omega (arith, c.requires, c.put_item-q.ensures.0, c.loop-c.invariant.0, room)

pub put_item-q-requires-in-loop-c : goal.put_item-q-requires-in-loop-c
put_item-q-requires-in-loop-c c =
    let z = c.args in
    let S = c.in-Some in
    let room = colons_room (table_in z.self.now.row.now) (text_in z.self.now.row.now z.self.now.texts.now) z.self.now.numbers.now z.run.now S.first.now S.others.now S.ensures.cases.0
    c.loop-c.c-index c.loop-c-test.true in
    omega (arith, c.requires, c.put_item-q.ensures.0, c.loop-c.invariant.0, c.put_byte-p.ensures.0, room)

pub loop-c-preserved : goal.loop-c-preserved
loop-c-preserved c =
    let z = c.args in
    let T = table_in z.self.now.row.now in
    let t = text_in z.self.now.row.now z.self.now.texts.now in
    let ns = z.self.now.numbers.now in
    let cs = c.in-Some.others.now in
    let L = c.loop-c in
    let i = L.c-index in
    let x = item_text T t ns (get_or cs i 0) in
    puts_as _ _ (colons_one T t ns cs i c.loop-c-test.true)
    (puts_next (colon_texts T t ns (take i cs)) (58 ∷ x) c.put_item-q.result c.put_item-q.new.out L.invariant
    (puts_next (58 ∷ []) x L.q L.out c.put_byte-p.ensures c.put_item-q-in-loop-c.ensures))

pub returns : goal.returns
returns c =
    let z = c.args in
    let T = table_in z.self.now.row.now in
    let t = text_in z.self.now.row.now z.self.now.texts.now in
    let ns = z.self.now.numbers.now in
    let S = c.in-Some in
    let cs = S.others.now in
    let L = c.loop-c in
    let rest = puts_as _ _ (ap (colon_texts T t ns) (take_all L.c-index cs c.loop-c-test.false)) L.invariant in
    puts_as z.at z.out.now (ap (items_text T t ns) (sym S.ensures.cases.0))
    (puts_next (item_text T t ns S.first.now) (colon_texts T t ns cs) z.at z.out.now c.put_item-q.ensures rest)
