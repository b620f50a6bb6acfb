use Rattle.overlap_list.proofs.Counts.{all_requires, all_listed}
use Rattle.overlap_list.proofs.all_lines.Goals as goal

pub next_field-requires : goal.next_field-requires
next_field-requires c =
    let z = c.args in
    let n = c.no_choice in
    let s = c.start in
    let t = c.no_counts-in-Some in
    all_requires z.pair z.row.now z.texts.now c.in-Some.n c.in-Some.is n.result s.result t.result
    n.ensures s.ensures t.ensures c.requires

pub returns-in-Some : goal.returns-in-Some
returns-in-Some c =
    let z = c.args in
    let n = c.no_choice in
    let s = c.start in
    let t = c.no_counts-in-Some in
    let u = c.next_field in
    all_listed z.pair z.row.now z.texts.now c.in-Some.n c.in-Some.is n.result s.result t.result
    n.ensures s.ensures t.ensures u.result z.out.now u.new.out u.ensures.stores
