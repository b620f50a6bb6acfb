use Prim.Native.Nat.{◌+◌, ◌-◌, ◌<◌}
use mathlib.Core.Path.{refl}
use native.Mathlib.Omega.{arith}
use Rattle.base_limits.specs.Limits.{most_list_bytes}
use Rattle.print_pairs.proofs.overlaps.Texts.{left_refused, right_refused, texts_put, texts_long}
use borrow.Author.Rules.{rules}
use Rattle.print_pairs.proofs.overlaps.put_read.Goals as goal

pub returns-in-Err : goal.returns-in-Err
returns-in-Err c =
    let a = c.args in
    let p = a.page.now in
    let n = p.at + most_list_bytes - p.at in
    let q = c.put_refused.ensures in
    let it = left_refused a.left.now a.right.now p.bytes.now p.at n (omega arith) c.requires
    c.list_texts-said.ensures c.in-Err.x.reason c.in-Err.x.place (search rules) c.in-Err.is q.placed in
    record { placed = record { same_bytes = q.same_bytes; placed = it.0 }; right_len_bound = it.1 }

pub returns-in-Err-r : goal.returns-in-Err-r
returns-in-Err-r c =
    let a = c.args in
    let p = a.page.now in
    let n = p.at + most_list_bytes - p.at in
    let q = c.put_refused-in-Err-r.ensures in
    let it = right_refused a.left.now a.right.now p.bytes.now p.at n (omega arith) c.requires
    c.list_texts-said.ensures c.in-Err-r.x.reason c.in-Err-r.x.place (search rules) c.in_default.is c.in-Err-r.is q.placed in
    record { placed = record { same_bytes = q.same_bytes; placed = it.0 }; right_len_bound = it.1 }

pub returns-in-Ok : goal.returns-in-Ok
returns-in-Ok c =
    let a = c.args in
    let p = a.page.now in
    let n = p.at + most_list_bytes - p.at in
    let it = texts_put a.left.now a.right.now p.bytes.now p.at n (omega arith) c.requires
    c.list_texts-said.ensures c.in_default.is c.in_default-r.is _ c.in-Ok.is in
    record { placed = record { same_bytes = refl; placed = it.0 }; right_len_bound = it.1 }

pub returns-in-Err-listed : goal.returns-in-Err-listed
returns-in-Err-listed c =
    let small : c.in-Err-listed.small.counts.bytes < 18446744073709551616 = search rules in
    let a = c.args in
    let p = a.page.now in
    let n = p.at + most_list_bytes - p.at in
    let q = c.put_title.ensures in
    let it = texts_long a.left.now a.right.now p.bytes.now p.at n (omega arith) c.requires
    c.list_texts-said.ensures c.in_default.is c.in_default-r.is _ c.in-Err-listed.is small q.placed in
    record { placed = record { same_bytes = q.same_bytes; placed = it.0 }; right_len_bound = it.1 }
