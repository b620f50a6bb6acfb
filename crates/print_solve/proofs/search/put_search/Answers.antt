use mathlib.Core.Path.{◌≡◌}
use Prim.Native.Nat.{min}
use Rattle.search_row.specs.own.Sizes.{most_records}
use Rattle.text_write.specs.pieces.Placed.{PlacedOn}
use Rattle.print_solve.specs.search.Found.{most_bytes, counts_text}
use Rattle.print_solve.proofs.search.Searches.{lines_put, lines_in_lem, lines_count, few_put, full_put}
use borrow.Author.Rules.{rules}
use Rattle.print_solve.proofs.search.put_search.Goals as goal

pub returns-in-Ok : goal.returns-in-Ok
returns-in-Ok c =
    let z = c.args in
    let T = c.room-text in
    let is-lent : c.min-lent.result ≡ min z.room most_bytes = search rules in
    let found = c.in-Ok.found in
    let it = lines_put z.left z.right (min z.row most_records) z.room c.min-lent.result T.result is-lent T.ensures.long c.search_in.ensures
    found.lines found.bytes (search rules) (search rules) c.in-Ok.is c.put_counts.ensures c.put_bytes.ensures in
    record { placed = it.0; room_len_bound = it.1 }

pub slice_bounds-text-end-in-Ok : goal.slice_bounds-text-end-in-Ok
slice_bounds-text-end-in-Ok c =
    let z = c.args in
    let T = c.room-text in
    let is-lent : c.min-lent.result ≡ min z.room most_bytes = search rules in
    let found = c.in-Ok.found in
    lines_in_lem z.left z.right (min z.row most_records) z.room c.min-lent.result T.result is-lent T.ensures.long c.search_in.ensures
    found.lines found.bytes c.in-Ok.is

pub slice_bounds-put_bytes-end : goal.slice_bounds-put_bytes-end
slice_bounds-put_bytes-end c =
    let z = c.args in
    let T = c.room-text in
    let is-lent : c.min-lent.result ≡ min z.room most_bytes = search rules in
    let found = c.in-Ok.found in
    lines_count z.left z.right (min z.row most_records) z.room c.min-lent.result T.result is-lent T.ensures.long c.search_in.ensures
    found.lines found.bytes c.in-Ok.is

pub returns-in-Err-TooSmall : goal.returns-in-Err-TooSmall
returns-in-Err-TooSmall c =
    let z = c.args in
    let T = c.room-text in
    let is-lent : c.min-lent.result ≡ min z.room most_bytes = search rules in
    let found = c.in-Err-TooSmall.found in
    let put : PlacedOn (counts_text 8 found.lines found.bytes) z.page.now c.put_counts-in-Err-TooSmall.new.page = search rules in
    let it = few_put z.left z.right (min z.row most_records) z.room c.min-lent.result T.result is-lent T.ensures.long c.search_in.ensures
    found.lines found.bytes (search rules) (search rules) (search rules) put in
    record { placed = it.0; room_len_bound = it.1 }

pub returns-in-Err-Full : goal.returns-in-Err-Full
returns-in-Err-Full c =
    let z = c.args in
    let T = c.room-text in
    let is-lent : c.min-lent.result ≡ min z.room most_bytes = search rules in
    let it = full_put z.left z.right (min z.row most_records) z.room c.min-lent.result T.result is-lent T.ensures.long c.search_in.ensures
    (search rules) c.put_counts-in-Err-Full.ensures in
    record { placed = it.0; room_len_bound = it.1 }
