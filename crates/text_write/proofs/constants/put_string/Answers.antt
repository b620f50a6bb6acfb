use mathlib.Core.Path.{◌≡◌}
use Prim.Native.Nat.{◌+◌, ◌≤◌}
use native.Mathlib.Omega.{arith}
use lib.ListN.{length, take, set, length-set, length-take}
use borrow.Author.Rules.{rules}
use Rattle.base_limits.specs.Limits.{longest_string}
use Rattle.text_write.proofs.Terms.{quoted_length, put_quoted}
use Rattle.text_write.proofs.pieces.Pieces.{placed_room}
use Rattle.text_write.proofs.constants.put_string.Goals as goal

pub returns : goal.returns
returns c =
    let P = c.put_bytes-p in
    let k = c.args.k in
    let s = c.args.text in
    let l = c.args.out.now in
    let n = c.min-n.result in
    let long : length s ≡ longest_string = search rules in
    let room : c.args.at + 1 + length (take n s) ≤ length (set l c.args.at 34) =
    omega (arith, c.min-n.ensures, c.requires, quoted_length k s long, length-take n s, length-set l c.args.at 34) in
    let q = placed_room (take n s) (set l c.args.at 34) (c.args.at + 1) room P.ensures in
    put_quoted k s long n l c.args.at c.min-n.ensures q.0 q.1
