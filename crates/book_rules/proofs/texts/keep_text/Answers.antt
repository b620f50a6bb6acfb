use mathlib.Core.Path.{refl, sym, ◌∙◌, ap}
use mathlib.Core.List.{List, ◌++◌}
use lib.Seq.{take_all, take-length}
use Prim.Native.Nat.{ℕ, ◌*◌, ◌-◌, ◌≤◌}
use native.Mathlib.Omega.{arith}
use lib.ListN.{length, take, drop, length-take, length-drop}
use Rattle.base_limits.specs.Limits.{longest_rule}
use Rattle.text_write.proofs.pieces.Pieces.{copied}
use Rattle.text_write.proofs.pieces.Stored.{store_part}
use Rattle.book_rules.proofs.texts.Keeping.{room_in}
use Rattle.book_rules.proofs.texts.keep_text.Goals as goal

pub returns : goal.returns
returns c =
    let at = c.args.kept.n * longest_rule in
    let row = c.args.row.now in
    let room = (room_in (length row) c.args.kept.n c.requires.0).1 in
    let long = length-take (length row - at) (drop at row) in
    let back = length-drop at row in
    let t = c.args.text.now in
    let l = take (length row - at) (drop at row) in
    let fits : length t ≤ length l = omega (arith, c.requires.1) in (
      refl,
      store_part t row at at (omega arith)
          (copied t l fits (c.copy.ensures.bytes ∙ ap (λ (r : List ℕ). r ++ drop (length t) l) (take_all (length l) t fits ∙ sym (take-length t)))),
    )
