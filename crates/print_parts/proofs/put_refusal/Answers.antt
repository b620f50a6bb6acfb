use mathlib.Core.Path.{sym, ap}
use mathlib.Core.List.{◌++◌}
use Prim.Native.Nat.{ℕ}
use Rattle.text_write.specs.pieces.Refusals.{number_at}
use Rattle.text_write.proofs.pieces.Pieces.{on_next, on_as}
use Rattle.print_parts.proofs.put_refusal.Goals as goal

pub returns : goal.returns
returns c =
    let z = c.args in
    on_as (on_next c.put_bytes.ensures c.put_number_at.ensures) (ap (λ (n : ℕ). z.words.now ++ number_at n z.place) (sym c.number.ensures))
