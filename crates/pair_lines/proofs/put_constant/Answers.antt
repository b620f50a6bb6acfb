use Rattle.std.proofs.Common.{ℕ, List, ◌≡◌, ◌+◌, ◌-◌, ◌*◌, length, take, drop, min, arith, sym, ap, ap₂, ◌∙◌}
use Rattle.base_lists.specs.Arrays.{part_of}
use Rattle.pair_row.specs.Row.{cell_bytes}
use Rattle.pair_lines.proofs.Puts.{puts_as}
use Rattle.pair_lines.proofs.Values.{part_within}
use Rattle.pair_lines.proofs.put_constant.Goals as goal

-- n bytes from a on, whose ends are brought within the text
cut : (texts : List ℕ) (a n m x y : ℕ) → n ≡ m → y ≡ min (a + n) (length texts) → x ≡ min a y → take (y - x) (drop x texts) ≡ take m (drop a texts)
cut texts a n m x y e t f =
    ap₂ (λ (i j : ℕ). take (j - i) (drop i texts)) (f ∙ ap (min a) t) t
    ∙ part_within texts a (a + n)
    ∙ sym (part_of a n texts)
    ∙ ap (λ (k : ℕ). take k (drop a texts)) e

pub put_bytes-requires : goal.put_bytes-requires
put_bytes-requires c =
    let z = c.args in
    let e = ap length (cut z.texts.now (cell_bytes * z.c + 1) c.byte_at-n.result _ c.min-from.result c.min-to.result c.byte_at-n.ensures c.min-to.ensures
    c.min-from.ensures) in
    omega (arith, e, c.requires)

pub returns : goal.returns
returns c =
    let z = c.args in
    puts_as z.at z.out.now (cut z.texts.now (cell_bytes * z.c + 1) c.byte_at-n.result _ c.min-from.result c.min-to.result c.byte_at-n.ensures c.min-to.ensures
    c.min-from.ensures) c.put_bytes.ensures
