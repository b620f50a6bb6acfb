use Rattle.std.proofs.Common.{◌∷◌, [], ◌+◌, ◌∙◌, ℕ, suc, ap, arith, ◌≡◌, get_or, take, sym}
use Rattle.std.proofs.Math.Seq.{take-suc}
use Rattle.pair_lines.proofs.Puts.{puts_as, puts_next}
use Rattle.pair_lines.proofs.put_bytes.Goals as goal

pub loop-b-preserved : goal.loop-b-preserved
loop-b-preserved c =
    let z = c.args in
    let bs = z.bytes.now in
    let i = c.loop-b.b-index in
    puts_as z.at z.out.now (sym (take-suc bs i 0 c.loop-b-test.true) ∙ ap (λ (k : ℕ). take k bs) (let e : suc i ≡ i + 1 = omega arith in e))
    (puts_next (take i bs) (get_or bs i 0 ∷ []) z.at z.out.now c.loop-b.invariant c.put_byte-q.ensures)
