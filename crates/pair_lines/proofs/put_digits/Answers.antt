use Rattle.std.proofs.Common.{[], ◌∷◌, ◌++◌, ◌+◌, ◌/◌, ◌%◌, length, sym, ap, arith}
use Rattle.pair_lines.proofs.Puts.{puts_as, puts_next, digits_three}
use Rattle.pair_lines.proofs.put_digits.Goals as goal

pub put_byte-requires-2 : goal.put_byte-requires-2
put_byte-requires-2 c =
    let three = digits_three c.args.n c.if-n-lt100.false (omega (arith, c.ranges.n)) in
    omega (arith, c.requires, ap length three, c.put_byte-p-2.ensures.0, c.put_byte-q.ensures.0)

pub returns : goal.returns
returns c =
    let z = c.args in
    let a = (48 + z.n / 100) ∷ [] in
    let b = (48 + z.n / 10 % 10) ∷ [] in
    puts_as z.at z.out.now (sym (digits_three z.n c.if-n-lt100.false (omega (arith, c.ranges.n))))
    (puts_next (a ++ b) ((48 + z.n % 10) ∷ []) z.at z.out.now (puts_next a b z.at z.out.now c.put_byte-p-2.ensures c.put_byte-q.ensures) c.put_byte-2.ensures)
