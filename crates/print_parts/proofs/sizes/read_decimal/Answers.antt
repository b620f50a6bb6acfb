use Rattle.std.proofs.Common.{◌≡◌, true, get_or, sym, rules}
use Rattle.print_parts.specs.sizes.Sizes.{is_digit}
use Rattle.print_parts.proofs.sizes.Digits.{digit_over}
use Rattle.print_parts.proofs.sizes.read_decimal.Goals as goal

pub returns-then-limit-n : goal.returns-then-limit-n
returns-then-limit-n c =
    let z = c.args in
    let L = c.loop-b in
    let digit : is_digit (get_or z.text.now L.b-index 0) ≡ true = search rules in
    sym (digit_over z.most z.text.now L.b-index L.n L.invariant c.loop-b-test.true digit c.if-limit-n.true)
