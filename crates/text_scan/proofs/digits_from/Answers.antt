use Rattle.std.proofs.Common.{◌-◌, ◌<◌, List, ℕ, length, take, drop, get_or, arith}
use Rattle.text_scan.proofs.Runs.{digits_more}
use Rattle.text_grammar.specs.Bytes.{Digit}
use Rattle.text_scan.proofs.digits_from.Goals as goal

pub loop-i-preserved : goal.loop-i-preserved
loop-i-preserved c =
    let z : List ℕ = take (length c.args.text.now - c.args.at) (drop c.args.at c.args.text.now) in
    let i = c.loop-i.i in
    let inside : i < length z = omega arith in
    let digit : Digit (get_or z i 0) = c.if-not-is_ascii_digit.ensures.cases in
    rw c.min-v.ensures (digits_more z i c.loop-i.v c.loop-i.invariant inside digit)
