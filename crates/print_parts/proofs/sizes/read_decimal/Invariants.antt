use Rattle.print_parts.proofs.sizes.Digits.{Read}
use Rattle.print_parts.proofs.sizes.read_decimal.Given as goal

abbrev pub invariant-loop-b : goal.invariant-loop-b
invariant-loop-b l = Read l.most l.text l.b-index l.n
