use Rattle.text_scan.proofs.Runs.{DigitsTo}
use Rattle.text_scan.proofs.digits_from.Given as goal

abbrev pub invariant-loop-i : goal.invariant-loop-i
invariant-loop-i l = DigitsTo l.b-items l.i l.v
