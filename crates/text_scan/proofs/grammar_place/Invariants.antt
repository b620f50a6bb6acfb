use Rattle.text_scan.specs.Tables.{state_number}
use Rattle.text_scan.proofs.Places.{PlaceTo}
use Rattle.text_scan.proofs.grammar_place.Given as goal

abbrev pub invariant-loop-i : goal.invariant-loop-i
invariant-loop-i l = PlaceTo l.text l.i (state_number l.state)
