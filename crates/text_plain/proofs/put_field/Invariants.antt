use Rattle.text_write.proofs.Rows.{terms}
use Rattle.text_plain.proofs.Rows.{PutsOn}
use Rattle.text_plain.proofs.put_field.Given as goal

abbrev pub invariant-loop-t : goal.invariant-loop-t
invariant-loop-t g l = PutsOn terms l.others l.initial.page l.t-index l.page
