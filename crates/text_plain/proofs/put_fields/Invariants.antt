use Rattle.text_plain.proofs.Rows.{fields, PutsOn}
use Rattle.text_plain.proofs.put_fields.Given as goal

abbrev pub invariant-loop-f : goal.invariant-loop-f
invariant-loop-f g l = PutsOn fields l.others l.initial.page l.f-index l.page
