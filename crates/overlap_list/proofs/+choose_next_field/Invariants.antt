-- What is left to list makes what was to list; and the fields that are left, twice, with one more where a field's candidates are walked.
use Rattle.std.proofs.Common.{◌+◌, ◌-◌, ◌*◌}
use Rattle.overlap_list.proofs.Laws.{Choosing}
use Rattle.overlap_list.proofs.+choose_next_field.Given as goal

abbrev pub decreases-choose : goal.decreases-choose
decreases-choose l = 2 * (l.fields - (l.j + 1)) + 1

abbrev pub decreases-next_field : goal.decreases-next_field
decreases-next_field l = 2 * (l.fields - l.j)

abbrev pub invariant-choose-loop-k : goal.invariant-choose-loop-k
invariant-choose-loop-k l = Choosing l.row l.texts l.fields l.j l.ch l.st l.initial.u l.initial.out l.s l.k l.u l.out
