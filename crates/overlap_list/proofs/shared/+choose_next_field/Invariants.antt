-- What was found or is left makes the answer; and the fields that are left, twice, with one more where a field's candidates are walked.
use Rattle.std.proofs.Common.{false, ◌+◌, ◌-◌, ◌*◌}
use Rattle.overlap_list.proofs.shared.Choices.{Seeking}
use Rattle.overlap_list.proofs.shared.+choose_next_field.Given as goal

abbrev pub decreases-choose : goal.decreases-choose
decreases-choose l = 2 * (l.fields - (l.j + 1)) + 1

abbrev pub decreases-next_field : goal.decreases-next_field
decreases-next_field l = 2 * (l.fields - l.j)

abbrev pub invariant-choose-loop-k : goal.invariant-choose-loop-k
invariant-choose-loop-k l = Seeking l.row l.fields l.j l.st l.s l.k false
