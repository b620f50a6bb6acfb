use Rattle.std.proofs.Common.{◌≡◌, length}
use mathlib.Core.List.{foldl}
use Rattle.text_passes.specs.Fields.{add_to, field_in}
use Rattle.text_passes.specs.Passes.{gone_through}
use Rattle.text_passes.specs.Reader.{tokens_left}
use Rattle.text_passes.proofs.field_in.Given as goal

abbrev pub invariant-loop-read : goal.invariant-loop-read
invariant-loop-read g l = (l.read.text.now ≡ gone_through l.text) × (foldl (add_to l.j) l.f (tokens_left l.read) ≡ field_in g.row.PLACES l.text l.j)

abbrev pub decreases-loop-read : goal.decreases-loop-read
decreases-loop-read g l = length (tokens_left l.read)
