use Rattle.std.proofs.Common.{◌≡◌}
use mathlib.Core.List.{foldl}
use Rattle.text_passes.specs.Fields.{last_field}
use Rattle.text_passes.specs.Reader.{tokens_left}
use Rattle.text_passes.proofs.Loops.{last_of}
use Rattle.text_passes.proofs.field_count.Given as goal

abbrev pub invariant-loop-at : goal.invariant-loop-at
invariant-loop-at l = foldl last_field l.n (tokens_left l.at-iterator) ≡ last_of l.text
