use Rattle.std.proofs.Common.{◌≡◌}
use mathlib.Core.List.{foldl}
use Rattle.text_passes.specs.Build.{put, whole}
use Rattle.text_passes.specs.Passes.{fields_in}
use Rattle.text_passes.specs.Reader.{tokens_left}
use Rattle.text_passes.proofs.fields_in.Given as goal

abbrev pub invariant-loop-at : goal.invariant-loop-at
invariant-loop-at g l =
    (l.at-iterator.text.now ≡ l.text)
    × (whole g.row.PLACES (foldl (put g.row.PLACES) (l.all, l.field) (tokens_left l.at-iterator)) ≡ fields_in g.row.PLACES l.text)
