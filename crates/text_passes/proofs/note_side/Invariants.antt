use Rattle.std.proofs.Common.{◌≡◌}
use mathlib.Core.List.{foldl}
use Rattle.pair_table.specs.Notes.{note_token}
use Rattle.text_passes.specs.Fields.{last_field}
use Rattle.text_passes.specs.Notes.{noted_in}
use Rattle.text_passes.specs.Reader.{tokens_left}
use Rattle.text_passes.proofs.Loops.{last_of}
use Rattle.text_passes.proofs.note_side.Given as goal

abbrev pub invariant-loop-at : goal.invariant-loop-at
invariant-loop-at l =
    (foldl last_field l.n (tokens_left l.at-iterator) ≡ last_of l.text)
    × (foldl (note_token l.right l.text) (l.row, l.texts) (tokens_left l.at-iterator) ≡ noted_in l.right l.text l.initial.row l.initial.texts)
