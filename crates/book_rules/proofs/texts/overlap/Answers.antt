use mathlib.Core.Path.{◌∙◌, ap₂}
use mathlib.Core.List.{List}
use Prim.Native.Nat.{ℕ}
use Rattle.overlap_spec.specs.Overlaps.{overlapping}
use Rattle.book_rules.specs.texts.Keeping.{said_by}
use Rattle.book_rules.proofs.texts.Keeping.{text_part, meet_is}
use Rattle.book_rules.proofs.texts.overlap.Goals as goal

pub returns : goal.returns
returns c =
    let kept = c.args.kept in
    let row = c.args.row.now in
    c.texts_overlap.ensures.overlap
    ∙ ap₂ (λ (t u : List ℕ). overlapping (said_by t) (said_by u)) (text_part kept row c.args.i c.min.result c.min.ensures)
    (text_part kept row c.args.j c.min-2.result c.min-2.ensures)
    ∙ meet_is kept row c.requires.0 c.args.i c.args.j c.requires.1 c.requires.2
