use Rattle.std.proofs.Common.{◌≡◌, ℕ, List, replicate, ap, ◌∙◌}
use Rattle.base_limits.specs.Limits.{longest_side}
use Rattle.text_grammar.specs.Plain.{plain}
use Rattle.text_accepted.specs.Accepted.{counted_left}
use Rattle.text_values.specs.Values.{RuleSide}
use Rattle.text_write.proofs.pieces.Pieces.{written_long, written_count, written_front}
use Rattle.text_plain.proofs.Lengths.{plain_short}
use Rattle.text_passes.specs.Notes.{noted_in}
use Rattle.search_steps.proofs.tables.note_field.Goals as goal

pub slice_bounds-text-end : goal.slice_bounds-text-end
slice_bounds-text-end c =
    let v = c.one_field.result in
    written_long (plain (counted_left v)) (replicate longest_side 0) (plain_short v) c.size_of-n.ensures c.write_side.ensures

pub slice_bounds-note_side-end : goal.slice_bounds-note_side-end
slice_bounds-note_side-end c =
    let v = c.one_field.result in
    written_count (plain (counted_left v)) (replicate longest_side 0) (plain_short v) c.size_of-n.ensures
    c.write_side.ensures

pub returns : goal.returns
returns c =
    let z = c.args in
    let v = c.one_field in
    let text : _ ≡ _ =
    written_front (plain (counted_left v.result)) (replicate longest_side 0) (plain_short v.result) c.size_of-n.ensures
    c.write_side.ensures
    ∙ ap (λ (w : RuleSide). plain (counted_left w)) v.ensures in record {
      row_after = c.note_side.ensures.row_after ∙ ap (λ (t : List ℕ). (noted_in z.right t z.row.now z.texts.now).0) text;
      texts_after = c.note_side.ensures.texts_after ∙ ap (λ (t : List ℕ). (noted_in z.right t z.row.now z.texts.now).1) text;
    }
