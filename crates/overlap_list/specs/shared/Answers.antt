-- What is answered where it is asked whether two rules overlap.
use Rattle.std.specs.Prelude.{◌≡◌, List, ℕ}
use Rattle.text_grammar.specs.rules.Read.{read_rule}
use Rattle.text_refusals.specs.verdicts.Verdicts.{verdict_of}
use Rattle.text_read.specs.Answers.{left_said}
use Rattle.overlap_spec.specs.Overlaps.{overlapping}
use Rattle.overlap_list.specs.declared.shared.TextsOverlap.{TextsOverlap}

-- WHAT IS PROMISED of the texts t and u: how each is read, and whether the left sides of the rules that they say overlap
pub record TextsMeet (t u : List ℕ) (r : TextsOverlap) : Type 0 where
  pub left : r.left ≡ verdict_of (read_rule t)
  pub right : r.right ≡ verdict_of (read_rule u)
  pub overlap : r.overlap ≡ overlapping (left_said (read_rule t)) (left_said (read_rule u))
