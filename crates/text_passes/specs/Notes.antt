-- The terms of a rule's side noted in the tables of a pair. A text that is too long is not read.
use Rattle.std.specs.Prelude.{Bool, cond, List, ℕ}
use Rattle.pair_table.specs.Notes.{side_noted}
use Rattle.text_passes.specs.Passes.{too_long}

abbrev pub noted_in : Bool → List ℕ → List ℕ → List ℕ → List ℕ × List ℕ
noted_in right t row texts = cond (too_long t) (row, texts) (side_noted right t (row, texts))
