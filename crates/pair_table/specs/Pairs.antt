-- What the row and the constants' bytes say of two rules.
use Rattle.std.specs.Prelude.{◌≡◌, true, false, List, ℕ, ◌*◌, ◌≤◌, length, get_or}
use Rattle.base_limits.specs.Limits.{longest_string, field_places, rule_places}
use Rattle.base_lists.specs.Seqs.{tabulate}
use Rattle.text_grammar.specs.Terms.{OurTerm}
use Rattle.math_overlaps.specs.Shapes.{left, right}
use Rattle.math_codes.specs.Lines.{OurTables}
use Rattle.math_codes.specs.Whole.{spots_of}
use Rattle.math_codes.specs.Index.{Indexes, Tops}
use Rattle.pair_row.specs.Row.{cell_bytes, table_in, text_in, spot_in, index_in, top_in}

-- THE TABLES of the pair r₁, r₂ stand in the row and in the texts
pub record PairIn (r₁ r₂ : List (List OurTerm)) (row texts : List ℕ) : Type 0 where
  -- codes, types and plain texts by place
  pub tables : OurTables r₁ r₂ (table_in row) (text_in row texts)
  -- no constant has more bytes than its cell
  pub bytes_few : (c : ℕ) → get_or texts (cell_bytes * c) 0 ≤ longest_string
  -- the fields as numbers, the right rule's behind the left one's places
  pub left_shapes : tabulate (length r₁) (spot_in row false) ≡ spots_of field_places 0 r₁
  pub right_shapes : tabulate (length r₂) (spot_in row true) ≡ spots_of field_places rule_places r₂
  -- where each rule's variables stand
  pub left_index : Indexes r₁ r₂ left r₁ (index_in row false)
  pub right_index : Indexes r₁ r₂ right r₂ (index_in row true)
  -- bounds on their numbers
  pub left_tops : Tops r₁ (top_in row false)
  pub right_tops : Tops r₂ (top_in row true)
