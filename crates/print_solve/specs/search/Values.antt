-- The same, of two fields as values, in a row and a room of no more than there is.
use Rattle.std.specs.Prelude.{List, ℕ, min}
use Rattle.search_row.specs.own.Sizes.{most_records}
use Rattle.text_values.specs.Values.{Field}
use Rattle.text_accepted.specs.Accepted.{counted_field}
use Rattle.search_spec.specs.Answers.{lines_for}
use Rattle.print_solve.specs.search.Found.{most_bytes, found_text}

abbrev pub searched_text : Field → Field → ℕ → ℕ → List ℕ
searched_text left right row room = found_text (min room most_bytes) (lines_for (min row most_records) (counted_field left) (counted_field right))
