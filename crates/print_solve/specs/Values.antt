-- The same texts, from values: of fields as reading gives them, and of what stands behind the parts that were read.
use Rattle.std.specs.Prelude.{cond, List, ◌++◌, ℕ, Some}
use Rattle.search_row.specs.own.Sizes.{most_records}
use Rattle.text_grammar.specs.Ascii.{ascii, newline}
use Rattle.text_grammar.specs.Terms.{OurFields}
use Rattle.text_grammar.specs.rules.Read.{read_rule}
use Rattle.text_values.specs.Values.{Field}
use Rattle.text_accepted.specs.Accepted.{counted_field}
use Rattle.print_parts.specs.sizes.Sizes.{size_of}
use Rattle.print_solve.specs.search.Found.{most_bytes}
use Rattle.print_solve.specs.Solve.{has_tab, part, behind, field_in, search_text}

-- two fields with a row, and the part that says the room
abbrev pub said_room : Field → Field → ℕ → List ℕ → List ℕ
said_room left right row room = search_text (counted_field left) (counted_field right) (Some row) (size_of most_bytes room)

-- with the parts that say both
abbrev pub said_row : Field → Field → List ℕ → List ℕ → List ℕ
said_row left right row room = search_text (counted_field left) (counted_field right) (size_of most_records row) (size_of most_bytes room)

-- with all that stands behind their parts
abbrev pub sizes_text : OurFields → OurFields → List ℕ → List ℕ
sizes_text left right t =
    cond (has_tab (behind t)) (ascii "bad line" ++ newline)
    (search_text left right (size_of most_records (part t)) (size_of most_bytes (behind t)))

abbrev pub said_sizes : Field → Field → List ℕ → List ℕ
said_sizes left right t = sizes_text (counted_field left) (counted_field right) t

-- the left field, with all that stands behind its part
abbrev pub right_text : OurFields → List ℕ → List ℕ
right_text left t = sizes_text left (field_in (read_rule (part t))) (behind t)

abbrev pub said_right : Field → List ℕ → List ℕ
said_right left t = right_text (counted_field left) t
