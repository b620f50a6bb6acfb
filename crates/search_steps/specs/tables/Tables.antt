-- The tables of two fields as code makes them. `tables_hold` of proofs/ says that they are those of the two rules.
use Rattle.std.specs.Prelude.{ℕ, true, false, List}
use Rattle.text_grammar.specs.Plain.{plain}
use Rattle.text_values.specs.Values.{Field}
use Rattle.text_accepted.specs.Accepted.{counted_field}
use Rattle.pair_table.specs.Notes.{blank_rows}
use Rattle.text_passes.specs.Notes.{noted_in}
use Rattle.search_steps.specs.declared.tables.Tables.{Tables}

-- a field's plain text, as that of a rule
abbrev pub text_of : Field → List ℕ
text_of f = plain (counted_field f)

-- both noted, in rows that hold nothing
abbrev pub rows_in : Field → Field → List ℕ × List ℕ
rows_in f g = let x = noted_in false (text_of f) blank_rows.0 blank_rows.1 in noted_in true (text_of g) x.0 x.1

abbrev pub tables_of : Field → Field → Tables
tables_of f g = record { row = (rows_in f g).0; texts = (rows_in f g).1 }
