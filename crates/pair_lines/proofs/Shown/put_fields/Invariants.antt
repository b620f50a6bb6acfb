use lib.ListN.{take}
use Rattle.math_codes.specs.Lines.{fields_text}
use Rattle.pair_row.specs.Row.{table_in, text_in}
use Rattle.pair_lines.specs.Lines.{Puts, items_in}
use Rattle.pair_lines.proofs.Shown.put_fields.Given as goal

abbrev pub invariant-loop-j : goal.invariant-loop-j
invariant-loop-j l =
    Puts (fields_text (table_in l.self.row.now) (text_in l.self.row.now l.self.texts.now) l.self.numbers.now (take l.j (items_in l.self.row.now l.fields l.c l.atoms))) 0 l.initial.out l.q l.out
