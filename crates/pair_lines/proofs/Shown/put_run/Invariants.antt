use Rattle.std.proofs.Common.{take}
use Rattle.math_codes.specs.Lines.{colon_texts}
use Rattle.pair_row.specs.Row.{table_in, text_in}
use Rattle.pair_lines.specs.Lines.{Puts}
use Rattle.pair_lines.proofs.Shown.put_run.Given as goal

abbrev pub invariant-loop-c : goal.invariant-loop-c
invariant-loop-c l = Puts (colon_texts (table_in l.self.row.now) (text_in l.self.row.now l.self.texts.now) l.self.numbers.now (take l.c-index l.others)) l.initial.q l.initial.out l.q l.out
