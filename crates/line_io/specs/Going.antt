-- Going through the lines.
use Rattle.std.specs.Prelude.{Bool, true, false, cond, not}
use Rattle.line_io.specs.declared.State.{State}
use Rattle.line_io.specs.Taking.{no_line}

-- nothing is read or written yet
abbrev pub nothing_yet : State
nothing_yet =
    record {
      input = record { at = 0; end = 0; ended = false; failed = false };
      output = record { used = 0; failed = false };
      line = no_line;
    }

-- whether there may be another line, and its answer can be written: a line that was looked for and not found is the end
abbrev pub is_open : State → Bool
is_open s = cond s.output.failed false (cond s.line.found true (not s.line.whole))
