-- The states that the search's two runs start in.
--     begun     the run that counts.        again     the run that writes
-- Assumes nothing.
use Rattle.std.specs.Prelude.{ℕ, true, false, cond, ◌&&◌, ◌==◌, nat_le, nat_lt}
use Rattle.math_search.specs.Rules.{rule_count}
use Rattle.text_values.specs.Values.{Field}
use Rattle.search_steps.specs.tables.Tables.{rows_in}
use Rattle.search_problems.specs.Roots.{root_value}
use Rattle.text_accepted.specs.Accepted.{accepted_field}
use Rattle.search_steps.specs.declared.turns.State.{State}
use Rattle.search_steps.specs.turns.Turns.{next_place}

-- the state that the search of two fields starts in: it counts. It is not busy where a field stands on no accepted rule's left side;
-- and document 01: "a row of none refuses every pair of accepted fields"
abbrev pub begun : Field → Field → ℕ → State
begun f g cap = record {
  busy = cond (accepted_field f && accepted_field g) (nat_lt 0 cap) false;
  writing = false;
  refused = cond (accepted_field f && accepted_field g) (cap == 0) false;
  rule = rule_count;
  at = 0;
  head = 0;
  tail = next_place 0 cap;
  count = 1;
  cap = cap;
  lines = 0;
  bytes = 0;
  held = root_value (rows_in f g).0;
  row = (rows_in f g).0;
  texts = (rows_in f g).1;
}

-- the state s once more, after the count ended in t: the search writes its lines,
-- and does nothing where it was refused or `room` bytes are too few
abbrev pub again : State → State → ℕ → State
again s t room = record {
  busy = cond t.refused false (cond (nat_le t.bytes room) s.busy false);
  writing = true;
  refused = s.refused;
  rule = s.rule;
  at = s.at;
  head = s.head;
  tail = s.tail;
  count = s.count;
  cap = s.cap;
  lines = s.lines;
  bytes = s.bytes;
  held = s.held;
  row = s.row;
  texts = s.texts;
}
