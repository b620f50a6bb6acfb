-- A turn of the search: what it makes of the state and of the one record that it reads.
-- The row is a ring of `cap` records: `count` problems wait from `head` on, and `tail` is the place behind them.
-- A turn reads the record at `at` and writes that record.
--     head_turn     where no problem is held: the record at the head leaves the row
--     rule_turn     where one is held: its next child is put in at the tail
--     decided      a turn
-- Assumes nothing.
use Rattle.std.specs.Prelude.{ℕ, ◌+◌, ◌-◌, ◌%◌, ◌^◌, Bool, true, false, cond, not, ◌==◌, nat_lt}
use Rattle.math_search.specs.Rules.{rule_count}
use Rattle.math_codes.specs.Tables.{Table}
use Rattle.pair_row.specs.Row.{table_in}
use Rattle.search_problems.specs.declared.Problem.{Problem}
use Rattle.search_problems.specs.Values.{blank_problem}
use Rattle.search_problems.specs.Steps.{fails_of, child_record, next_rule}
use Rattle.search_steps.specs.declared.turns.State.{State}

-- what a turn makes of the record that it reads, and the state after it
pub record Turn : Type 0 where
  pub problem : Problem
  pub state : State

-- ---- what a turn reads off the state

-- `rule` is the number of the next rule that gives the held problem a child, and the number of the rules where none is left or no problem
-- is held
abbrev pub trying : ℕ → Bool
trying rule = nat_lt rule rule_count

-- the next place, round the end
abbrev pub next_place : ℕ → ℕ → ℕ
next_place i cap = cond (nat_lt i (cap - 1)) (i + 1) 0

-- the place that the next turn reads: the tail while children are put in, else the head
abbrev pub aim : ℕ → ℕ → ℕ → ℕ
aim rule head tail = cond (trying rule) tail head

-- a sum of counts, in 64 bits
abbrev pub plus : ℕ → ℕ → ℕ
plus a b = (a + b) % 2 ^ 64

-- document 01: "Failure rules come first: a problem that meets one gives no child."
abbrev pub worked : Table → Problem → Bool
worked T p = cond p.«open» (not (fails_of T p)) false

-- the first rule that gives a problem a child
abbrev pub first_rule : Table → Problem → ℕ
first_rule T p = cond (worked T p) (next_rule T p 0) rule_count

-- ---- turns where no problem is held

-- nothing waits
abbrev pub stopped : State → State
stopped s = record {
  busy = false;
  writing = s.writing;
  refused = s.refused;
  rule = s.rule;
  at = s.at;
  head = s.head;
  tail = s.tail;
  count = s.count;
  cap = s.cap;
  lines = s.lines;
  bytes = s.bytes;
  held = s.held;
  row = s.row;
  texts = s.texts;
}

-- the problem p leaves the row: a solved one is an answer, whose line has n bytes; one that does not fail is held, and its children are
-- put in
abbrev pub taken : State → Problem → ℕ → State
taken s p n = record {
  busy = true;
  writing = s.writing;
  refused = s.refused;
  rule = first_rule (table_in s.row) p;
  at = aim (first_rule (table_in s.row) p) (next_place s.head s.cap) s.tail;
  head = next_place s.head s.cap;
  tail = s.tail;
  count = s.count - 1;
  cap = s.cap;
  lines = cond p.«open» s.lines (plus s.lines 1);
  bytes = cond p.«open» s.bytes (plus s.bytes n);
  held = p;
  row = s.row;
  texts = s.texts;
}

abbrev pub head_turn : State → Problem → ℕ → Turn
head_turn s p n =
    cond (s.count == 0) (record { problem = p; state = stopped s }) (record { problem = blank_problem; state = taken s p n })

-- ---- turns where a problem is held

-- a child stands at the tail
abbrev pub joined : State → State
joined s = record {
  busy = true;
  writing = s.writing;
  refused = s.refused;
  rule = next_rule (table_in s.row) s.held (s.rule + 1);
  at = aim (next_rule (table_in s.row) s.held (s.rule + 1)) s.head (next_place s.tail s.cap);
  head = s.head;
  tail = next_place s.tail s.cap;
  count = s.count + 1;
  cap = s.cap;
  lines = s.lines;
  bytes = s.bytes;
  held = s.held;
  row = s.row;
  texts = s.texts;
}

-- document 01: "9: a problem is to be put in while as many wait as the row has records; .. both counts are 0"
abbrev pub full : State → State
full s = record {
  busy = false;
  writing = s.writing;
  refused = true;
  rule = s.rule;
  at = s.at;
  head = s.head;
  tail = s.tail;
  count = s.count;
  cap = s.cap;
  lines = 0;
  bytes = 0;
  held = s.held;
  row = s.row;
  texts = s.texts;
}

-- a child q is to be put in
abbrev pub child_turn : State → Problem → Problem → Turn
child_turn s p q = cond (nat_lt s.count s.cap) (record { problem = q; state = joined s }) (record { problem = p; state = full s })

abbrev pub rule_turn : State → Problem → Turn
rule_turn s p = child_turn s p (child_record (table_in s.row) s.held s.rule)

-- ---- a turn

-- the line of an answer has n bytes
abbrev pub decided : State → Problem → ℕ → Turn
decided s p n = cond (trying s.rule) (rule_turn s p) (head_turn s p n)
