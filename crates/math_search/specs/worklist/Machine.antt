-- The search as a machine that keeps the problems that wait, as records, in a list. A turn takes the first of them, or puts in one child of
-- the problem that is held.
-- It is the machine whose queue is a ring in a row, with the ring taken for the list of its records.
use Rattle.std.specs.Prelude.{◌≡◌, Bool, true, false, not, cond, List, [], ◌∷◌, ◌++◌, ℕ, ◌+◌, ◌%◌, ◌^◌, ltb, length}
use Rattle.math_search.specs.Rules.{rule_count}
use Rattle.math_search.specs.worklist.Next.{next_ok}

-- what the machine does with the records of problems
pub record Records : Type 1 where
  pub Rec : Type 0
  -- an equation is left; a failure rule applies to it
  pub is_open : Rec → Bool
  pub fails : Rec → Bool
  -- the child by the rule of a number, if it applies
  pub ok : Rec → ℕ → Bool
  pub child : Rec → ℕ → Rec
  -- the line of a solved one; a line put into the lent bytes at a place
  pub line : Rec → List ℕ
  pub store : List ℕ → ℕ → List ℕ → List ℕ

-- `rule`: the next rule that gives the held problem a child; `rule_count` where none is left, or no problem is held
pub record Work (R : Type 0) : Type 0 where
  pub busy : Bool
  pub refused : Bool
  pub rule : ℕ
  pub held : R
  pub waiting : List R
  pub lines : ℕ
  pub bytes : ℕ
  pub out : List ℕ

-- a sum of counts, in 64 bits
abbrev pub plus : ℕ → ℕ → ℕ
plus a b = (a + b) % 2 ^ 64

-- lines are written, or only counted; so many records have room
module _ (D : Records) (writing : Bool) (cap : ℕ) where
  open D use {Rec, is_open, fails, ok, child, line, store}

  -- a problem that is to be worked on: open, and no failure rule applies
  abbrev pub worked : Rec → Bool
  worked p = cond (is_open p) (not (fails p)) false

  abbrev pub stopped : Work Rec → Work Rec
  stopped w = record {
    busy = false;
    refused = w.refused;
    rule = w.rule;
    held = w.held;
    waiting = w.waiting;
    lines = w.lines;
    bytes = w.bytes;
    out = w.out;
  }

  -- p leaves the queue q: a solved one is an answer; one that does not fail is held
  abbrev pub taken : Work Rec → Rec → List Rec → Work Rec
  taken w p q = record {
    busy = true;
    refused = w.refused;
    rule = cond (worked p) (next_ok (ok p) 0) rule_count;
    held = p;
    waiting = q;
    lines = cond (is_open p) w.lines (plus w.lines 1);
    bytes = cond (is_open p) w.bytes (plus w.bytes (length (line p)));
    out = cond (is_open p) w.out (cond writing (store (line p) w.bytes w.out) w.out);
  }

  abbrev pub head_turn : Work Rec → List Rec → Work Rec
  head_turn w [] = stopped w
  head_turn w (p ∷ q) = taken w p q

  -- the child is put in
  abbrev pub joined : Work Rec → Rec → Work Rec
  joined w p = record {
    busy = true;
    refused = w.refused;
    rule = next_ok (ok w.held) (w.rule + 1);
    held = w.held;
    waiting = w.waiting ++ p ∷ [];
    lines = w.lines;
    bytes = w.bytes;
    out = w.out;
  }

  -- it has no room
  abbrev pub full : Work Rec → Work Rec
  full w = record { busy = false; refused = true; rule = w.rule; held = w.held; waiting = w.waiting; lines = 0; bytes = 0; out = w.out }

  abbrev pub child_turn : Work Rec → Rec → Work Rec
  child_turn w p = cond (ltb (length w.waiting) cap) (joined w p) (full w)

  abbrev pub rule_turn : Work Rec → Work Rec
  rule_turn w = child_turn w (child w.held w.rule)

  abbrev pub turn : Work Rec → Work Rec
  turn w = cond (ltb w.rule rule_count) (rule_turn w) (head_turn w w.waiting)

  -- lines put in one behind the other
  abbrev pub store_all : List (List ℕ) → ℕ → List ℕ → List ℕ
  store_all [] at old = old
  store_all (l ∷ ls) at old = store_all ls (at + length l) (store l at old)

  -- turns of a busy machine lead from v to w
  pub data Leads : Work Rec → Work Rec → Type 0 where
    here : {w : Work Rec} → Leads w w
    onward : {v w : Work Rec} → v.busy ≡ true → Leads (turn v) w → Leads v w
