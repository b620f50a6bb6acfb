-- Laws of a turn. Assumes nothing.
--     line_part    an answer's line in the part of the output that is lent to the line writer
--     turn_is      a turn where a line's size counts only for an answer
use Rattle.std.proofs.Common.{◌≡◌, ℕ, ◌-◌, min, Bool, true, false, cond, not, eqb, List, ◌++◌, length, get_or, take, drop, refl, ap, ◌∙◌, subst₂, arith}
use lib.Seq.{sets}
use Rattle.search_problems.specs.declared.Problem.{Problem}
use Rattle.search_problems.specs.Values.{blank_problem}
use Rattle.text_write.specs.pieces.Stored.{store_line}
use Rattle.text_write.proofs.pieces.Stored.{store_part, store_end}
use Rattle.pair_row.specs.Row.{table_in}
use Rattle.pair_lines.specs.Lines.{Puts}
use Rattle.pair_lines.specs.Answers.{answer_in}
use Rattle.search_items.specs.declared.Items.{Items}
use Rattle.search_items.specs.Items.{items_of, blank_items}
use Rattle.base_lists.specs.Arrays.{entry_any}
use Rattle.search_steps.specs.declared.turns.State.{State}
use Rattle.search_steps.specs.turns.Turns.{Turn, trying, next_place, aim, plus, first_rule, stopped, rule_turn, decided}
use Rattle.search_steps.specs.Machine.{answers, line_place, line_of}

-- ---- where an answer's line goes

module _ (l old : List ℕ) (k at : ℕ) {m : List ℕ} (e : m ≡ sets (take (length old - at) (drop at old)) 0 l) where
  part_by : (w : Bool) → at ≡ cond w (min k (length old)) (length old)
      → take at old ++ (m ++ drop (length old - at) (drop at old)) ≡ cond w (store_line l k old) old
  part_by true a = store_part l old k at a e
  part_by false a = store_part l old (length old) at (omega (arith, a)) e ∙ store_end l old

pub line_part : (s : State) (l old : List ℕ) (at : ℕ) {m : List ℕ} → at ≡ line_place s (length old) → m ≡ sets (take (length old - at) (drop at old)) 0 l
    → take at old ++ (m ++ drop (length old - at) (drop at old)) ≡ cond s.writing (store_line l s.bytes old) old
line_part s l old at a e = part_by l old s.bytes at e s.writing a

-- ---- an answer's line

-- by the items that the list values are
pub put_as : (row texts atoms out : List ℕ) {l l' r r' : List ℕ} {n : ℕ} {o : List ℕ} → l ≡ l' → r ≡ r' → Puts (answer_in row texts atoms l r) 0 out n o
    → Puts (answer_in row texts atoms l' r') 0 out n o
put_as row texts atoms out {n = n} {o = o} e d h = subst₂ (λ (l r : List ℕ). Puts (answer_in row texts atoms l r) 0 out n o) e d h

-- of a record, whose two list values stand in an array
pub line_by_lem : (s : State) (p : Problem) (out : List ℕ) {n : ℕ} {o : List ℕ} (v : Items) → length p.lists ≡ 2
    → Puts (answer_in s.row s.texts p.atoms.atoms (items_of (get_or p.lists 0 v)) (items_of (get_or p.lists 1 v))) 0 out n o
    → (n ≡ length (line_of s p)) × (o ≡ sets out 0 (line_of s p))
line_by_lem s p out {n} {o} v e h =
    let a = ap items_of (entry_any p.lists 0 v blank_items (omega (arith, e))) in
    let b = ap items_of (entry_any p.lists 1 v blank_items (omega (arith, e))) in
    let k = put_as s.row s.texts p.atoms.atoms out {n = n} {o = o} a b h in
    (omega (arith, k.0), k.1)

-- ---- what is not an answer has no line to count

-- t, z, o: a child is put in, nothing waits, the record is open
turn_by : (r e : Turn) (f : ℕ → Turn) (a n : ℕ) (t z o : Bool)
    → cond t r (cond z e (f (cond o a (plus a (cond (cond t false (cond z false (not o))) n 0))))) ≡ cond t r (cond z e (f (cond o a (plus a n))))
turn_by r e f a n true z o = refl
turn_by r e f a n false true o = refl
turn_by r e f a n false false true = refl
turn_by r e f a n false false false = refl

module _ (s : State) (p : Problem) (n : ℕ) where
  -- the record leaves the row, and b bytes are counted
  abbrev counted : ℕ → Turn
  counted b = record {
    problem = blank_problem;
    state = record {
      busy = true;
      writing = s.writing;
      refused = s.refused;
      rule = first_rule (table_in s.row) p;
      at = aim (first_rule (table_in s.row) p) (next_place s.head s.cap) s.tail;
      head = next_place s.head s.cap;
      tail = s.tail;
      count = s.count - 1;
      cap = s.cap;
      lines = cond p.«open» s.lines (plus s.lines 1);
      bytes = b;
      held = p;
      row = s.row;
      texts = s.texts;
    };
  }

  pub turn_is : decided s p (cond (answers s p) n 0) ≡ decided s p n
  turn_is = turn_by (rule_turn s p) (record { problem = p; state = stopped s }) counted s.bytes n (trying s.rule) (eqb s.count 0) p.«open»
