-- A turn of the machine in its row is a turn of the machine whose queue is a list; the ring in the row is that list.
--     turn_is       a turn
--     leads_is      turns until the machine is not busy
use mathlib.Core.Path.{◌≡◌, refl, sym, ◌∙◌, ap, ap₂, subst}
use mathlib.Core.Bool.{Bool, true, false, not, cond}
use mathlib.Core.List.{List, [], ◌∷◌, ◌++◌}
use Prim.Native.Nat.{ℕ, suc, ◌+◌, ◌-◌, ◌<◌}
use native.Mathlib.Omega.{arith}
use lib.Dec.{eqb, ltb}
use lib.ListN.{length, length-append, get_or, set}
use lib.Seq.{set-get_or}
use borrow.Author.Tests.{ltb-true, ne_eqb}
use Rattle.math_search.specs.Rules.{rule_count}
use Rattle.search_problems.specs.declared.Problem.{Problem}
use Rattle.search_problems.specs.Values.{blank_problem}
use Rattle.search_problems.specs.Steps.{fails_of, child_record, gives, next_rule}
use Rattle.text_write.specs.pieces.Stored.{store_line}
use Rattle.search_steps.specs.declared.turns.State.{State}
use Rattle.search_steps.specs.turns.Turns.{Turn, trying, aim, first_rule, stopped, taken, joined, full, rule_turn}
use Rattle.pair_row.specs.Row.{table_in}
use Rattle.search_steps.specs.Machine.{line_in, line_of, moved, wrote, Config, conf, next, after, after_next, after_none}
use Rattle.math_search.specs.worklist.Machine as list
use Rattle.math_search.specs.worklist.Machine.{Records, Work, Leads, here, onward}
use Rattle.math_search.proofs.worklist.Ring.{next_place, place, place_next, place_after, Ring, ring_put, ring_head, ring_take}

-- ---- a turn, by its tests

module _ (s : State) (row : List Problem) (out : List ℕ) where
  abbrev there : Problem
  there = get_or row s.at blank_problem

  by_turn : (m : Turn) (o : List ℕ) → moved s there ≡ m → wrote s there out ≡ o → next (conf s row out) ≡ conf m.state (set row s.at m.problem) o
  by_turn m o e h = ap₂ (λ (m : Turn) (o : List ℕ). conf m.state (set row s.at m.problem) o) e h

  -- the record that was read is written back
  back : (t : State) → ◌≡◌ {A = Config} (conf t (set row s.at there) out) (conf t row out)
  back t = ap (λ (r : List Problem). conf t r out) (set-get_or row s.at blank_problem)

  next_joined : trying s.rule ≡ true → ltb s.count s.cap ≡ true
      → next (conf s row out) ≡ conf (joined s) (set row s.at (child_record (table_in s.row) s.held s.rule)) out
  next_joined t l = by_turn (record { problem = (child_record (table_in s.row) s.held s.rule); state = joined s }) out (rw (t, l) refl) (rw t refl)

  next_full : trying s.rule ≡ true → ltb s.count s.cap ≡ false → next (conf s row out) ≡ conf (full s) row out
  next_full t l = by_turn (record { problem = there; state = full s }) out (rw (t, l) refl) (rw t refl) ∙ back (full s)

  -- the line that is stored where an answer is read, and a turn where no rule is tried, by its tests
  abbrev stored : List ℕ
  stored = cond s.writing (store_line (line_of s there) s.bytes out) out

  abbrev takes : Turn
  takes = record { problem = blank_problem; state = taken s there (length (line_of s there)) }

  abbrev stops : Turn
  stops = record { problem = there; state = stopped s }

  head_moved : (b : Bool) → trying s.rule ≡ false → eqb s.count 0 ≡ b → moved s there ≡ cond b stops takes
  head_moved b t z = ap (λ (c : Bool). cond c (rule_turn s there) (cond (eqb s.count 0) stops takes)) t ∙ ap (λ (c : Bool). cond c stops takes) z

  head_wrote : (b : Bool) → trying s.rule ≡ false → eqb s.count 0 ≡ b → wrote s there out ≡ cond (cond b false (not there.«open»)) stored out
  head_wrote b t z =
      ap (λ (c : Bool). cond (cond c false (cond (eqb s.count 0) false (not there.«open»))) stored out) t
      ∙ ap (λ (c : Bool). cond (cond c false (not there.«open»)) stored out) z

  next_stopped : trying s.rule ≡ false → eqb s.count 0 ≡ true → next (conf s row out) ≡ conf (stopped s) row out
  next_stopped t z = by_turn stops out (head_moved true t z) (head_wrote true t z) ∙ back (stopped s)

  next_taken : trying s.rule ≡ false → eqb s.count 0 ≡ false
      → next (conf s row out)
      ≡ conf (taken s there (length (line_of s there))) (set row s.at blank_problem)
      (cond (not there.«open») (cond s.writing (store_line (line_of s there) s.bytes out) out) out)
  next_taken t z = by_turn takes (cond (not there.«open») stored out) (head_moved false t z) (head_wrote false t z)

-- ---- the machine whose queue is a list, over the same records

abbrev pub records : List ℕ → List ℕ → Records
records tables texts = record {
  Rec = Problem;
  is_open = λ p. p.«open»;
  fails = fails_of (table_in tables);
  ok = gives (table_in tables);
  child = λ p r. (child_record (table_in tables) p r);
  line = line_in tables texts;
  store = store_line;
}

module _ (tables texts : List ℕ) (writing : Bool) (cap : ℕ) where
  -- the state in the row, with the queue from `head` on
  abbrev pub in_row : Work Problem → ℕ → State
  in_row w head = record {
    busy = w.busy;
    writing = writing;
    refused = w.refused;
    rule = w.rule;
    at = aim w.rule head (place head (length w.waiting) cap);
    head = head;
    tail = place head (length w.waiting) cap;
    count = length w.waiting;
    cap = cap;
    lines = w.lines;
    bytes = w.bytes;
    held = w.held;
    row = tables;
    texts = texts;
  }

  abbrev pub config : Work Problem → ℕ → List Problem → Config
  config w head row = conf (in_row w head) row w.out

  -- a configuration is w's, with w's queue in its row
  abbrev pub Shows : Config → Work Problem → Type 0
  Shows c w = (head : ℕ) × (row : List Problem) × (c ≡ config w head row) × Ring blank_problem row cap head w.waiting

  module _ (w : Work Problem) (head : ℕ) (row : List Problem) (r : Ring blank_problem row cap head w.waiting) where
    abbrev s : State
    s = in_row w head

    shows_full : ltb w.rule rule_count ≡ true → ltb (length w.waiting) cap ≡ false
        → Shows (next (config w head row)) (list.full (records tables texts) writing cap w)
    shows_full t l = (head, row, next_full s row w.out t l, r)

    shows_joined : ltb w.rule rule_count ≡ true → ltb (length w.waiting) cap ≡ true
        → Shows (next (config w head row)) (list.joined (records tables texts) writing cap w (child_record (table_in tables) w.held w.rule))
    shows_joined t l = (
      head,
      set row (place head (length w.waiting) cap) q,
      next_joined s row w.out t l
          ∙ ap₂ (λ (tail : ℕ) (n : ℕ). shape tail n (aim w.rule head (place head (length w.waiting) cap))) behind one_more
          ∙ ap (λ (at : ℕ). shape (place head (length (w.waiting ++ q ∷ [])) cap) (length (w.waiting ++ q ∷ [])) at) aimed,
      ring_put blank_problem row cap head w.waiting q r few,
    )
      where
        q : Problem
        q = (child_record (table_in tables) w.held w.rule)

        few : length w.waiting < cap
        few = ltb-true (length w.waiting) cap l

        one_more : length w.waiting + 1 ≡ length (w.waiting ++ (child_record (table_in tables) w.held w.rule) ∷ [])
        one_more = sym (length-append w.waiting (q ∷ []))

        behind : next_place (place head (length w.waiting) cap) cap
            ≡ place head (length (w.waiting ++ (child_record (table_in tables) w.held w.rule) ∷ [])) cap
        behind = place_next head (length w.waiting) cap r.inside few ∙ ap (λ (n : ℕ). place head n cap) one_more

        aimed : aim w.rule head (place head (length w.waiting) cap) ≡ place head (length w.waiting) cap
        aimed = ap (λ (b : Bool). cond b (place head (length w.waiting) cap) head) t

        -- by the tail, the count, and the place that was read
        shape : ℕ → ℕ → ℕ → Config
        shape tail n at =
            conf (record {
              busy = true;
              writing = writing;
              refused = w.refused;
              rule = next_rule (table_in tables) w.held (w.rule + 1);
              at = aim (next_rule (table_in tables) w.held (w.rule + 1)) head tail;
              head = head;
              tail = tail;
              count = n;
              cap = cap;
              lines = w.lines;
              bytes = w.bytes;
              held = w.held;
              row = tables;
              texts = texts;
            })
            (set row at (child_record (table_in tables) w.held w.rule)) w.out

    module _ (t : ltb w.rule rule_count ≡ false) where
      shows_stopped : w.waiting ≡ [] → Shows (next (config w head row)) (list.stopped (records tables texts) writing cap w)
      shows_stopped e = (head, row, next_stopped s row w.out t (ap (λ (q : List Problem). eqb (length q) 0) e), r)

      shows_taken : (p : Problem) (q : List Problem) → w.waiting ≡ p ∷ q
          → Shows (next (config w head row)) (list.taken (records tables texts) writing cap w p q)
      shows_taken p q e = (
        next_place head cap,
        set row head blank_problem,
        next_taken s row w.out t (ne_eqb (length w.waiting) 0 (λ z. omega (arith, more)))
            ∙ ap₂ read_as is_p aimed
            ∙ ap₂ (λ (tail : ℕ) (n : ℕ). shape tail n (cond (not p.«open») stored w.out)) behind one_less
            ∙ ap (shape (place (next_place head cap) (length q) cap) (length q)) (turned p.«open»),
        ring_take blank_problem row cap head p q blank_problem ring,
      )
        where
          more : length w.waiting ≡ suc (length q)
          more = ap (λ (q : List Problem). length q) e

          one_less : length w.waiting - 1 ≡ length q
          one_less = omega (arith, more)

          ring : Ring blank_problem row cap head (p ∷ q)
          ring = subst (λ (q : List Problem). Ring blank_problem row cap head q) e r

          aimed : aim w.rule head (place head (length w.waiting) cap) ≡ head
          aimed = ap (λ (b : Bool). cond b (place head (length w.waiting) cap) head) t

          is_p : get_or row (aim w.rule head (place head (length w.waiting) cap)) blank_problem ≡ p
          is_p = ap (λ (j : ℕ). get_or row j blank_problem) aimed ∙ ring_head blank_problem row cap head p q ring

          behind : place head (length w.waiting) cap ≡ place (next_place head cap) (length q) cap
          behind = ap (λ (n : ℕ). place head n cap) last ∙ sym (place_after head (length q) cap r.inside (omega (arith, r.fits, more)))
            where
              last : length w.waiting ≡ length q + 1
              last = omega (arith, more)

          stored : List ℕ
          stored = cond writing (store_line (line_in tables texts p) w.bytes w.out) w.out

          turned : (b : Bool) → cond (not b) stored w.out ≡ cond b w.out (cond writing (store_line (line_in tables texts p) w.bytes w.out) w.out)
          turned true = refl
          turned false = refl

          -- by the record that was read, and its place
          read_as : Problem → ℕ → Config
          read_as p at =
              conf (taken s p (length (line_of s p))) (set row at blank_problem)
              (cond (not p.«open») (cond writing (store_line (line_in tables texts p) w.bytes w.out) w.out) w.out)

          -- by the tail, the count, and the bytes
          shape : ℕ → ℕ → List ℕ → Config
          shape tail n out =
              conf (record {
                busy = true;
                writing = writing;
                refused = w.refused;
                rule = first_rule (table_in tables) p;
                at = aim (first_rule (table_in tables) p) (next_place head cap) tail;
                head = next_place head cap;
                tail = tail;
                count = n;
                cap = cap;
                lines = cond p.«open» w.lines (list.plus w.lines 1);
                bytes = cond p.«open» w.bytes (list.plus w.bytes (length (line_in tables texts p)));
                held = p;
                row = tables;
                texts = texts;
              }) (set row head blank_problem) out

      shows_head : (q : List Problem) → w.waiting ≡ q → Shows (next (config w head row)) (list.head_turn (records tables texts) writing cap w q)
      shows_head [] e = shows_stopped e
      shows_head (p ∷ q) e = shows_taken p q e

    shows_rule : ltb w.rule rule_count ≡ true → Shows (next (config w head row)) (list.rule_turn (records tables texts) writing cap w)
    shows_rule t = by (ltb (length w.waiting) cap) refl
      where
        by : (c : Bool) → ltb (length w.waiting) cap ≡ c
            → Shows (next (config w head row))
            (cond c (list.joined (records tables texts) writing cap w (child_record (table_in tables) w.held w.rule))
            (list.full (records tables texts) writing cap w))
        by true l = shows_joined t l
        by false l = shows_full t l

    -- A TURN
    turn_is : Shows (next (config w head row)) (list.turn (records tables texts) writing cap w)
    turn_is = by (ltb w.rule rule_count) refl
      where
        by : (b : Bool) → ltb w.rule rule_count ≡ b
            → Shows (next (config w head row))
            (cond b (list.rule_turn (records tables texts) writing cap w) (list.head_turn (records tables texts) writing cap w w.waiting))
        by true t = shows_rule t
        by false t = shows_head t w.waiting refl

  -- turns
  pub leads_is : {w v : Work Problem} → Leads (records tables texts) writing cap w v → (c : Config) → Shows c w → (n : ℕ) × Shows (after n c) v
  leads_is {w = w} here c h = (0, subst (λ (d : Config). Shows d w) (sym (after_none c)) h)
  leads_is {w = w} {v = v} (onward b l) c h =
      let k : Shows (next c) (list.turn (records tables texts) writing cap w) =
      subst (λ (d : Config). Shows (next d) (list.turn (records tables texts) writing cap w)) (sym h.2) (turn_is w h.0 h.1 h.3) in
      let m = leads_is l (next c) k in
      (suc m.0, subst (λ (d : Config). Shows d v) (sym (after_next m.0 c (ap (λ (d : Config). d.state.busy) h.2 ∙ b))) m.1)
