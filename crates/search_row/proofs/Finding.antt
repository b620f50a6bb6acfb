-- WHAT THE MACHINE FINDS: from the root alone it stops, refused exactly where the search is refused, else with the number of the answers
-- and of their lines' bytes, and, where it writes, with the lines in the lent bytes.
--     machine_finds      one run
--     reaches_once       a machine stops at one place only
use mathlib.Core.Path.{◌≡◌, refl, sym, ◌∙◌, ap}
use mathlib.Core.Bool.{Bool, true, false}
use mathlib.Core.List.{List, [], ◌∷◌, map}
use Prim.Native.Nat.{ℕ, zero, suc, ◌+◌, ◌*◌, ◌^◌, ◌≤◌, ◌<◌}
use native.Mathlib.Omega.{arith}
use native.Mathlib.Nat.{mul-le-mul_left}
use lib.ListN.{length, length-map, length-set, set}
use lib.Seq.{get_or-set_same}
use Rattle.base_limits.specs.Limits.{most_terms}
use Rattle.search_problems.specs.declared.Problem.{Problem}
use Rattle.search_problems.specs.Values.{blank_problem}
use Rattle.text_write.specs.pieces.Stored.{bytes_of, store_line, store_all}
use Rattle.search_steps.specs.declared.turns.State.{State}
use Rattle.search_steps.specs.Machine.{Config, conf, next, after, after_none, after_next, after_idle, Ends, Reaches, from_root}
use Rattle.math_search.specs.Problems as theory
use Rattle.math_search.specs.Problems.{Setting, Bindings, root}
use Rattle.math_search.specs.Rules.{Rule, rule_count}
use Rattle.math_search.specs.Queue.{Result, answers, refused, unfinished, searching}
use Rattle.math_search.specs.Answers.{Linear}
use Rattle.math_search.proofs.Searching.{searching_ends}
use Rattle.math_search.proofs.Few.{answers_34}
use Rattle.math_search.specs.worklist.Machine as list
use Rattle.math_search.specs.worklist.Machine.{Work}
use Rattle.math_search.specs.worklist.Agreement.{Agrees}
use Rattle.math_search.proofs.worklist.Ring.{next_place, place, place_first, place_next, ring_one}
use Rattle.math_search.proofs.worklist.Runs.{StopsWith, on, Outcome, search_outcome}
use Rattle.search_row.proofs.Turns.{records, in_row, Shows, leads_is}

-- ---- where a machine stops

-- once it is not busy, more turns change nothing
stays : (m n : ℕ) (c : Config) → (after m c).state.busy ≡ false → (after n c).state.busy ≡ false → after m c ≡ after n c
stays zero n c h k = after_none c ∙ sym (after_idle n c (ap (λ (d : Config). d.state.busy) (sym (after_none c)) ∙ h))
stays (suc m) zero c h k = after_idle (suc m) c (ap (λ (d : Config). d.state.busy) (sym (after_none c)) ∙ k) ∙ sym (after_none c)
stays (suc m) (suc n) c h k = go c.state.busy refl (λ h k. stays m n (next c) h k)
  where
    go : (b : Bool) → c.state.busy ≡ b → ((after m (next c)).state.busy ≡ false → (after n (next c)).state.busy ≡ false → after m (next c) ≡ after n (next c))
        → after (suc m) c ≡ after (suc n) c
    go true e rec =
        after_next m c e
        ∙ rec (ap (λ (d : Config). d.state.busy) (sym (after_next m c e)) ∙ h) (ap (λ (d : Config). d.state.busy) (sym (after_next n c e)) ∙ k)
        ∙ sym (after_next n c e)
    go false e rec = after_idle (suc m) c e ∙ sym (after_idle (suc n) c e)

pub reaches_once : (c d e : Config) → Reaches c d → Reaches c e → d ≡ e
reaches_once c d e r s =
    sym r.1 ∙ stays r.0 s.0 c (ap (λ (x : Config). x.state.busy) r.1 ∙ r.2) (ap (λ (x : Config). x.state.busy) s.1 ∙ s.2) ∙ s.1

pub reaches_ends : (c d : Config) → Reaches c d → Ends c
reaches_ends c d r = (r.0, ap (λ (x : Config). x.state.busy) r.1 ∙ r.2)

-- ---- a run

-- the state that a run starts in, with the problem p in the first place
abbrev pub starts : List ℕ → List ℕ → Bool → ℕ → Problem → State
starts tables texts writing cap p = record {
  busy = true;
  writing = writing;
  refused = false;
  rule = rule_count;
  at = 0;
  head = 0;
  tail = next_place 0 cap;
  count = 1;
  cap = cap;
  lines = 0;
  bytes = 0;
  held = p;
  row = tables;
  texts = texts;
}

-- lines stored by the list machine's fold
stored_same : (tables texts : List ℕ) (writing : Bool) (cap : ℕ) (ls : List (List ℕ)) (at : ℕ) (old : List ℕ)
    → list.store_all (records tables texts) writing cap ls at old ≡ store_all ls at old
stored_same tables texts writing cap [] at old = refl
stored_same tables texts writing cap (l ∷ ls) at old = stored_same tables texts writing cap ls (at + length l) (store_line l at old)

module _ (E : Setting) (text : Bindings E → List ℕ) where
  -- what the machine has come to at d, by the search's result
  abbrev pub Final : Bool → List ℕ → Config → Result E → Type 0
  Final writing out d (answers xs) =
      (d.state.refused ≡ false) × (d.state.lines ≡ length xs) × (d.state.bytes ≡ length (bytes_of (map text xs)))
      × (writing ≡ false → d.out ≡ out) × (writing ≡ true → d.out ≡ store_all (map text xs) 0 out)
  Final writing out d refused = (d.state.refused ≡ true) × (d.state.lines ≡ 0) × (d.state.bytes ≡ 0) × (writing ≡ false → d.out ≡ out)
  Final writing out d unfinished = ⊥

module _ (E : Setting) (tables texts : List ℕ) (Holds : Problem → theory.Problem E → Type 0) (number : Rule → ℕ)
    (text : Bindings E → List ℕ) (agrees : Agrees E (records tables texts) Holds number text)
    (bound : ℕ) (short : (p : Problem) (σ : Bindings E) (u : List E.names.Name) → Holds p (theory.problem theory.solved σ u) → length (text σ) ≤ bound)
    (low : bound * 2 ^ 34 < 2 ^ 64) where
  module _ (A B : theory.Field E) (linear : Linear E A B) (a : length A ≤ most_terms) (b : length B ≤ most_terms)
      (writing : Bool) (cap : ℕ) (some_room : 1 ≤ cap) (p : Problem) (is-root : Holds p (root E A B))
      (row : List Problem) (size : length row ≡ cap) (out : List ℕ) where
    abbrev begins : Config
    begins = from_root (conf (starts tables texts writing cap p) row out)

    abbrev work : Work Problem
    work = on rule_count p (p ∷ []) 0 0 out

    begins_shows : Shows tables texts writing cap begins work
    begins_shows = (
      0,
      set row 0 p,
      ap (λ (tail : ℕ). conf (with_tail tail) (set row 0 p) out) behind,
      ring_one blank_problem (set row 0 p) cap 0 p (length-set row 0 p ∙ size) (omega arith) (get_or-set_same row 0 p blank_problem (omega (arith, size))),
    )
      where
        with_tail : ℕ → State
        with_tail tail = record {
          busy = true;
          writing = writing;
          refused = false;
          rule = rule_count;
          at = 0;
          head = 0;
          tail = tail;
          count = 1;
          cap = cap;
          lines = 0;
          bytes = 0;
          held = p;
          row = tables;
          texts = texts;
        }

        behind : next_place 0 cap ≡ place 0 1 cap
        behind = ap (λ (i : ℕ). next_place i cap) (sym (place_first 0 cap (omega arith))) ∙ place_next 0 0 cap (omega arith) (omega arith)

    by_result : (r : Result E) → searching E cap A B ≡ r → Outcome E (records tables texts) Holds number text agrees bound short writing cap work r
        → (d : Config) × Reaches begins d × Final E text writing out d r
    by_result unfinished e h = absurd (searching_ends E cap A B e)
    by_result refused e h = (
      after m.0 begins,
      (m.0, refl, ap (λ (d : Config). d.state.busy) shown ∙ h.idle),
      (
        ap (λ (d : Config). d.state.refused) shown ∙ h.is_refused_lem,
        ap (λ (d : Config). d.state.lines) shown ∙ h.no_lines,
        ap (λ (d : Config). d.state.bytes) shown ∙ h.no_bytes,
        λ n. ap (λ (d : Config). d.out) shown ∙ h.untouched n,
      ),
    )
      where
        m : (n : ℕ) × Shows tables texts writing cap (after n begins) h.end
        m = leads_is tables texts writing cap h.leads begins begins_shows

        shown : after m.0 begins ≡ conf (in_row tables texts writing cap h.end m.1.0) m.1.1 h.end.out
        shown = m.1.2
    by_result (answers xs) e h = (
      after m.0 begins,
      (m.0, refl, ap (λ (d : Config). d.state.busy) shown ∙ s.idle),
      (
        ap (λ (d : Config). d.state.refused) shown ∙ s.not_refused,
        ap (λ (d : Config). d.state.lines) shown ∙ omega (arith, s.counted, length-map xs text),
        ap (λ (d : Config). d.state.bytes) shown ∙ omega (arith, s.sized),
        λ n. ap (λ (d : Config). d.out) shown ∙ s.untouched n,
        λ y. ap (λ (d : Config). d.out) shown ∙ s.written y ∙ stored_same tables texts writing cap (map text xs) 0 out,
      ),
    )
      where
        few : length xs ≤ 2 ^ 34
        few = answers_34 E cap A B xs linear a b e

        s : StopsWith (records tables texts) writing cap work (map text xs)
        s = h (omega (arith, few)) (omega (arith, mul-le-mul_left {m = length xs} {n = 2 ^ 34} bound few))

        m : (n : ℕ) × Shows tables texts writing cap (after n begins) s.end
        m = leads_is tables texts writing cap s.leads begins begins_shows

        shown : after m.0 begins ≡ conf (in_row tables texts writing cap s.end m.1.0) m.1.1 s.end.out
        shown = m.1.2

    pub machine_finds : (d : Config) × Reaches begins d × Final E text writing out d (searching E cap A B)
    machine_finds =
        by_result (searching E cap A B) refl
        (search_outcome E (records tables texts) Holds number text agrees bound short writing cap A B p p out is-root some_room)
