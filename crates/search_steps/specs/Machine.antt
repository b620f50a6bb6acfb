-- THE MACHINE of the search: turns with the lines of the answers, until the machine is not busy.
--     moved, wrote     what a turn makes of the state and the record, and what it leaves in the output
--     Config, next     a state, the row and the output, and one turn of them
--     after            at most n turns, none once the machine is not busy
--     Ends, Reaches    the machine stops; it stops there
--     from_root         where a search starts
-- Assumes nothing.
use Rattle.std.specs.Prelude.{◌≡◌, ℕ, zero, suc, ◌-◌, ◌<◌, min, Bool, true, false, cond, not, T, List, length, ◌==◌, slice_index_or, slice_set, refl}
use Rattle.std.proofs.Common.{sym, ◌∙◌, ap, subst, arith}
use Rattle.search_problems.specs.declared.Problem.{Problem}
use Rattle.search_problems.specs.Values.{blank_problem}
use Rattle.search_items.specs.Items.{items_of, blank_items}
use Rattle.pair_lines.specs.Answers.{answer_in}
use Rattle.text_write.specs.pieces.Stored.{store_line}
use Rattle.search_steps.specs.declared.turns.State.{State}
use Rattle.search_steps.specs.turns.Turns.{Turn, trying, decided}

-- ---- a turn

-- the record that is read is a solved problem that leaves the row
abbrev pub answers : State → Problem → Bool
answers s p = cond (trying s.rule) false (cond (s.count == 0) false (not p.«open»))

-- the line of a solved problem's record, by the tables of the two fields
abbrev pub line_in : List ℕ → List ℕ → Problem → List ℕ
line_in row texts p =
    answer_in row texts p.atoms.atoms (items_of (slice_index_or p.lists 0 blank_items)) (items_of (slice_index_or p.lists 1 blank_items))

abbrev pub line_of : State → Problem → List ℕ
line_of s p = line_in s.row s.texts p

-- where an answer's line goes: behind the lines before it, as far as the output goes; behind the end where lines are only counted
abbrev pub line_place : State → ℕ → ℕ
line_place s room = cond s.writing (min s.bytes room) room

abbrev pub moved : State → Problem → Turn
moved s p = decided s p (length (line_of s p))

-- an answer's line goes behind the lines before it
abbrev pub wrote : State → Problem → List ℕ → List ℕ
wrote s p out = cond (answers s p) (cond s.writing (store_line (line_of s p) s.bytes out) out) out

pub record Config : Type 0 where
  pub state : State
  pub row : List Problem
  pub out : List ℕ

abbrev pub conf : State → List Problem → List ℕ → Config
conf s row out = record { state = s; row = row; out = out }

abbrev pub read : Config → Problem
read c = slice_index_or c.row c.state.at blank_problem

abbrev pub next : Config → Config
next c =
    conf (moved c.state (read c)).state
    (slice_set c.row c.state.at (moved c.state (read c)).problem) (wrote c.state (read c) c.out)

-- ---- turns until the machine is not busy

unfoldable pub after : ℕ → Config → Config
after zero c = c
after (suc n) c = cond c.state.busy (after n (next c)) c

pub after_none : (c : Config) → after zero c ≡ c
unfolding after
after_none c = refl

pub after_next : (n : ℕ) (c : Config) → c.state.busy ≡ true → after (suc n) c ≡ after n (next c)
unfolding after
after_next n c h = rw h refl

pub after_idle : (n : ℕ) (c : Config) → c.state.busy ≡ false → after n c ≡ c
unfolding after
after_idle zero c h = refl
after_idle (suc n) c h = rw h refl

-- the machine stops
abbrev pub Ends : Config → Type 0
Ends c = (n : ℕ) × ((after n c).state.busy ≡ false)

-- it stops there
abbrev pub Reaches : Config → Config → Type 0
Reaches c d = (n : ℕ) × (after n c ≡ d) × (d.state.busy ≡ false)

-- ---- a turn of the loop, where n turns from d end at e

pub turn_on : (n : ℕ) (d e : Config) → after n d ≡ e → e.state.busy ≡ false
    → d.state.busy ≡ true → (after (n - 1) (next d) ≡ e) × (n - 1 < n)
turn_on zero d e p z h = absurd (subst T (sym h ∙ ap (λ (y : Config). y.state.busy) (sym (after_none d) ∙ p) ∙ z) tt)
turn_on (suc n) d e p z h =
    let k : suc n - 1 ≡ n = omega arith in
    (ap (λ (m : ℕ). after m (next d)) k ∙ sym (after_next n d h) ∙ p, omega arith)

pub turn_off : (n : ℕ) (d e : Config) → after n d ≡ e → d.state.busy ≡ false → d ≡ e
turn_off n d e p h = sym (after_idle n d h) ∙ p

-- ---- the search from the problem that the state holds: it stands in the first place; what the others hold makes no difference

abbrev pub from_root : Config → Config
from_root c = conf c.state (slice_set c.row 0 c.state.held) c.out
