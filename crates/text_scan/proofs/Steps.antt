-- The step table is the machine, by one computed test over all states and bytes. Assumes nothing.
--     table_is      the table's next state is the machine's
--     next_small    it is a state, or the number behind them
use mathlib.Core.Path.{◌≡◌, refl, sym, ◌∙◌, ap, ap₂}
use mathlib.Core.Bool.{Bool, true, false}
use mathlib.Core.Option.{Option, none, some}
use mathlib.Core.List.{List, [], ◌∷◌}
use Prim.Native.Nat.{ℕ, zero, suc, ◌<◌}
use native.Mathlib.Decide.{ℕ_discrete, dec_le}
use lib.Dec.{T, eqb, ltb, eqb→eq, ltb→lt}
use Rattle.base_lists.specs.Tables.{both, both_left, both_right, all_below, all_below_lem}
use Rattle.text_grammar.specs.Bytes.{digit?, begins, follows, first, holds}
use Rattle.text_grammar.specs.Machine.{State, after, minus, digits, number, done, quoted, must, Move, move}
use Rattle.text_scan.specs.Classes.{fine_of}
use Rattle.text_scan.specs.Steps.{state_count, state_of, next}

-- the step of the machine, from a state that may be gone
abbrev pub on_state : Move → Option State
on_state none = none
on_state (some m) = some m.0

abbrev pub step : Option State → ℕ → Option State
step none b = none
step (some q) b = on_state (move q b)

-- ---- sameness of states, computed

abbrev code : Option State → List ℕ
code none = []
code (some after) = 0 ∷ []
code (some digits) = 1 ∷ []
code (some number) = 2 ∷ []
code (some done) = 3 ∷ []
code (some quoted) = 4 ∷ []
code (some minus) = 5 ∷ []
code (some (must c cs)) = 6 ∷ c ∷ cs

abbrev decode : List ℕ → Option State
decode [] = none
decode (zero ∷ l) = some after
decode (suc zero ∷ l) = some digits
decode (suc (suc zero) ∷ l) = some number
decode (suc (suc (suc zero)) ∷ l) = some done
decode (suc (suc (suc (suc zero))) ∷ l) = some quoted
decode (suc (suc (suc (suc (suc zero)))) ∷ l) = some minus
decode (suc (suc (suc (suc (suc (suc n))))) ∷ []) = none
decode (suc (suc (suc (suc (suc (suc n))))) ∷ (c ∷ cs)) = some (must c cs)

decode_code : (q : Option State) → decode (code q) ≡ q
decode_code none = refl
decode_code (some after) = refl
decode_code (some digits) = refl
decode_code (some number) = refl
decode_code (some done) = refl
decode_code (some quoted) = refl
decode_code (some minus) = refl
decode_code (some (must c cs)) = refl

abbrev same_l : List ℕ → List ℕ → Bool
same_l [] [] = true
same_l [] (y ∷ t) = false
same_l (x ∷ s) [] = false
same_l (x ∷ s) (y ∷ t) = both (eqb x y) (same_l s t)

same_l_is : (s t : List ℕ) → T (same_l s t) → s ≡ t
same_l_is [] [] h = refl
same_l_is [] (y ∷ t) h = absurd h
same_l_is (x ∷ s) [] h = absurd h
same_l_is (x ∷ s) (y ∷ t) h =
    ap₂ (λ (a : ℕ) (l : List ℕ). a ∷ l) (eqb→eq x y (both_left (eqb x y) (same_l s t) h)) (same_l_is s t (both_right (eqb x y) (same_l s t) h))

-- ---- the test

abbrev right : ℕ → ℕ → Bool
right s b = both (ltb (next s (fine_of b)) (suc state_count)) (same_l (code (state_of (next s (fine_of b)))) (code (step (state_of s) b)))

all_right : T (all_below (λ s. all_below (right s) 256) state_count)
unfolding fine_of next begins follows first holds digit? dec_le ℕ_discrete
all_right = tt

at : (s b : ℕ) → s < state_count → b < 256 → T (right s b)
at s b hs hb = all_below_lem (right s) 256 (all_below_lem (λ s. all_below (right s) 256) state_count all_right s hs) b hb

-- THE TABLE steps as the machine does, from every state and at every byte
pub table_is : (s b : ℕ) → s < state_count → b < 256 → state_of (next s (fine_of b)) ≡ step (state_of s) b
table_is s b hs hb =
    sym (decode_code (state_of (next s (fine_of b))))
    ∙ ap decode
    (same_l_is (code (state_of (next s (fine_of b)))) (code (step (state_of s) b))
    (both_right (ltb (next s (fine_of b)) (suc state_count)) (same_l (code (state_of (next s (fine_of b)))) (code (step (state_of s) b))) (at s b hs hb)))
    ∙ decode_code (step (state_of s) b)

pub next_small : (s b : ℕ) → s < state_count → b < 256 → next s (fine_of b) < suc state_count
next_small s b hs hb =
    ltb→lt (next s (fine_of b)) (suc state_count)
    (both_left (ltb (next s (fine_of b)) (suc state_count)) (same_l (code (state_of (next s (fine_of b)))) (code (step (state_of s) b))) (at s b hs hb))
