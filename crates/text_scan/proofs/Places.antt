-- The place of refusal 2, from a state of the table on. Assumes nothing.
--     place_from    the place in what is left of a text, from state s at place i
--     PlaceTo      what a loop over the text keeps: place_refused, place_more
use mathlib.Core.Path.{◌≡◌, refl, sym, ◌∙◌, ap}
use mathlib.Core.Bool.{Bool, true, false}
use mathlib.Core.Option.{Option, none, some, map}
use mathlib.Core.List.{List, ◌∷◌}
use Prim.Native.Nat.{ℕ, suc, ◌+◌, ◌<◌, ◌≤◌}
use native.Mathlib.Numerals.{add-one}
use native.Mathlib.Omega.{arith}
use lib.Dec.{T}
use lib.ListN.{length, drop, get_or}
use lib.Seq.{drop-cons}
use Rattle.base_lists.specs.Tables.{all_below, all_below_lem}
use Rattle.text_grammar.specs.Machine.{State, Move, move, then_stop, stop, place2}
use Rattle.text_scan.specs.Classes.{fine_of}
use Rattle.text_scan.specs.Steps.{state_count, state_of, next}
use Rattle.text_scan.specs.Places.{found_of}
use Rattle.std.specs.Prelude.{Some}
use Rattle.text_scan.proofs.Steps.{on_state, step, table_is, next_small}

abbrev stop_at : Option State → List ℕ → Option ℕ
stop_at none z = some 0
stop_at (some q) z = stop z q

abbrev place_from : ℕ → ℕ → List ℕ → Option ℕ
place_from i s z = map (λ k. i + k) (stop_at (state_of s) z)

-- ---- one byte

-- behind a byte, one place on
abbrev behind : Option State → List ℕ → Option ℕ
behind none z = some 0
behind (some q) z = map suc (stop z q)

stop_step : (o : Option State) (b : ℕ) (z : List ℕ) → stop_at o (b ∷ z) ≡ behind (step o b) z
stop_step none b z = refl
stop_step (some q) b z = go (move q b)
  where
    go : (m : Move) → then_stop m (stop z) ≡ behind (on_state m) z
    go none = refl
    go (some m) = refl

-- the numbers below `state_count` are states
abbrev live : Option State → Bool
live none = false
live (some q) = true

all_live : T (all_below (λ s. live (state_of s)) state_count)
all_live = tt

module _ (i s b : ℕ) (z : List ℕ) (hs : s < state_count) (hb : b < 256) where
  -- by the table
  stepped : stop_at (state_of s) (b ∷ z) ≡ behind (state_of (next s (fine_of b))) z
  stepped = stop_step (state_of s) b z ∙ ap (λ (o : Option State). behind o z) (sym (table_is s b hs hb))

  refused_here : next s (fine_of b) ≡ state_count → place_from i s (b ∷ z) ≡ some i
  refused_here e = ap (map (λ k. i + k)) (stepped ∙ ap (λ (n : ℕ). behind (state_of n) z) e) ∙ ap some (omega arith)

  goes_on : (next s (fine_of b) ≡ state_count → ⊥) → (next s (fine_of b) < state_count) × (place_from i s (b ∷ z) ≡ place_from (i + 1) (next s (fine_of b)) z)
  goes_on n = (
    l,
    ap (map (λ k. i + k)) stepped
        ∙ go (state_of (next s (fine_of b))) (all_below_lem (λ n. live (state_of n)) state_count all_live (next s (fine_of b)) l),
  )
    where
      l : next s (fine_of b) < state_count
      l = omega (arith, next_small s b hs hb)

      later : (o : Option ℕ) → map (λ k. i + k) (map suc o) ≡ map (λ k. i + 1 + k) o
      later none = refl
      later (some k) = ap some (omega arith)

      go : (o : Option State) → T (live o) → map (λ k. i + k) (behind o z) ≡ map (λ k. i + 1 + k) (stop_at o z)
      go none a = absurd a
      go (some q) a = later (stop z q)

-- ---- what a loop that stands at i in state s knows of the whole text

abbrev pub PlaceTo : List ℕ → ℕ → ℕ → Type 0
PlaceTo t i s = (i ≤ length t) × (s < state_count) × (place2 t ≡ place_from i s (drop i t))

module _ (t : List ℕ) (i s : ℕ) (k : PlaceTo t i s) where
  module _ (h : i < length t) (n : ℕ) (e : n ≡ next s (fine_of (get_or t i 0))) (hb : get_or t i 0 < 256) where
    pub place_refused : n ≡ state_count → Some i ≡ found_of (place2 t)
    place_refused r =
        sym (ap found_of (k.2 ∙ ap (place_from i s) (drop-cons t i 0 h) ∙ refused_here i s (get_or t i 0) (drop (suc i) t) k.1 hb (sym e ∙ r)))

    pub place_more : (n ≡ state_count → ⊥) → PlaceTo t (i + 1) n
    place_more r =
        let g = goes_on i s (get_or t i 0) (drop (suc i) t) k.1 hb (λ x. r (e ∙ x)) in
        (omega arith, omega (arith, g.0), k.2 ∙ ap (place_from i s) (drop-cons t i 0 h) ∙ g.1 ∙ rw (e, add-one))
