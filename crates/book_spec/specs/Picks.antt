-- Picking by position, of anything that a position passes or fails: the first that passes, and orders of positions.
use Rattle.std.specs.Prelude.{◌↔◌, Bool, cond, ℕ, ◌<◌}
use Rattle.std.proofs.Math.Option.{Option, none, some}
use mathlib.Core.List.{List, [], ◌∷◌, Memᴰ}
use Rattle.math_terms.specs.Seqs.{Distinct}

-- the first of the positions that passes
abbrev pub pick_in : (ℕ → Bool) → List ℕ → Option ℕ
pick_in g [] = none
pick_in g (i ∷ p) = cond (g i) (some i) (pick_in g p)

-- an order of n positions: each of them once, and no other
abbrev pub IsOrder : ℕ → List ℕ → Type 0
IsOrder n p = Distinct p × ((i : ℕ) → Memᴰ i p ↔ (i < n))
