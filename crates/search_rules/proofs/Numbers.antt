-- A number that is none of the first. Assumes nothing.
use mathlib.Core.Path.{◌≡◌}
use Prim.Native.Nat.{ℕ, zero, suc, ◌≤◌}
use native.Mathlib.Omega.{arith}

-- r is none of the numbers below k
abbrev NotBelow : ℕ → ℕ → Type 0
NotBelow zero r = Unit {0}
NotBelow (suc k) r = NotBelow k r × (r ≡ k → ⊥)

pub not_below : (k r : ℕ) → NotBelow k r → k ≤ r
not_below zero r n = omega arith
not_below (suc k) r n = let h = not_below k r n.0 in let d = n.1 in omega arith
