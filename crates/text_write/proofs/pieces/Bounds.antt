-- Laws of pieces of a known bound, put one behind the other. Assumes nothing.
use mathlib.Core.Path.{◌≡◌, sym, ap}
use mathlib.Core.List.{List, [], ◌∷◌, ◌++◌}
use Prim.Native.Nat.{ℕ, ◌+◌, ◌≤◌}
use native.Mathlib.Omega.{arith}
use lib.ListN.{length, length-append}
use Rattle.text_write.specs.pieces.Placed.{Placed}
use Rattle.text_write.proofs.pieces.Pieces.{sets_out, placed_as, placed_next}

abbrev pub Piece : ℕ → List ℕ → ℕ → List ℕ → ℕ → List ℕ → Type 0
Piece k t at l p m = Placed t at l p m × (length t ≤ k)

pub piece_as : (k : ℕ) {a b : List ℕ} (at : ℕ) (l : List ℕ) {p : ℕ} {m : List ℕ} → b ≡ a → Piece k a at l p m → Piece k b at l p m
piece_as k at l e q = (placed_as at l e q.0, omega (arith, ap length e, q.1))

pub piece_next : (j k i : ℕ) (a b : List ℕ) (at : ℕ) (l : List ℕ) {p r : ℕ} {m n : List ℕ}
    → Piece j a at l p m → Piece k b p m r n → j + k ≤ i → Piece i (a ++ b) at l r n
piece_next j k i a b at l q s h = (placed_next a b at l q.0 s.0, omega (arith, q.1, s.1, length-append a b))

-- a byte
pub piece_byte : (b at : ℕ) (l : List ℕ) {p : ℕ} {m : List ℕ} → Placed (b ∷ []) at l p m → Piece 1 (b ∷ []) at l p m
piece_byte b at l q = (q, omega arith)

-- a byte beyond the end is not put
pub placed_out : (b at : ℕ) (l : List ℕ) → length l ≤ at → Placed (b ∷ []) at l at l
placed_out b at l h = (omega arith, sym (sets_out (b ∷ []) l at h))
