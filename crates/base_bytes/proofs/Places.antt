-- The place of a byte, as `position` tells it.
use Rattle.std.specs.Prelude.{unwrap_or}
use Rattle.std.specs.List.{prefix_len}
use Rattle.std.proofs.Common.{◌≡◌, ◌==◌, ℕ, suc, ◌+◌, ◌≤◌, Bool, true, false, cond, not, List, [], ◌∷◌, length, position, Option, Some, None}
use Rattle.std.proofs.Common.{refl, ◌∙◌, ap, arith}
use Rattle.std.proofs.Math.Dec.{eqb, ltb}
use Rattle.std.proofs.lemmas.Bool.{ltb-false}
use Rattle.base_bytes.specs.Bytes.{index_of, index_after}

pub index_le : (b : ℕ) (v : List ℕ) → index_of b v ≤ length v
unfolding index_of index_after
index_le b [] = omega arith
index_le b (x ∷ v) = at (eqb x b) (index_le b v)
  where
    at : (y : Bool) → index_of b v ≤ length v → index_after y (index_of b v) ≤ suc (length v)
    at true h = omega arith
    at false h = omega arith

-- how many bytes are before it
before : (b : ℕ) (v : List ℕ) → prefix_len (λ x. not (x == b)) v ≡ index_of b v
unfolding index_of index_after
before b [] = refl
before b (x ∷ v) = at (eqb x b) (before b v)
  where
    at : (y : Bool) → prefix_len (λ x. not (x == b)) v ≡ index_of b v → cond (not y) (1 + prefix_len (λ x. not (x == b)) v) 0 ≡ index_after y (index_of b v)
    at true e = refl
    at false e = omega arith

pub place : (b : ℕ) (v : List ℕ) → unwrap_or (position (λ x. x == b) v) (length v) ≡ index_of b v
place b v = at (ltb n (length v)) refl
  where
    n : ℕ
    n = prefix_len (λ x. not (x == b)) v

    at : (y : Bool) → ltb n (length v) ≡ y → unwrap_or (cond y (Some n) None) (length v) ≡ index_of b v
    at true e = before b v
    at false e = omega (arith, ltb-false n (length v) e, before b v, index_le b v)

-- as it is returned
pub found : (b : ℕ) (v : List ℕ) {o : Option ℕ} → o ≡ position (λ x. x == b) v → unwrap_or o (length v) ≡ index_of b v
found b v e = ap (λ o. unwrap_or o (length v)) e ∙ place b v
