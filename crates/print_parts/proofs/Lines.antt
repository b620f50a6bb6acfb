-- The place behind a line's tab. Assumes nothing.
use mathlib.Core.Path.{◌≡◌, sym, ap, ◌∙◌}
use mathlib.Core.List.{List}
use Prim.Native.Nat.{ℕ, suc, ◌+◌, ◌-◌, ◌≤◌, min}
use native.Mathlib.Omega.{arith}
use native.Mathlib.Decide.{dec_le}
use lib.ListN.{length, take, drop, length-drop, drop_of_length-le}
use lib.Seq.{take_all}

-- what is lent from there on is all that stands behind the tab
pub behind_tab : (t : List ℕ) (tab rest : ℕ) → rest ≡ min (tab + 1) (length t) → take (length t - rest) (drop rest t) ≡ drop (suc tab) t
behind_tab t tab rest is = take_all (length t - rest) (drop rest t) (omega (arith, length-drop rest t)) ∙ go (dec_le (tab + 1) (length t))
  where
    go : Dec (tab + 1 ≤ length t) → drop rest t ≡ drop (suc tab) t
    go (yes h) = ap (λ (i : ℕ). drop i t) (let e : rest ≡ suc tab = omega arith in e)
    go (no h) = drop_of_length-le t {i = rest} (omega arith) ∙ sym (drop_of_length-le t {i = suc tab} (omega arith))
