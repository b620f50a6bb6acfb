-- Laws of a list that stands in the first places of a larger array. Assumes nothing.
use mathlib.Core.Path.{◌≡◌, sym, ◌∙◌, ap}
use mathlib.Core.List.{List, [], ◌∷◌, ◌++◌, map, append_assoc}
use Prim.Native.Nat.{ℕ, suc, ◌+◌, ◌-◌, ◌<◌}
use native.Mathlib.Omega.{arith}
use lib.ListN.{length, take, set, replicate, length-append, length-map}
use lib.Seq.{set-append_seam, take_at}
use Rattle.text_values.specs.canonical.Filled.{pad}

-- one more in the place behind the used ones
pub pad_set : {A : Type 0} (w : ℕ) (d : A) (s : List A) (a : A) → length s < w → set (pad w d s) (length s) a ≡ pad w d (s ++ a ∷ [])
pad_set w d s a h =
    let k = w - (length s + 1) in
    let e : w - length s ≡ suc k = omega arith in
    let e' : w - length (s ++ a ∷ []) ≡ k = omega (arith, length-append s (a ∷ [])) in
    ap (λ (n : ℕ). set (s ++ replicate n d) (length s) a) e
    ∙ set-append_seam s d (replicate k d) a
    ∙ sym (append_assoc s (a ∷ []) (replicate k d))
    ∙ ap (λ (n : ℕ). (s ++ a ∷ []) ++ replicate n d) (sym e')

-- the used places
pub unpadded : {A B : Type 0} (w : ℕ) (d : B) (g : A → B) (s : List A) → take (length s) (pad w d (map g s)) ≡ map g s
unpadded w d g s = take_at (map g s) (replicate (w - length (map g s)) d) (length s) (length-map s g)
