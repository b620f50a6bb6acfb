-- Laws of stores: a text behind another is both written in one. Assumes nothing.
use mathlib.Core.Path.{◌≡◌, sym, ap, ap₂, ◌∙◌}
use mathlib.Core.List.{List, ◌∷◌, ◌++◌}
use Prim.Native.Nat.{ℕ, ◌+◌}
use native.Mathlib.Numerals.{add-one}
use native.Mathlib.Omega.{arith}
use lib.ListN.{length, set, length-append}
use lib.Seq.{sets}
use Rattle.base_lists.specs.Arrays.{sets_append}
use Rattle.text_write.specs.Room.{Put}

-- a at `at`, and then b behind it, is a ++ b at `at`
pub put_behind : (a b l : List ℕ) (at : ℕ) {l' l'' : List ℕ} {p r : ℕ} → p ≡ at + length a → l' ≡ sets l at a → r ≡ p + length b → l'' ≡ sets l' p b
    → Put (a ++ b) at l r l''
put_behind a b l at {l'} {l''} {p} {r} hp hl hr hm = (
  omega (arith, length-append a b),
  hm ∙ ap₂ (λ (m : List ℕ) (q : ℕ). sets m q b) hl hp ∙ sets_append a b l at,
)

-- a byte at `at`, and then a behind it
pub put_cons : (b : ℕ) (a l : List ℕ) (at : ℕ) → sets (set l at b) (at + 1) a ≡ sets l at (b ∷ a)
put_cons b a l at = ap (λ (k : ℕ). sets (set l at b) k a) (add-one at)

-- what is written of one text is written of another that is the same
pub put_as : {a b : List ℕ} (l : List ℕ) (at : ℕ) {l' : List ℕ} {r : ℕ} → b ≡ a → Put a at l r l' → Put b at l r l'
put_as l at e h = (h.0 ∙ ap (λ (s : List ℕ). at + length s) (sym e), h.1 ∙ ap (sets l at) (sym e))
