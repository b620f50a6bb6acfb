-- Arrays that are filled up to a place and blank behind it.
use Rattle.std.specs.Prelude.{Bool, true, false, ◌&&◌, List, [], ◌∷◌, ◌++◌, ℕ, zero, suc, ◌-◌, eqb, length, replicate}

-- s, then as many d as the array of w places has left
abbrev pub pad : {A : Type 0} → ℕ → A → List A → List A
pad w d s = s ++ replicate (w - length s) d

module _ {A : Type 0} where
  -- the first n pass `good`, the rest pass `blank`, and there are n
  abbrev pub filled : (A → Bool) → (A → Bool) → ℕ → List A → Bool
  filled good blank zero [] = true
  filled good blank (suc n) [] = false
  filled good blank zero (x ∷ xs) = blank x && filled good blank zero xs
  filled good blank (suc n) (x ∷ xs) = good x && filled good blank n xs

  -- the same of an array of w places; an array always has its length, which a list of these definitions has not
  abbrev pub filled_to : ℕ → (A → Bool) → (A → Bool) → ℕ → List A → Bool
  filled_to w good blank n xs = eqb (length xs) w && filled good blank n xs
