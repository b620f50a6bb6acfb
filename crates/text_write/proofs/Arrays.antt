-- A law of arrays whose first n places are in use. Assumes nothing.
use mathlib.Core.Path.{◌≡◌, refl, sym, ◌∙◌}
use mathlib.Core.Bool.{Bool, true, false}
use mathlib.Core.List.{List}
use Prim.Native.Nat.{ℕ, min}
use native.Mathlib.Omega.{arith}
use lib.Dec.{leb}
use lib.ListN.{length, take}
use lib.Seq.{take_all}
use borrow.Author.Tests.{leb-true, leb-false}

module _ {A : Type 0} where
  -- a count past the array's end counts for the array's length
  pub take_most : (k n w : ℕ) (xs : List A) → length xs ≡ w → n ≡ min k w → take k xs ≡ take n xs
  take_most k n w xs h e = go (leb k w) refl
    where
      go : (b : Bool) → leb k w ≡ b → take k xs ≡ take n xs
      go true q = let l : n ≡ k = omega (arith, leb-true k w q) in rw l
      go false q =
          let l : n ≡ w = omega (arith, leb-false k w q) in
          rw l (take_all k xs (omega (arith, leb-false k w q)) ∙ sym (take_all w xs (omega arith)))
