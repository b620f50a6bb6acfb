-- Refusal 8 in its stated case only, once for every answer that has it.
use mathlib.Core.Path.{◌≡◌, refl, ap}
use mathlib.Core.Logic.{◌↔◌}
use mathlib.Core.Bool.{Bool, true, false, cond}
use mathlib.Core.Option.{Option, none, some}
use mathlib.Core.List.{List}
use Prim.Native.Nat.{ℕ, ◌≤◌, ◌<◌}
use native.Mathlib.Omega.{arith}
use lib.Dec.{leb}
use borrow.Author.Tests.{le-leb, lt-leb, leb-true, leb-false}
use Rattle.text_grammar.specs.Told.{by_room}

-- the number, by whether there is room
abbrev numbered : Bool → Option ℕ
numbered b = cond b none (some 8)

by_eight : (b : Bool) → numbered b ≡ some 8 → b ≡ false
by_eight true e = let z : ◌≡◌ {A = ℕ} 0 1 = cc in absurd (omega arith)
by_eight false e = refl

by_none : (b : Bool) → numbered b ≡ none → b ≡ true
by_none true e = refl
by_none false e = let z : ◌≡◌ {A = ℕ} 0 1 = cc in absurd (omega arith)

module _ (needed lent : ℕ) (values : List ℕ) where
  -- refused by 8 exactly where more bytes are needed than lent
  pub eight_iff : ((by_room needed lent values).number ≡ some 8) ↔ (lent < needed)
  eight_iff = (λ e. leb-false needed lent (by_eight (leb needed lent) e), λ h. ap numbered (lt-leb needed lent h))

  -- and not at all exactly where they have room
  pub fits_iff : ((by_room needed lent values).number ≡ none) ↔ (needed ≤ lent)
  fits_iff = (λ e. leb-true needed lent (by_none (leb needed lent) e), λ h. ap numbered (le-leb needed lent h))
