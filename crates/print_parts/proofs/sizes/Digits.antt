-- A size as it is read, digit by digit. Assumes nothing.
use mathlib.Core.Path.{◌≡◌, refl, ap, ◌∙◌}
use mathlib.Core.Bool.{Bool, true, false, cond, ◌&&◌}
use mathlib.Core.List.{List, [], ◌∷◌}
use Rattle.std.specs.Prelude.{Option, Some, None}
use Prim.Native.Nat.{ℕ, ◌+◌, ◌-◌, ◌*◌, ◌<◌, ◌≤◌}
use native.Mathlib.Numerals.{add-one}
use native.Mathlib.Omega.{arith}
use borrow.Author.Tests.{le-leb, lt-leb, leb-true}
use lib.Dec.{leb}
use lib.ListN.{length, get_or, drop, drop_of_length-le}
use lib.Seq.{drop-cons}
use Rattle.text_grammar.specs.Numbers.{val, value}
use Rattle.print_parts.specs.sizes.Sizes.{is_digit, are_digits, decimal, is_left_open, size_of}

-- ---- decimal digits

-- digits behind others of value n
abbrev decimal_from : ℕ → ℕ → List ℕ → Option ℕ
decimal_from most n s = cond (are_digits s && leb (val n s) most) (Some (val n s)) None

pub digit_least : (b : ℕ) → is_digit b ≡ true → (48 ≤ b) × (b ≤ 57)
digit_least b e = go (leb 48 b) (leb b 57) refl refl e
  where
    go : (x y : Bool) → leb 48 b ≡ x → leb b 57 ≡ y → (x && y) ≡ true → (48 ≤ b) × (b ≤ 57)
    go true true p q e = (leb-true 48 b p, leb-true b 57 q)
    go true false p q e = let k : ◌≡◌ {A = ℕ} 0 1 = cc in absurd (omega arith)
    go false y p q e = let k : ◌≡◌ {A = ℕ} 0 1 = cc in absurd (omega arith)

-- more digits never make the value less
val_least : (n : ℕ) (s : List ℕ) → n ≤ val n s
val_least n [] = omega arith
val_least n (b ∷ s) = omega (arith, val_least (n * 10 + (b - 48)) s)

over : (most n : ℕ) (s : List ℕ) → most < n → decimal_from most n s ≡ None
over most n s h = go (are_digits s)
  where
    go : (b : Bool) → cond (b && leb (val n s) most) (Some (val n s)) None ≡ None
    go true = rw (lt-leb (val n s) most (omega (arith, val_least n s)))
    go false = refl

module _ (most : ℕ) (s : List ℕ) where
  -- the first i bytes are digits of value n
  abbrev pub Read : ℕ → ℕ → Type 0
  Read i n = (n ≤ most) × (decimal most s ≡ decimal_from most n (drop i s))

  pub none_read : Read 0 0
  none_read = (omega arith, refl)

  module _ (i n : ℕ) (r : Read i n) (h : i < length s) where
    here : decimal most s ≡ decimal_from most n (get_or s i 0 ∷ drop (i + 1) s)
    here = let e : drop i s ≡ get_or s i 0 ∷ drop (i + 1) s = drop-cons s i 0 h ∙ rw add-one in r.1 ∙ ap (decimal_from most n) e

    next : is_digit (get_or s i 0) ≡ true → decimal most s ≡ decimal_from most (n * 10 + (get_or s i 0 - 48)) (drop (i + 1) s)
    next e =
        here ∙ ap (λ (x : Bool).
        cond ((x && are_digits (drop (i + 1) s)) && leb (val n (get_or s i 0 ∷ drop (i + 1) s)) most) (Some (val n (get_or s i 0 ∷ drop (i + 1) s))) None) e

    pub no_digit : is_digit (get_or s i 0) ≡ false → decimal most s ≡ None
    no_digit e =
        here ∙ ap (λ (x : Bool).
        cond ((x && are_digits (drop (i + 1) s)) && leb (val n (get_or s i 0 ∷ drop (i + 1) s)) most) (Some (val n (get_or s i 0 ∷ drop (i + 1) s))) None) e

    pub digit_read : is_digit (get_or s i 0) ≡ true → n * 10 + (get_or s i 0 - 48) ≤ most → Read (i + 1) (n * 10 + (get_or s i 0 - 48))
    digit_read e k = (k, next e)

    pub digit_over : is_digit (get_or s i 0) ≡ true → most < n * 10 + (get_or s i 0 - 48) → decimal most s ≡ None
    digit_over e k = next e ∙ over most (n * 10 + (get_or s i 0 - 48)) (drop (i + 1) s) k

  pub all_read : (i n : ℕ) → Read i n → length s ≤ i → decimal most s ≡ Some n
  all_read i n r h = r.1 ∙ ap (decimal_from most n) (drop_of_length-le s {i = i} h) ∙ rw (le-leb n most r.0)

  -- ---- the answer

  pub size_least : (n : ℕ) → size_of most s ≡ Some n → n ≤ most
  size_least n e = go (is_left_open s) (are_digits s) (leb (value s) most) refl e
    where
      go : (o d x : Bool) → leb (value s) most ≡ x → cond o (Some most) (cond (d && x) (Some (value s)) None) ≡ Some n → n ≤ most
      go true d x q e = let k : most ≡ n = cc in omega arith
      go false true true q e = let k : value s ≡ n = cc in omega (arith, leb-true (value s) most q)
      go false true false q e = let k : ◌≡◌ {A = ℕ} 0 1 = cc in absurd (omega arith)
      go false false x q e = let k : ◌≡◌ {A = ℕ} 0 1 = cc in absurd (omega arith)
