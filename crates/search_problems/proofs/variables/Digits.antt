-- Binary digits of numbers: of a union, of a power, and how many are set.
use mathlib.Core.Path.{◌≡◌, refl, ◌∙◌, ap}
use Prim.Native.Nat.{ℕ, zero, suc, ◌+◌, ◌-◌, ◌/◌, ◌%◌, ◌^◌, ◌≤◌, ◌<◌, max}
use native.Mathlib.Nat.{pow-succ'}
use native.Mathlib.Omega.{arith}
use lib.Bits.{bit_or, or_step, or_zero_r}
use lib.Count.{ones, ones_step, count_trailing_zeros, under, trailing_le}

-- digit n of w, lowest first
abbrev pub digit : ℕ → ℕ → ℕ
digit zero w = w % 2
digit (suc n) w = digit n (w / 2)

pub digit_zero : (n : ℕ) → digit n 0 ≡ 0
digit_zero zero = refl
digit_zero (suc n) = digit_zero n

pub digit_small : (n w : ℕ) → digit n w ≤ 1
digit_small zero w = omega arith
digit_small (suc n) w = digit_small n (w / 2)

or_half : (a b : ℕ) → bit_or a b / 2 ≡ bit_or (a / 2) (b / 2)
or_half a b = omega (arith, or_step a b)

power_half : (n : ℕ) → 2 ^ suc n / 2 ≡ 2 ^ n
power_half n = omega (arith, pow-succ' 2 n)

pub digit_or : (n a b : ℕ) → digit n (bit_or a b) ≡ max (digit n a) (digit n b)
digit_or zero a b = omega (arith, or_step a b)
digit_or (suc n) a b = ap (digit n) (or_half a b) ∙ digit_or n (a / 2) (b / 2)

pub digit_same : (n : ℕ) → digit n (2 ^ n) ≡ 1
digit_same zero = refl
digit_same (suc n) = ap (digit n) (power_half n) ∙ digit_same n

pub digit_other : (n m : ℕ) → (n ≡ m → ⊥) → digit n (2 ^ m) ≡ 0
digit_other zero zero d = absurd (d refl)
digit_other zero (suc m) d = omega (arith, pow-succ' 2 m)
digit_other (suc n) zero d = digit_zero n
digit_other (suc n) (suc m) d = ap (digit n) (power_half m) ∙ digit_other n m (λ e. d (ap suc e))

-- one more is set, unless it was
pub ones_more : (n a : ℕ) → ones (bit_or a (2 ^ n)) + digit n a ≡ suc (ones a)
ones_more zero a =
    let h : bit_or a 1 / 2 ≡ a / 2 = or_half a 1 ∙ or_zero_r (a / 2) in
    omega (arith, ones_step (bit_or a 1), ones_step a, or_step a 1, ap ones h)
ones_more (suc n) a =
    let h : bit_or a (2 ^ suc n) / 2 ≡ bit_or (a / 2) (2 ^ n) = or_half a (2 ^ suc n) ∙ ap (bit_or (a / 2)) (power_half n) in
    omega (arith, ones_step (bit_or a (2 ^ suc n)), ones_step a, or_step a (2 ^ suc n), pow-succ' 2 n, ap ones h, ones_more n (a / 2))

-- of a number of k digits: the zeros below the lowest set digit of the complement are those below the lowest digit that is not set
pub lowest_clear : (k w n : ℕ) → w < 2 ^ k → n < k → digit n w ≡ 0 → ((j : ℕ) → j < n → digit j w ≡ 1) → count_trailing_zeros k (2 ^ k - 1 - w) ≡ n
unfolding count_trailing_zeros
lowest_clear zero w n h g z o = absurd (omega arith)
lowest_clear (suc k) w zero h g z o = ap (λ (r : ℕ). under r (count_trailing_zeros k ((2 ^ suc k - 1 - w) / 2))) odd
  where
    odd : (2 ^ suc k - 1 - w) % 2 ≡ 1
    odd = omega (arith, pow-succ' 2 k)
lowest_clear (suc k) w (suc n) h g z o =
    ap (λ (r : ℕ). under r (count_trailing_zeros k ((2 ^ suc k - 1 - w) / 2))) even
    ∙ ap (λ (c : ℕ). suc (count_trailing_zeros k c)) half
    ∙ ap suc (lowest_clear k (w / 2) n (omega (arith, pow-succ' 2 k)) (omega arith) z (λ j g. o (suc j) (omega arith)))
  where
    low : w % 2 ≡ 1
    low = o 0 (omega arith)

    even : (2 ^ suc k - 1 - w) % 2 ≡ 0
    even = omega (arith, pow-succ' 2 k, low)

    half : (2 ^ suc k - 1 - w) / 2 ≡ 2 ^ k - 1 - w / 2
    half = omega (arith, pow-succ' 2 k, low)

pub trailing_byte : (n : ℕ) → count_trailing_zeros 64 n < 256
trailing_byte n = omega (arith, trailing_le 64 n)
