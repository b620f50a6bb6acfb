-- Laws of decimal numbers.
use mathlib.Core.Path.{◌≡◌, refl, sym, ◌∙◌, ap, ap₂}
use mathlib.Core.Logic.{◌≢◌}
use mathlib.Core.List.{List, [], ◌∷◌, ◌++◌, append_assoc, append-nil}
use Prim.Native.Nat.{ℕ, zero, suc, ◌+◌, ◌*◌, ◌-◌, ◌/◌, ◌%◌, ◌^◌, ◌≤◌, ◌<◌}
use native.Mathlib.Omega.{arith}
use native.Mathlib.Decide.{dec_lt}
use lib.ListN.{length, length-append}
use Rattle.base_limits.specs.Limits.{most_digits, largest_integer}
use Rattle.base_lists.specs.Seqs.{All, IsCons, all_append}
use Rattle.text_grammar.specs.Bytes.{Digit}
use Rattle.text_grammar.specs.Numbers.{Number, val, value, dec_c, dec, digits_of}

pub val_append : (s t : List ℕ) (v : ℕ) → val v (s ++ t) ≡ val (val v s) t
val_append [] t v = refl
val_append (d ∷ s) t v = val_append s t (v * 10 + (d - 48))

dec_digits : (k n : ℕ) → All Digit (dec k n)
dec_digits zero n = tt
dec_digits (suc k) n = go (dec_lt n 10) (λ m. dec_digits k m)
  where
    go : (d : Dec (n < 10)) → ((m : ℕ) → All Digit (dec k m)) → All Digit (dec_c n d (dec k))
    go (yes p) rec = ((omega arith, omega arith), tt)
    go (no p) rec = all_append Digit (dec k (n / 10)) ((48 + n % 10) ∷ []) (rec (n / 10)) ((omega arith, omega arith), tt)

dec_value : (k n : ℕ) → n < k → value (dec k n) ≡ n
dec_value zero n h = absurd (omega arith)
dec_value (suc k) n h = go (dec_lt n 10) (λ m l. dec_value k m l)
  where
    go : (d : Dec (n < 10)) → ((m : ℕ) → m < k → value (dec k m) ≡ m) → value (dec_c n d (dec k)) ≡ n
    go (yes p) rec = omega arith
    go (no p) rec =
        let e : value (dec k (n / 10)) ≡ n / 10 = rec (n / 10) (omega arith) in
        val_append (dec k (n / 10)) ((48 + n % 10) ∷ []) 0 ∙ ap (λ (v : ℕ). v * 10 + (48 + n % 10 - 48)) e ∙ (omega arith)

abbrev Lead : List ℕ → Type 0
Lead [] = ⊥
Lead (d ∷ ds) = d ≢ 48

lead_append : (s t : List ℕ) → Lead s → Lead (s ++ t)
lead_append [] t h = absurd h
lead_append (d ∷ s) t h = h

lead_number : (s : List ℕ) → All Digit s → Lead s → Number s
lead_number [] a h = h
lead_number (d ∷ []) a h = a.0
lead_number (d ∷ (e ∷ s)) a h = (a.0, h, a.1)

dec_lead : (k n : ℕ) → n < k → 1 ≤ n → Lead (dec k n)
dec_lead zero n h l = absurd (omega arith)
dec_lead (suc k) n h l = go (dec_lt n 10) (λ m x y. dec_lead k m x y)
  where
    go : (d : Dec (n < 10)) → ((m : ℕ) → m < k → 1 ≤ m → Lead (dec k m)) → Lead (dec_c n d (dec k))
    go (yes p) rec = λ e. omega arith
    go (no p) rec = lead_append (dec k (n / 10)) ((48 + n % 10) ∷ []) (rec (n / 10) (omega arith) (omega arith))

dec_number : (k n : ℕ) → n < k → Number (dec k n)
dec_number zero n h = absurd (omega arith)
dec_number (suc k) n h = go (dec_lt n 10)
  where
    go : (d : Dec (n < 10)) → Number (dec_c n d (dec k))
    go (yes p) = (omega arith, omega arith)
    go (no p) =
        lead_number (dec k (n / 10) ++ (48 + n % 10) ∷ [])
        (all_append Digit (dec k (n / 10)) ((48 + n % 10) ∷ []) (dec_digits k (n / 10)) ((omega arith, omega arith), tt))
        (lead_append (dec k (n / 10)) ((48 + n % 10) ∷ []) (dec_lead k (n / 10) (omega arith) (omega arith)))

dec_length : (k n j : ℕ) → n < 10 ^ suc j → length (dec k n) ≤ suc j
dec_length zero n j h = omega arith
dec_length (suc k) n j h = go (dec_lt n 10) j h (λ m i x. dec_length k m i x)
  where
    go : (d : Dec (n < 10)) (j : ℕ) → n < 10 ^ suc j → ((m i : ℕ) → m < 10 ^ suc i → length (dec k m) ≤ suc i) → length (dec_c n d (dec k)) ≤ suc j
    go (yes p) j h rec = omega arith
    go (no p) zero h rec = absurd (p h)
    go (no p) (suc j) h rec = let l = rec (n / 10) j (omega arith) in simp length-append (omega arith)

pub digits_value : (n : ℕ) → value (digits_of n) ≡ n
digits_value n = dec_value (suc n) n (omega arith)

pub digits_number : (n : ℕ) → Number (digits_of n)
digits_number n = dec_number (suc n) n (omega arith)

pub number_digits : (s : List ℕ) → Number s → IsCons s × All Digit s
number_digits [] h = absurd h
number_digits (d ∷ []) h = (tt, (h, tt))
number_digits (d ∷ (e ∷ s)) h = (tt, (h.0, h.2))

-- no more digits than the power of ten above says
pub digits_most : (k n : ℕ) → n < 10 ^ suc k → length (digits_of n) ≤ suc k
digits_most k n h = dec_length (suc n) n k h

-- at most ten digits up to the largest integer
pub digits_ten : (n : ℕ) → n ≤ largest_integer → length (digits_of n) ≤ most_digits
digits_ten n h = digits_most 9 n (omega arith)

-- digits without leading zeros are those of their value
val_grows : (s : List ℕ) (v : ℕ) → v ≤ val v s
val_grows [] v = omega arith
val_grows (d ∷ s) v = let r = val_grows s (v * 10 + (d - 48)) in omega arith

-- the digits of n, followed by digits, are those of the value of all
dec_fuel : (k j n : ℕ) → n < k → n < j → dec k n ≡ dec j n
dec_fuel zero j n h g = absurd (omega arith)
dec_fuel (suc k) zero n h g = absurd (omega arith)
dec_fuel (suc k) (suc j) n h g = go (dec_lt n 10) (λ i m x y. dec_fuel k i m x y)
  where
    go : (d : Dec (n < 10)) → ((i m : ℕ) → m < k → m < i → dec k m ≡ dec i m) → dec_c n d (dec k) ≡ dec_c n d (dec j)
    go (yes p) rec = refl
    go (no p) rec = ap (λ (x : List ℕ). x ++ (48 + n % 10) ∷ []) (rec j (n / 10) (omega arith) (omega arith))

dec_more : (s : List ℕ) (k j n : ℕ) → All Digit s → 1 ≤ n → n < k → val n s < j → dec k n ++ s ≡ dec j (val n s)
dec_more [] k j n a l h g = append-nil (dec k n) ∙ dec_fuel k j n h g
dec_more (d ∷ s) k j n a l h g =
    sym (append_assoc (dec k n) (d ∷ []) s)
    ∙ ap (λ (x : List ℕ). x ++ s) (one (n * 10 + (d - 48)) refl)
    ∙ dec_more s (suc (n * 10 + (d - 48))) j (n * 10 + (d - 48)) a.1 (omega arith) (omega arith) g
  where
    one : (m : ℕ) → m ≡ n * 10 + (d - 48) → dec k n ++ (d ∷ []) ≡ dec (suc m) m
    one m e = go (dec_lt m 10)
      where
        go : (c : Dec (m < 10)) → dec k n ++ (d ∷ []) ≡ dec_c m c (dec m)
        go (yes p) = absurd (omega arith)
        go (no p) =
            ap₂ (λ (x : List ℕ) (y : ℕ). x ++ y ∷ []) (dec_fuel k m n h (omega arith) ∙ ap (dec m) (let z : n ≡ m / 10 = omega arith in z)) (omega arith)

-- a digit alone
pub digits_small : (n : ℕ) → n < 10 → digits_of n ≡ (48 + n) ∷ []
digits_small n h = go (dec_lt n 10)
  where
    go : (c : Dec (n < 10)) → dec_c n c (dec n) ≡ (48 + n) ∷ []
    go (yes p) = refl
    go (no p) = absurd (p h)

-- the last digit stands behind those of the tenth part
pub digits_more : (n : ℕ) → 10 ≤ n → digits_of n ≡ digits_of (n / 10) ++ (48 + n % 10) ∷ []
digits_more n h = go (dec_lt n 10)
  where
    go : (c : Dec (n < 10)) → dec_c n c (dec n) ≡ digits_of (n / 10) ++ (48 + n % 10) ∷ []
    go (yes p) = absurd (omega arith)
    go (no p) = ap (λ (x : List ℕ). x ++ (48 + n % 10) ∷ []) (dec_fuel n (suc (n / 10)) (n / 10) (omega arith) (omega arith))

pub one_digit : (n : ℕ) → n < 10 → length (digits_of n) ≡ 1
one_digit n h = ap length (digits_small n h)

pub one_more : (n : ℕ) → 10 ≤ n → length (digits_of n) ≡ length (digits_of (n / 10)) + 1
one_more n h = ap length (digits_more n h) ∙ length-append (digits_of (n / 10)) ((48 + n % 10) ∷ [])

-- digits without leading zeros are those of their value
pub digits_one : (s : List ℕ) → Number s → digits_of (value s) ≡ s
digits_one [] h = absurd h
digits_one (d ∷ []) h = digits_small (0 * 10 + (d - 48)) (omega arith) ∙ ap (λ (x : ℕ). x ∷ []) (omega arith)
digits_one (d ∷ (e ∷ s)) h =
    let n = 0 * 10 + (d - 48) in
    sym (dec_more (e ∷ s) (suc n) (suc (val n (e ∷ s))) n h.2 (omega (arith, h.1, h.0)) (omega arith) (omega arith))
    ∙ ap (λ (x : List ℕ). x ++ e ∷ s) (digits_small n (omega arith) ∙ ap (λ (x : ℕ). x ∷ []) (omega arith))
