-- A rule of a table, and of every number below a bound, from one test that is computed.
use Rattle.std.specs.Prelude.{◌≡◌, Bool, true, false, List, [], ◌∷◌, ℕ, zero, suc, ◌<◌, T, length, get_or}
use Rattle.std.proofs.Common.{arith}

abbrev pub both : Bool → Bool → Bool
both true b = b
both false b = false

pub both_left : (a b : Bool) → T (both a b) → T a
both_left true b t = tt
both_left false b t = t

pub both_right : (a b : Bool) → T (both a b) → T b
both_right true b t = t
both_right false b t = absurd t

-- the test at every number below n
abbrev pub all_below : (ℕ → Bool) → ℕ → Bool
all_below f zero = true
all_below f (suc n) = both (f zero) (all_below (λ k. f (suc k)) n)

pub all_below_lem : (f : ℕ → Bool) (n : ℕ) → T (all_below f n) → (k : ℕ) → k < n → T (f k)
all_below_lem f zero t k h = absurd (omega arith)
all_below_lem f (suc n) t zero h = both_left (f zero) (all_below (λ k. f (suc k)) n) t
all_below_lem f (suc n) t (suc k) h = all_below_lem (λ k. f (suc k)) n (both_right (f zero) (all_below (λ k. f (suc k)) n) t) k (omega arith)

-- the entries of a table of any type with a test of sameness
module _ {A : Type 0} (same : A → A → Bool) (is : (x y : A) → T (same x y) → x ≡ y) (d : A) where
  abbrev pub every : (ℕ → A) → List A → Bool
  every f [] = true
  every f (x ∷ xs) = both (same x (f zero)) (every (λ k. f (suc k)) xs)

  pub table : (f : ℕ → A) (xs : List A) → T (every f xs) → (k : ℕ) → k < length xs → get_or xs k d ≡ f k
  table f [] t k h = absurd (omega arith)
  table f (x ∷ xs) t zero h = is x (f zero) (both_left (same x (f zero)) (every (λ k. f (suc k)) xs) t)
  table f (x ∷ xs) t (suc k) h = table (λ k. f (suc k)) xs (both_right (same x (f zero)) (every (λ k. f (suc k)) xs) t) k (omega arith)
