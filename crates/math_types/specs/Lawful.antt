-- A table of n by n that passes one computed test is an order on the numbers below n.
-- The table is any function of two numbers, so that another table with more types only states its test.
--     lawful         the test
--     entry-refl, entry-anti, entry-trans, entry-meet    what it gives
use Rattle.std.specs.Prelude.{◌≡◌, refl, ◌⊎◌, Bool, true, false, ℕ, ◌<◌, T, eqb}
use Rattle.std.proofs.Common.{inl, inr, eqb→eq}
use Rattle.std.proofs.lemmas.Bool.{false≢true}
use Rattle.base_lists.specs.Tables.{both, both_left, both_right, all_below, all_below_lem}

abbrev pub implies : Bool → Bool → Bool
implies true b = b
implies false b = true

pub implied : (a b : Bool) → T (implies a b) → T a → T b
implied true b t h = t
implied false b t h = absurd h

abbrev pub either : Bool → Bool → Bool
either true b = true
either false b = b

is_true : (b : Bool) → T b → b ≡ true
is_true true t = refl
is_true false t = absurd t

-- from two premises that hold
follows : (a b c : Bool) → T (implies a (implies b c)) → a ≡ true → b ≡ true → T c
follows true true c t p q = t
follows true false c t p q = absurd (false≢true q)
follows false b c t p q = absurd (false≢true p)

one_of : (a b : Bool) → T (either a b) → (a ≡ true) ⊎ (b ≡ true)
one_of true b t = inl refl
one_of false b t = inr (is_true b t)

-- ---- the test
module _ (entry : ℕ → ℕ → Bool) where
  abbrev pub anti_at : ℕ → ℕ → Bool
  anti_at x y = implies (entry x y) (implies (entry y x) (eqb x y))

  abbrev pub trans_at : ℕ → ℕ → ℕ → Bool
  trans_at x y z = implies (entry x y) (implies (entry y z) (entry x z))

  -- two that have a lower one in common are comparable
  abbrev pub meet_at : ℕ → ℕ → ℕ → Bool
  meet_at x y z = implies (entry x y) (implies (entry x z) (either (entry y z) (entry z y)))

  abbrev pub lawful_at : ℕ → ℕ → ℕ → Bool
  lawful_at x y z = both (both (entry x x) (anti_at x y)) (both (trans_at x y z) (meet_at x y z))

  abbrev pub lawful : ℕ → Bool
  lawful n = all_below (λ x. all_below (λ y. all_below (λ z. lawful_at x y z) n) n) n

-- ---- what it gives
module _ (entry : ℕ → ℕ → Bool) (n : ℕ) (t : T (lawful entry n)) where
  at : (x y z : ℕ) → x < n → y < n → z < n → T (lawful_at entry x y z)
  at x y z hx hy hz =
      all_below_lem (λ z. lawful_at entry x y z) n
      (all_below_lem (λ y. all_below (λ z. lawful_at entry x y z) n) n
      (all_below_lem (λ x. all_below (λ y. all_below (λ z. lawful_at entry x y z) n) n) n t x hx) y hy) z hz

  left : (x y z : ℕ) → x < n → y < n → z < n → T (both (entry x x) (anti_at entry x y))
  left x y z hx hy hz =
      both_left (both (entry x x) (anti_at entry x y)) (both (trans_at entry x y z) (meet_at entry x y z)) (at x y z hx hy hz)

  right : (x y z : ℕ) → x < n → y < n → z < n → T (both (trans_at entry x y z) (meet_at entry x y z))
  right x y z hx hy hz =
      both_right (both (entry x x) (anti_at entry x y)) (both (trans_at entry x y z) (meet_at entry x y z)) (at x y z hx hy hz)

  pub entry_refl : (x : ℕ) → x < n → entry x x ≡ true
  entry_refl x h = is_true (entry x x) (both_left (entry x x) (anti_at entry x x) (left x x x h h h))

  pub entry_anti : (x y : ℕ) → x < n → y < n → entry x y ≡ true → entry y x ≡ true → x ≡ y
  entry_anti x y hx hy p q =
      eqb→eq x y (follows (entry x y) (entry y x) (eqb x y) (both_right (entry x x) (anti_at entry x y) (left x y x hx hy hx)) p q)

  pub entry_trans : (x y z : ℕ) → x < n → y < n → z < n → entry x y ≡ true → entry y z ≡ true → entry x z ≡ true
  entry_trans x y z hx hy hz p q =
      is_true (entry x z)
      (follows (entry x y) (entry y z) (entry x z) (both_left (trans_at entry x y z) (meet_at entry x y z) (right x y z hx hy hz)) p q)

  pub entry_meet : (x y z : ℕ) → x < n → y < n → z < n → entry x y ≡ true → entry x z ≡ true → (entry y z ≡ true) ⊎ (entry z y ≡ true)
  entry_meet x y z hx hy hz p q =
      one_of (entry y z) (entry z y)
      (follows (entry x y) (entry x z) (either (entry y z) (entry z y))
      (both_right (trans_at entry x y z) (meet_at entry x y z) (right x y z hx hy hz)) p q)
