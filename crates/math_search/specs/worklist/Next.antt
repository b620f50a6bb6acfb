-- The next rule: the first number from k on, of those of the rules, that a test holds of; the number of the rules where none is left.
use Rattle.std.specs.Prelude.{◌≡◌, Bool, true, false, cond}
use Rattle.std.proofs.Common.{◌∙◌}
use Rattle.std.proofs.Math.Path.{ap}
use Prim.Native.Nat.{ℕ, zero, suc, ◌+◌, ◌-◌, ◌<◌, ◌≤◌}
use native.Mathlib.Omega.{arith}
use Rattle.math_search.specs.Rules.{rule_count}

-- n numbers are left
unfoldable pub next_in : ℕ → (ℕ → Bool) → ℕ → ℕ
next_in zero ok k = rule_count
next_in (suc n) ok k = cond (ok k) k (next_in n ok (k + 1))

abbrev pub next_ok : (ℕ → Bool) → ℕ → ℕ
next_ok ok k = next_in (rule_count - k) ok k

module _ (ok : ℕ → Bool) (k : ℕ) where
  pub next_end : rule_count ≤ k → next_ok ok k ≡ rule_count
  unfolding next_in
  next_end h = ap (λ (n : ℕ). next_in n ok k) none
    where
      none : rule_count - k ≡ 0
      none = omega arith

  module _ (low : k < rule_count) where
    one_less : next_ok ok k ≡ cond (ok k) k (next_ok ok (k + 1))
    unfolding next_in
    one_less = ap (λ (n : ℕ). next_in n ok k) some
      where
        some : rule_count - k ≡ suc (rule_count - (k + 1))
        some = omega arith

    pub next_here : ok k ≡ true → next_ok ok k ≡ k
    next_here e = one_less ∙ ap (λ (b : Bool). cond b k (next_ok ok (k + 1))) e

    pub next_on : ok k ≡ false → next_ok ok k ≡ next_ok ok (k + 1)
    next_on e = one_less ∙ ap (λ (b : Bool). cond b k (next_ok ok (k + 1))) e
