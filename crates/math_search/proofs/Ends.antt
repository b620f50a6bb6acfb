-- THEOREM 1's OWN SENTENCE: there is no endless sequence of steps.
--     less-ends    the order of Theorem 1 has no endless descent
--     no-chain     no endless sequence of problems, each a child of the one before
use mathlib.Core.Path.{◌≡◌, refl, subst}
use mathlib.Core.List.Memᴰ
use mathlib.Core.List.{List, Memᴰ}
use Prim.Native.Nat.{ℕ, zero, suc, ◌<◌}
use native.Mathlib.Omega.{arith}
use Rattle.base_lists.specs.Seqs.{all_mem}
use Rattle.math_search.specs.Problems.{Setting, Field, Bindings, solved, equation, Problem, problem, rest}
use Rattle.math_search.specs.Rules.{Rule, children}
use Rattle.math_search.specs.Termination.{Less, first, second, third, fourth, size, size_part, head_part, type_part, Lower}
use Rattle.math_search.proofs.Searching.{steps_fall}

-- ---- the order

-- no endless descent from here: there is none from any lower one
pub data Ends : ℕ → ℕ → ℕ → ℕ → Type 0 where
  ends : {a b c d : ℕ} → ((a' b' c' d' : ℕ) → Less a' b' c' d' a b c d → Ends a' b' c' d') → Ends a b c d

-- one part after the other, from the last: below n it ends, if it does with every lower earlier part
module _ (a : ℕ) (A : (a' : ℕ) → a' < a → (b c d : ℕ) → Ends a' b c d) where
  module _ (b : ℕ) (B : (b' : ℕ) → b' < b → (c d : ℕ) → Ends a b' c d) where
    fourth_ends : (c : ℕ) → ((c' : ℕ) → c' < c → (d : ℕ) → Ends a b c' d) → (n d : ℕ) → d < n → Ends a b c d
    fourth_ends c C zero d h = absurd (omega arith)
    fourth_ends c C (suc n) d h = ends (λ a' b' c' d' l. go a' b' c' d' l (λ k. fourth_ends c C n d' k))
      where
        go : (a' b' c' d' : ℕ) → Less a' b' c' d' a b c d → (d' < n → Ends a b c d') → Ends a' b' c' d'
        go a' b' c' d' (first x) rec = A a' x b' c' d'
        go a' b' c' d' (second e x) rec = rw e (B b' x c' d')
        go a' b' c' d' (third e f x) rec = rw (e, f) (C c' x d')
        go a' b' c' d' (fourth e f g x) rec = rw (e, f, g) (rec (omega arith))

    third_ends : (n c : ℕ) → c < n → (d : ℕ) → Ends a b c d
    third_ends zero c h d = absurd (omega arith)
    third_ends (suc n) c h d = fourth_ends c (λ c' k d'. third_ends n c' (omega arith) d') (suc d) d (omega arith)

  second_ends : (n b : ℕ) → b < n → (c d : ℕ) → Ends a b c d
  second_ends zero b h c d = absurd (omega arith)
  second_ends (suc n) b h c d = third_ends b (λ b' k c' d'. second_ends n b' (omega arith) c' d') (suc c) c (omega arith) d

first_ends : (n a : ℕ) → a < n → (b c d : ℕ) → Ends a b c d
first_ends zero a h b c d = absurd (omega arith)
first_ends (suc n) a h b c d = second_ends a (λ a' k b' c' d'. first_ends n a' (omega arith) b' c' d') (suc b) b (omega arith) c d

pub less_ends : (a b c d : ℕ) → Ends a b c d
less_ends a b c d = first_ends (suc a) a (omega arith) b c d

-- ---- steps

module _ (E : Setting) (s : ℕ → Problem E) (steps : (n : ℕ) → (r : Rule) × Memᴰ (r, s (suc n)) (children E (s n))) where
  open E use {names}
  open names use {Name}

  -- the next one is a child of this one
  next : (n : ℕ) (p p' : Problem E) → s n ≡ p → s (suc n) ≡ p' → Memᴰ ((steps n).0, p') (children E p)
  next n p p' e f = subst (λ (k : Problem E). Memᴰ ((steps n).0, p') (children E k)) e
      (subst (λ (k : Problem E). Memᴰ ((steps n).0, k) (children E (s n))) f (steps n).1)

  -- a solved problem has no child
  not_solved : (n : ℕ) (σ : Bindings E) (u : List Name) → s n ≡ problem solved σ u → ⊥
  not_solved n σ u e = Memᴰ.not-nil (next n (problem solved σ u) (s (suc n)) e refl)

  descends : {a b c d : ℕ} → Ends a b c d → (n : ℕ) (L M : Field E) (σ : Bindings E) (u : List Name) → s n ≡ problem (equation L M) σ u
      → size_part E L M ≡ a → head_part E L ≡ b → type_part E L M ≡ c → size E L ≡ d → ⊥
  descends {a} {b} {c} {d} (ends f) n L M σ u e p q r t = go (s (suc n)) refl
      (λ L' M' σ' u' g l. descends (f (size_part E L' M') (head_part E L') (type_part E L' M') (size E L') l) (suc n) L' M' σ' u' g refl refl refl refl)
    where
      go : (k : Problem E) → s (suc n) ≡ k
          → ((L' M' : Field E) (σ' : Bindings E) (u' : List Name) → s (suc n) ≡ problem (equation L' M') σ' u'
          → Less (size_part E L' M') (head_part E L') (type_part E L' M') (size E L') a b c d → ⊥) → ⊥
      go (problem solved σ' u') g rec = not_solved (suc n) σ' u' g
      go (problem (equation L' M') σ' u') g rec = rec L' M' σ' u' g
          (rw (← p, ← q, ← r, ← t) (all_mem (λ k. Lower E (rest E k.1) L M) (children E (problem (equation L M) σ u)) (steps_fall E L M σ u)
          ((steps n).0, problem (equation L' M') σ' u') (next n (problem (equation L M) σ u) (problem (equation L' M') σ' u') e g)))

  -- THERE IS NO ENDLESS SEQUENCE P ⇒ P1 ⇒ P2 ..
  pub no_chain : ⊥
  no_chain = go (s 0) refl
    where
      go : (p : Problem E) → s 0 ≡ p → ⊥
      go (problem solved σ u) e = not_solved 0 σ u e
      go (problem (equation L M) σ u) e = descends (less_ends (size_part E L M) (head_part E L) (type_part E L M) (size E L)) 0 L M σ u e refl refl refl refl
