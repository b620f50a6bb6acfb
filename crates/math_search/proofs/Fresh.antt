-- The lowest number absent from a list is the lowest, and at most the list's length.
use mathlib.Core.Path.{◌≡◌, refl, sym, ◌∙◌, ap}
use mathlib.Core.Logic.{◌⊎◌, inl, inr, ite}
use mathlib.Core.List.Memᴰ
use mathlib.Core.List.{List, [], ◌∷◌, Memᴰ}
use Prim.Native.Nat.{ℕ, zero, suc, ◌≤◌, ◌<◌}
use native.Mathlib.Omega.{arith}
use native.Mathlib.Decide.{ℕ_discrete}
use lib.ListN.{length}
use Rattle.math_search.specs.Fresh.{member, top, seek, lowest}

seek_lowest : (k n : ℕ) (u : List ℕ) (j : ℕ) → n ≤ j → j < seek k n u → Memᴰ j u
seek_lowest zero n u j h g = absurd (omega arith)
seek_lowest (suc k) n u j h g = go (member n u) g (λ a b. seek_lowest k (suc n) u j a b) (ℕ_discrete n j)
  where
    go : (d : Dec (Memᴰ n u)) → j < ite d (seek k (suc n) u) n → (suc n ≤ j → j < seek k (suc n) u → Memᴰ j u) → Dec (n ≡ j) → Memᴰ j u
    go (yes y) g rec (yes e) = Memᴰ.cast (sym e) y
    go (yes y) g rec (no e) = rec (omega arith) g
    go (no y) g rec d = absurd (omega arith)

-- every number below it is in the list
pub lowest_lowest : (u : List ℕ) (j : ℕ) → j < lowest u → Memᴰ j u
lowest_lowest u j g = seek_lowest (top u) 0 u j (omega arith) g

-- a list without one occurrence of a member
without_one : (k : ℕ) (u : List ℕ) → Memᴰ k u → (v : List ℕ) × (length u ≡ suc (length v)) × ((j : ℕ) → (j ≡ k → ⊥) → Memᴰ j u → Memᴰ j v)
without_one k [] i = absurd (Memᴰ.not-nil i)
without_one k (m ∷ u) i = go (λ j. without_one k u j) (Memᴰ.cases_cons i)
  where
    other : (j : ℕ) → k ≡ m → (j ≡ k → ⊥) → (j ≡ m) ⊎ Memᴰ j u → Memᴰ j u
    other j e d (inl p) = absurd (d (p ∙ sym e))
    other j e d (inr i) = i

    later : (v : List ℕ) → ((j : ℕ) → (j ≡ k → ⊥) → Memᴰ j u → Memᴰ j v) → (j : ℕ) → (j ≡ k → ⊥) → (j ≡ m) ⊎ Memᴰ j u → Memᴰ j (m ∷ v)
    later v h j d (inl p) = Memᴰ.head p
    later v h j d (inr i) = Memᴰ.tail (h j d i)

    go : (Memᴰ k u → (v : List ℕ) × (length u ≡ suc (length v)) × ((j : ℕ) → (j ≡ k → ⊥) → Memᴰ j u → Memᴰ j v)) → (k ≡ m) ⊎ Memᴰ k u
        → (v : List ℕ) × (suc (length u) ≡ suc (length v)) × ((j : ℕ) → (j ≡ k → ⊥) → Memᴰ j (m ∷ u) → Memᴰ j v)
    go rec (inl e) = (u, refl, λ j d i. other j e d (Memᴰ.cases_cons i))
    go rec (inr i) = let r = rec i in (m ∷ r.0, ap suc r.1, λ j d i. later r.0 r.2 j d (Memᴰ.cases_cons i))

all_below_lem : (k : ℕ) (u : List ℕ) → ((j : ℕ) → j < k → Memᴰ j u) → k ≤ length u
all_below_lem zero u h = omega arith
all_below_lem (suc k) u h =
    let r = without_one k u (h k (omega arith)) in
    omega (arith, r.1, all_below_lem k r.0 (λ j g. r.2 j (λ e. omega arith) (h j (omega arith))))

pub lowest_small : (u : List ℕ) → lowest u ≤ length u
lowest_small u = all_below_lem (lowest u) u (lowest_lowest u)
