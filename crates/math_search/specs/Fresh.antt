-- List variables as numbers: "the fresh list variable is the lowest number absent from that set" (document 01).
use Rattle.std.specs.Prelude.{◌≡◌, ◌⊎◌, ℕ, zero, suc, ◌+◌, ◌≤◌, ◌<◌, max}
use Rattle.std.proofs.Common.{inl, inr, arith}
use Rattle.std.proofs.Math.Logic.{ite}
use mathlib.Core.List.Memᴰ
use mathlib.Core.List.{List, [], ◌∷◌, Memᴰ}
use Rattle.std.proofs.Math.Decide.{ℕ_discrete}
use Rattle.base_lists.specs.Seqs.{mem?}
use Rattle.math_search.specs.Problems.{Names}

abbrev pub member : (n : ℕ) (u : List ℕ) → Dec (Memᴰ n u)
member n u = mem? ℕ_discrete n u

-- above every member
abbrev pub top : List ℕ → ℕ
top [] = 0
top (n ∷ u) = max (suc n) (top u)

-- the first of the k numbers from n on that is absent, else the one behind them
abbrev pub seek : ℕ → ℕ → List ℕ → ℕ
seek zero n u = n
seek (suc k) n u = let r = seek k (suc n) u in ite (member n u) r n

-- `lowest_new` here and `lowest_lowest` of proofs/Fresh say that it is the lowest number absent
abbrev pub lowest : List ℕ → ℕ
lowest u = seek (top u) 0 u

under_top : (n : ℕ) (u : List ℕ) → Memᴰ n u → n < top u
under_top n [] i = absurd (Memᴰ.not-nil i)
under_top n (m ∷ u) i = go (λ j. under_top n u j) (Memᴰ.cases_cons i)
  where
    go : (Memᴰ n u → n < top u) → (n ≡ m) ⊎ Memᴰ n u → n < max (suc m) (top u)
    go rec (inl e) = omega arith
    go rec (inr j) = omega (arith, rec j)

seek_new : (k n : ℕ) (u : List ℕ) → top u ≤ n + k → Memᴰ (seek k n u) u → ⊥
seek_new zero n u h i = omega (arith, under_top n u i)
seek_new (suc k) n u h i = go (member n u) i (λ j. seek_new k (suc n) u (omega arith) j)
  where
    go : (d : Dec (Memᴰ n u)) → Memᴰ (ite d (seek k (suc n) u) n) u → (Memᴰ (seek k (suc n) u) u → ⊥) → ⊥
    go (yes y) i rec = rec i
    go (no y) i rec = y i

pub lowest_new : (u : List ℕ) → Memᴰ (lowest u) u → ⊥
lowest_new u i = seek_new (top u) 0 u (omega arith) i

abbrev pub numbers : Names
numbers = record { Name = ℕ; name_eq = ℕ_discrete; pick = lowest; pick_new = lowest_new }
