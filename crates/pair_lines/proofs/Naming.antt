-- Naming an item keeps how many there are of counts and of numbers, and a count goes up by one at most.
use mathlib.Core.Path.{◌≡◌, refl}
use mathlib.Core.Bool.{Bool, true, false, cond}
use mathlib.Core.List.{List}
use Prim.Native.Nat.{ℕ, ◌+◌, ◌≤◌, ◌<◌}
use native.Mathlib.Omega.{arith}
use native.Mathlib.Decide.{ℕ_discrete, dec_lt}
use lib.Dec.{eqb}
use lib.ListN.{length, get_or, set, length-set}
use lib.Seq.{get_or-set_same, get_or-set_other, set_out}
use Rattle.math_codes.specs.Tables.{Table}
use Rattle.math_codes.specs.Names.{Names, counted, name_code}
use Rattle.pair_lines.specs.Lines.{Few}

-- as many as before
pub name_long : (T : Table) (x : Names) (c : ℕ)
    → (length (name_code T x c).counts ≡ length x.counts) × (length (name_code T x c).numbers ≡ length x.numbers)
name_long T x c = go (T.variable c) (eqb (get_or x.numbers c 0) 0)
  where
    go : (a b : Bool) → (length (cond a (cond b (counted T x c) x) x).counts ≡ length x.counts)
        × (length (cond a (cond b (counted T x c) x) x).numbers ≡ length x.numbers)
    go true true =
        let next = get_or x.counts (T.kind c) 0 + 1 in
        (length-set x.counts (T.kind c) next, length-set x.numbers c next)
    go true false = (refl, refl)
    go false b = (refl, refl)

few_set : (m : ℕ) (l : List ℕ) (i v : ℕ) → Few m l → v ≤ m → Few m (set l i v)
few_set m l i v h le k = go (ℕ_discrete k i) (dec_lt i (length l))
  where
    go : Dec (k ≡ i) → Dec (i < length l) → get_or (set l i v) k 0 ≤ m
    go (yes e) (yes p) = rw e (let z = get_or-set_same l i v 0 p in omega (arith, z))
    go (yes e) (no p) = rw (set_out l i v (omega arith)) (h k)
    go (no n) q = rw (get_or-set_other l i k v 0 n) (h k)

pub few_more : (m : ℕ) (l : List ℕ) → Few m l → Few (m + 1) l
few_more m l h i = omega (arith, h i)

-- one name more
pub few_name : (T : Table) (m : ℕ) (x : Names) (c : ℕ) → Few m x.counts → Few (m + 1) (name_code T x c).counts
few_name T m x c h = go (T.variable c) (eqb (get_or x.numbers c 0) 0)
  where
    go : (a b : Bool) → Few (m + 1) (cond a (cond b (counted T x c) x) x).counts
    go true true =
        few_set (m + 1) x.counts (T.kind c) (get_or x.counts (T.kind c) 0 + 1) (few_more m x.counts h) (omega (arith, h (T.kind c)))
    go true false = few_more m x.counts h
    go false b = few_more m x.counts h
