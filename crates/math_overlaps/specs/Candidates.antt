-- The candidates of a pair of fields: the lengths that a shared run can have, and the one with a list variable.
use Rattle.std.specs.Prelude.{Bool, cond, List, [], ◌∷◌, ◌++◌, map, ℕ, zero, suc, ◌+◌, ◌-◌, max, eqb, leb, length}
use Rattle.math_overlaps.specs.Shapes.{Shape, closed, gapped}

-- a candidate, one way to align two sequences: a length, or atoms with a list variable between them
pub data Cand : Type 0 where
  exact : ℕ → Cand
  long : Cand

-- the numbers from a on, k of them
abbrev pub range : ℕ → ℕ → List ℕ
range a zero = []
range a (suc k) = a ∷ range (suc a) k

module _ {A L : Type 0} where
  -- document 01: "h1 atoms before its list variable"; without one, all
  abbrev pub before : Shape A L → ℕ
  before (closed xs) = length xs
  before (gapped f l t) = length f

  -- "and t1 after"
  abbrev pub behind : Shape A L → ℕ
  behind (closed xs) = 0
  behind (gapped f l t) = length t

  -- the field can have n items: without a list variable its atom count only, with one any number from its atom count on
  abbrev pub can_have : Shape A L → ℕ → Bool
  can_have (closed xs) n = eqb (length xs) n
  can_have (gapped f l t) n = leb (length f + length t) n

module _ {A L M : Type 0} where
  -- "H and T are the larger of each": H + T
  abbrev pub wide : Shape A L → Shape A M → ℕ
  wide S T = max (before S) (before T) + max (behind S) (behind T)

  -- "M is the larger of h1+t1 and h2+t2"
  abbrev pub least : Shape A L → Shape A M → ℕ
  least S T = max (before S + behind S) (before T + behind T)

  -- "The candidates are: each length from M to H+T-1, then one with H atoms, a list variable and T atoms. If a side has no
  -- list variable, its atom count is the only candidate length, provided the other side can have it."
  abbrev pub cands : Shape A L → Shape A M → List Cand
  cands (closed xs) T = cond (can_have T (length xs)) (exact (length xs) ∷ []) []
  cands (gapped f l t) (closed ys) = cond (can_have (gapped f l t) (length ys)) (exact (length ys) ∷ []) []
  cands (gapped f l t) (gapped p m q) =
      let S = gapped f l t in let T = gapped p m q in
      map exact (range (least S T) (wide S T - least S T)) ++ long ∷ []
