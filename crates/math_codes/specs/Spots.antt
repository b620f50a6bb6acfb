-- A field of a rule as numbers: its first place, how many atoms stand before and behind its list variable, and that variable's name.
-- Its atoms are then two runs of places, and a position of n items has a place that is computed, not stored.
use Rattle.std.specs.Prelude.{Bool, cond, ℕ, zero, suc, ◌+◌, ◌-◌, max, eqb, leb, ltb}
use Rattle.std.proofs.Math.Option.{Option, none, some}
use mathlib.Core.List.{List, [], ◌∷◌, ◌++◌, map, foldl}
use Rattle.math_types.specs.Order.{Full, basic, list}
use Rattle.math_terms.specs.Terms.{Term, con, var}
use Rattle.math_terms.specs.Matcher.{and_then}
use Rattle.math_overlaps.specs.Shapes.{Shape, closed, gapped}
use Rattle.math_overlaps.specs.Candidates.{Cand, exact, long, range}
use Rattle.math_codes.specs.Tables.{Table}
use Rattle.math_codes.specs.States.{join_places}

-- a field's numbers
pub record Spot (L : Type 0) : Type 0 where
  pub base : ℕ
  pub head : ℕ
  pub tail : ℕ
  pub name : Option L

module _ {L : Type 0} where
  -- h places from b on, and t behind the list variable if there is one
  abbrev pub shape_from : ℕ → ℕ → ℕ → Option L → Shape ℕ L
  shape_from b h t none = closed (range b h)
  shape_from b h t (some l) = gapped (range b h) l (range (suc (b + h)) t)

  -- the field's shape over places
  abbrev pub spot_shape : Spot L → Shape ℕ L
  spot_shape s = shape_from s.base s.head s.tail s.name

-- ---- the scan of a field's terms

module _ {C K A : Type 0} where
  -- behind a list variable every term is counted there
  abbrev pub scan_at : ℕ → ℕ → ℕ → Option A → Term C (Full K) A → Spot A
  scan_at b h t (some l) u = record { base = b; head = h; tail = suc t; name = some l }
  scan_at b h t none (con c) = record { base = b; head = suc h; tail = t; name = none }
  scan_at b h t none (var (basic k) a) = record { base = b; head = suc h; tail = t; name = none }
  scan_at b h t none (var list a) = record { base = b; head = h; tail = t; name = some a }

  -- one term more
  abbrev pub scan_term : Spot A → Term C (Full K) A → Spot A
  scan_term s u = scan_at s.base s.head s.tail s.name u

  -- the numbers of a field, its first term at place b
  abbrev pub spot_of : ℕ → List (Term C (Full K) A) → Spot A
  spot_of b f = foldl scan_term (record { base = b; head = 0; tail = 0; name = none }) f

-- ---- the place at a position of n items

module _ {L : Type 0} where
  -- the last t of n positions stand from b on
  abbrev pub tail_at : Option L → ℕ → ℕ → ℕ → ℕ → Option ℕ
  tail_at none b t n p = none
  tail_at (some l) b t n p = cond (leb n (p + t)) (some (b + (p + t - n))) none

  -- none where no atom stands
  abbrev pub cell_at : Spot L → ℕ → ℕ → Option ℕ
  cell_at s n p = cond (ltb p s.head) (some (s.base + p)) (tail_at s.name (suc (s.base + s.head)) s.tail n p)

-- the left one, else the right one
abbrev pub pick_cell : Option ℕ → Option ℕ → ℕ
pick_cell (some x) q = x
pick_cell none (some y) = y
pick_cell none none = 0

-- ---- the joins of a candidate, position by position

module _ (below : ℕ → ℕ → Bool) (T : Table) where
  -- where both have a place
  abbrev pub join_cells : Option ℕ → Option ℕ → List ℕ → Option (List ℕ)
  join_cells none q atoms = some atoms
  join_cells (some x) none atoms = some atoms
  join_cells (some x) (some y) atoms = join_places below T x y atoms

  -- the positions from p on, k of them
  abbrev pub join_from : (ℕ → Option ℕ) → (ℕ → Option ℕ) → ℕ → ℕ → List ℕ → Option (List ℕ)
  join_from a b zero p atoms = some atoms
  join_from a b (suc k) p atoms = and_then (join_cells (a p) (b p) atoms) (λ next. join_from a b k (suc p) next)

-- ---- the candidates, from the numbers

module _ {L M : Type 0} where
  -- the heads, tails and list variables of the two fields
  abbrev pub cands_from : ℕ → ℕ → Option L → ℕ → ℕ → Option M → List Cand
  cands_from h t none h' t' none = cond (eqb h' h) (exact h ∷ []) []
  cands_from h t none h' t' (some m) = cond (leb (h' + t') h) (exact h ∷ []) []
  cands_from h t (some l) h' t' none = cond (leb (h + t) h') (exact h' ∷ []) []
  cands_from h t (some l) h' t' (some m) =
      map exact (range (max (h + t) (h' + t')) (max h h' + max t t' - max (h + t) (h' + t'))) ++ long ∷ []

  -- of two fields
  abbrev pub spot_cands : Spot L → Spot M → List Cand
  spot_cands s s' = cands_from s.head s.tail s.name s'.head s'.tail s'.name
