-- The state as a list of codes by place, and the join of two places.
use Rattle.std.specs.Prelude.{Bool, cond, ◌&&◌, List, [], ◌∷◌, map, ℕ, eqb, get_or}
use Rattle.std.proofs.Math.Option.{Option, none, some}
use Rattle.math_terms.specs.Matcher.{and_then}
use Rattle.math_codes.specs.Tables.{Table}

-- every x becomes w
abbrev pub swap : ℕ → ℕ → ℕ → ℕ
swap x w c = cond (eqb c x) w c

-- at every place
abbrev pub replaced : ℕ → ℕ → List ℕ → List ℕ
replaced x w atoms = map (swap x w) atoms

-- by whether the two codes are one, and which of them takes the other
abbrev pub joined_by : Bool → Bool → Bool → ℕ → ℕ → List ℕ → Option (List ℕ)
joined_by p q r x y atoms = cond p (some atoms) (cond q (some (replaced x y atoms)) (cond r (some (replaced y x atoms)) none))

-- `below` is the order's table of ranks
module _ (below : ℕ → ℕ → Bool) (T : Table) where
  -- x is a variable, and y's type is at or below its own
  abbrev pub takes : ℕ → ℕ → Bool
  takes x y = T.variable x && below (T.kind y) (T.kind x)

  -- of two classes, given by their codes
  abbrev pub join_codes : ℕ → ℕ → List ℕ → Option (List ℕ)
  join_codes x y atoms = joined_by (eqb x y) (takes x y) (takes y x) x y atoms

  -- of two atoms, given by places that hold them
  abbrev pub join_places : ℕ → ℕ → List ℕ → Option (List ℕ)
  join_places p q atoms = join_codes (get_or atoms p 0) (get_or atoms q 0) atoms

  -- all of them, one after the other
  abbrev pub joins_places : List (ℕ × ℕ) → List ℕ → Option (List ℕ)
  joins_places [] atoms = some atoms
  joins_places (e ∷ es) atoms = and_then (join_places e.0 e.1 atoms) (λ next. joins_places es next)
