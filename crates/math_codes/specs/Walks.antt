-- The recursion that the code makes: field by field over the numbers of the fields, the array handed on,
-- and at the end what is written for the choice.
use Rattle.std.specs.Prelude.{Bool, List, [], ◌∷◌, ◌++◌, ℕ, ◌+◌, max, get_or}
use Rattle.std.proofs.Math.Option.{Option, none, some}
use Rattle.base_lists.specs.Seqs.{tabulate}
use Rattle.math_terms.specs.Seqs.{concat_map}
use Rattle.math_overlaps.specs.Candidates.{Cand, exact, long}
use Rattle.math_codes.specs.Tables.{Table}
use Rattle.math_codes.specs.Spots.{Spot, cell_at, pick_cell, join_from, spot_cands}

-- nothing is written behind a clash
module _ {X : Type 0} where
  abbrev pub or_nothing : Option (List ℕ) → (List ℕ → List X) → List X
  or_nothing none k = []
  or_nothing (some next) k = k next

module _ {L M : Type 0} where
  -- how many atoms the entry's field has
  abbrev pub span_on : Spot L → Spot M → Cand → ℕ
  span_on s s' (exact n) = n
  span_on s s' long = max s.head s'.head + max s.tail s'.tail

  -- what the joins of a candidate make of the array
  abbrev pub joins_on : (ℕ → ℕ → Bool) → Table → Spot L → Spot M → Cand → List ℕ → Option (List ℕ)
  joins_on below T s s' c atoms = join_from below T (cell_at s (span_on s s' c)) (cell_at s' (span_on s s' c)) (span_on s s' c) 0 atoms

module _ (below : ℕ → ℕ → Bool) (T : Table) {L M X : Type 0} where
  -- what is written of the choices in their order, each with its last array
  abbrev pub walk_on : List (Spot L) → List (Spot M) → List ℕ → (List Cand → List ℕ → List X) → List X
  walk_on [] [] atoms write = write [] atoms
  walk_on [] (Q ∷ Qs) atoms write = []
  walk_on (P ∷ Ps) [] atoms write = []
  walk_on (P ∷ Ps) (Q ∷ Qs) atoms write =
      concat_map (λ c. or_nothing (joins_on below T P Q c atoms) (λ next. walk_on Ps Qs next (λ cs last. write (c ∷ cs) last))) (spot_cands P Q)

-- ---- the items of an entry's field, position by position; the list variable of field g is n + g

module _ {L M : Type 0} (atoms : List ℕ) (s : Spot L) (s' : Spot M) where
  -- the code at a position of m
  abbrev pub item_at : ℕ → ℕ → ℕ
  item_at m p = get_or atoms (pick_cell (cell_at s m p) (cell_at s' m p)) 0

  -- the field's items
  abbrev pub field_items : ℕ → ℕ → Cand → List ℕ
  field_items n g (exact m) = tabulate m (item_at m)
  field_items n g long =
      tabulate (max s.head s'.head) (item_at (span_on s s' long))
      ++ (n + g) ∷ tabulate (max s.tail s'.tail) (λ p. item_at (span_on s s' long) (max s.head s'.head + p))
