-- Fields as shapes over places, and the entries of two rules made on them.
use Rattle.std.specs.Prelude.{Bool, List, [], ◌∷◌, ◌++◌, map, ℕ, suc, ◌+◌, ◌-◌, ◌*◌, length, get_or, replicate}
use Rattle.std.proofs.Math.Option.{Option, none, some}
use Rattle.math_types.specs.Order.{Full, basic, list}
use Rattle.math_terms.specs.Terms.{Term, con, var}
use Rattle.math_terms.specs.Seqs.{concat_map}
use Rattle.math_overlaps.specs.Shapes.{Atom, fixed, free, Side, left, right, Variable, of, Shape, closed, with_atom, with_list, both}
use Rattle.math_overlaps.specs.Candidates.{Cand, cands}
use Rattle.math_overlaps.specs.Entries.{equations, branch, fields_for}
use Rattle.math_overlaps.specs.Overlaps.{map_shape}
use Rattle.math_codes.specs.Tables.{Table}
use Rattle.math_codes.specs.States.{joins_places}

-- ---- where the terms of a pair stand

module _ {C K A : Type 0} where
  -- the atom of a term; none of a list variable
  abbrev pub atom_of : Side → Term C (Full K) A → Option (Atom C (Variable K A))
  atom_of s (con c) = some (fixed c)
  atom_of s (var (basic k) a) = some (free (of s k a))
  atom_of s (var list a) = none

  -- a field's places: `w` of them, those behind its terms empty
  abbrev pub field_row : ℕ → Side → List (Term C (Full K) A) → List (Option (Atom C (Variable K A)))
  field_row w s f = map (atom_of s) f ++ replicate (w - length f) none

  -- a rule's places, field by field
  abbrev pub rule_row : ℕ → Side → List (List (Term C (Full K) A)) → List (Option (Atom C (Variable K A)))
  rule_row w s r = concat_map (field_row w s) r

  -- the pair's atoms by place: `h` fields of `w` places for the left rule, then the same for the right one
  abbrev pub pair_row : ℕ → ℕ → List (List (Term C (Full K) A)) → List (List (Term C (Full K) A)) → List (Option (Atom C (Variable K A)))
  pair_row w h r₁ r₂ =
      (rule_row w left r₁ ++ replicate (h * w - length r₁ * w) none) ++ (rule_row w right r₂ ++ replicate (h * w - length r₂ * w) none)

  -- ---- a field's shape over places, its first term at place b

  -- none where a field has two list variables
  abbrev pub place_shape : ℕ → List (Term C (Full K) A) → Option (Shape ℕ A)
  place_shape b [] = some (closed [])
  place_shape b (con c ∷ f) = with_atom b (place_shape (suc b) f)
  place_shape b (var (basic k) a ∷ f) = with_atom b (place_shape (suc b) f)
  place_shape b (var list a ∷ f) = with_list a (place_shape (suc b) f)

  -- of a rule's fields, w places each, the first of them at b
  abbrev pub place_shapes : ℕ → ℕ → List (List (Term C (Full K) A)) → Option (List (Shape ℕ A))
  place_shapes w b [] = some []
  place_shapes w b (f ∷ r) = both (place_shape b f) (place_shapes w (b + w) r)

-- ---- the entries

module _ (below : ℕ → ℕ → Bool) (T : Table) (L M : Type 0) where
  -- a choice and its last array
  abbrev pub entries_on : List (Shape ℕ L) → List (Shape ℕ M) → List ℕ → List (List Cand × List ℕ)
  entries_on [] [] atoms = ([], atoms) ∷ []
  entries_on [] (Q ∷ Qs) atoms = []
  entries_on (P ∷ Ps) [] atoms = []
  entries_on (P ∷ Ps) (Q ∷ Qs) atoms = branch (cands P Q) (λ c. joins_places below T (equations P Q c) atoms) (λ next. entries_on Ps Qs next)

module _ {L M : Type 0} where
  -- the fields of a choice, every atom the code that the array has for it
  abbrev pub code_fields : List (Shape ℕ L) → List (Shape ℕ M) → List Cand × List ℕ → List (Shape ℕ ℕ)
  code_fields Ps Qs e = map (map_shape (λ p. get_or e.1 p 0)) (fields_for 0 Ps Qs e.0)
