-- Fields of at most 16 terms have entries whose fields have at most 31.
use mathlib.Core.Path.{◌≡◌, refl, sym, ap, subst as along}
use mathlib.Core.Option.{Option, none, some}
use mathlib.Core.List.{List, [], ◌∷◌, map}
use mathlib.Core.List.{Memᴰ}
use Prim.Native.Nat.{ℕ, suc, ◌≤◌}
use native.Mathlib.Omega.{arith}
use lib.ListN.{length, length-append, length-map, length-take, length-drop}
use Rattle.base_limits.specs.Limits.{most_terms, entry_terms}
use Rattle.base_lists.specs.Seqs.{All}
use Rattle.math_types.specs.Order.{Order, Full, basic, list}
use Rattle.math_terms.specs.Terms.{Term, con, var}
use Rattle.math_terms.specs.Constants.{Consts}
use Rattle.math_overlaps.specs.Shapes.{Atom, fixed, free, Vars, Side, left, right, Variable, of, pair_vars, Shape, closed, gapped, with_atom, with_list}
use Rattle.math_overlaps.specs.Shapes.{both}
use Rattle.math_overlaps.specs.Shapes.{shape_of, shapes_of}
use Rattle.math_overlaps.specs.Candidates.{Cand, exact, long, wide, cands}
use Rattle.math_overlaps.specs.Joins.{At, State, start, resolve, joins}
use Rattle.math_overlaps.specs.Entries.{equations, field_for, fields_for, entries}
use Rattle.math_overlaps.specs.Overlaps.{Origin, field_of, map_shape, rename, PairShape, PairState, origin_fields, numbers_of, shown}
use Rattle.math_overlaps.proofs.Candidates.{terms, cands_few}
use Rattle.math_overlaps.proofs.Pairs.{room_of, reach_of, cells_length, no_long₁, no_long₂}
use Rattle.math_overlaps.proofs.Walks.{From, branch_from}
use Rattle.math_overlaps.proofs.Listed.{raw}

-- ---- a rule's fields and their shapes

module _ {C K A : Type 0} where
  abbrev Long : List (Term C (Full K) A) → Option (Shape (Atom C (Variable K A)) A) → Type 0
  Long f none = Unit {0}
  Long f (some S) = terms S ≡ length f

  with_atom_lem : (t : Term C (Full K) A) (f : List (Term C (Full K) A)) (a : Atom C (Variable K A)) (o : Option (Shape (Atom C (Variable K A)) A))
      → Long f o → Long (t ∷ f) (with_atom a o)
  with_atom_lem t f a none h = tt
  with_atom_lem t f a (some (closed xs)) h = ap suc h
  with_atom_lem t f a (some (gapped p l q)) h = omega arith

  with_list_lem : (t : Term C (Full K) A) (f : List (Term C (Full K) A)) (l : A) (o : Option (Shape (Atom C (Variable K A)) A))
      → Long f o → Long (t ∷ f) (with_list l o)
  with_list_lem t f l none h = tt
  with_list_lem t f l (some (closed xs)) h = omega arith
  with_list_lem t f l (some (gapped p m q)) h = tt

  long_shape : (d : Side) (f : List (Term C (Full K) A)) → Long f (shape_of d f)
  long_shape d [] = refl
  long_shape d (con c ∷ f) = with_atom_lem (con c) f (fixed c) (shape_of d f) (long_shape d f)
  long_shape d (var (basic k) a ∷ f) = with_atom_lem (var (basic k) a) f (free (of d k a)) (shape_of d f) (long_shape d f)
  long_shape d (var list a ∷ f) = with_list_lem (var list a) f a (shape_of d f) (long_shape d f)

  -- the terms of a field's shape are the field's
  shape_terms : (d : Side) (f : List (Term C (Full K) A)) (S : Shape (Atom C (Variable K A)) A) → shape_of d f ≡ some S → terms S ≡ length f
  shape_terms d f S e = along (Long f) e (long_shape d f)

  -- document 01: "So a field has at most 16 candidates"
  pub few_candidates : (f g : List (Term C (Full K) A)) (S T : Shape (Atom C (Variable K A)) A)
      → shape_of left f ≡ some S → shape_of right g ≡ some T → length f ≤ most_terms → length g ≤ most_terms → length (cands S T) ≤ most_terms
  few_candidates f g S T e e' p q = cands_few S T (omega (arith, shape_terms left f S e)) (omega (arith, shape_terms right g T e'))

  abbrev pub AtMost : ℕ → List (Term C (Full K) A) → Type 0
  AtMost n f = length f ≤ n

  abbrev ShortSome : Option (List (Shape (Atom C (Variable K A)) A)) → Type 0
  ShortSome none = Unit {0}
  ShortSome (some Ss) = All (λ S. terms S ≤ most_terms) Ss

  short_shapes : (d : Side) (r : List (List (Term C (Full K) A))) → All (AtMost most_terms) r → ShortSome (shapes_of d r)
  short_shapes d [] h = tt
  short_shapes d (f ∷ r) h = go (shape_of d f) (long_shape d f) (shapes_of d r) (short_shapes d r h.1)
    where
      go : (o : Option (Shape (Atom C (Variable K A)) A)) → Long f o
          → (p : Option (List (Shape (Atom C (Variable K A)) A))) → ShortSome p → ShortSome (both o p)
      go none k p k' = tt
      go (some S) k none k' = tt
      go (some S) k (some Ss) k' = (omega (arith, h.0), k')

  pub short_rule : (d : Side) (r : List (List (Term C (Full K) A))) (Ss : List (Shape (Atom C (Variable K A)) A))
      → shapes_of d r ≡ some Ss → All (AtMost most_terms) r → All (λ S. terms S ≤ most_terms) Ss
  short_rule d r Ss e h = along ShortSome e (short_shapes d r h)

-- ---- the fields of a choice

module _ {A L M : Type 0} where
  exact_few : (S : Shape A L) (T : Shape A M) (n : ℕ) → Memᴰ (exact n) (cands S T) → terms S ≤ most_terms → terms T ≤ most_terms → n ≤ entry_terms
  exact_few (closed xs) T n i p q = omega (arith, (room_of {L = L} (closed xs) T (exact n) i).0)
  exact_few (gapped f l t) (closed ys) n i p q = omega (arith, (room_of {M = M} (gapped f l t) (closed ys) (exact n) i).1)
  exact_few (gapped f l t) (gapped f' m t') n i p q = omega (arith, reach_of (gapped f l t) (gapped f' m t') (exact n) i)

  wide_few : (S : Shape A L) (T : Shape A M) → Memᴰ long (cands S T) → terms S ≤ most_terms → terms T ≤ most_terms → wide S T ≤ 30
  wide_few (closed xs) T i p q = absurd (no_long₁ A L M xs T i)
  wide_few (gapped f l t) (closed ys) i p q = absurd (no_long₂ A L M f l t ys i)
  wide_few (gapped f l t) (gapped f' m t') i p q = omega arith

  field_few : (g : ℕ) (S : Shape A L) (T : Shape A M) (c : Cand) → Memᴰ c (cands S T) → terms S ≤ most_terms → terms T ≤ most_terms
      → terms (field_for g S T c) ≤ entry_terms
  field_few g S T (exact n) i p q = omega (arith, cells_length S T (exact n) i, exact_few S T n i p q)
  field_few g S T long i p q = simp (length-take, length-drop) (omega (arith, cells_length S T long i, wide_few S T i p q))

module _ (O : Order) (C : Consts O) (N : Vars O) (L M : Type 0) where
  fields_few : (g : ℕ) (Ss : List (Shape (At O C N) L)) (Ts : List (Shape (At O C N) M)) (s : State O C N) (e : List Cand × State O C N)
      → Memᴰ e (entries O C N L M Ss Ts s)
      → All (λ S. terms S ≤ most_terms) Ss → All (λ T. terms T ≤ most_terms) Ts → All (λ S. terms S ≤ entry_terms) (fields_for g Ss Ts e.0)
  fields_few g [] Ts s e i p q = tt
  fields_few g (S ∷ Ss) [] s e i p q = tt
  fields_few g (S ∷ Ss) (T ∷ Ts) s e i p q =
      along (λ (x : List Cand × State O C N). All (λ S. terms S ≤ entry_terms) (fields_for g (S ∷ Ss) (T ∷ Ts) x.0)) (sym f.is)
      (field_few g S T f.cand f.cand_in p.0 q.0, fields_few (suc g) Ss Ts f.next f.rest f.rest_in p.1 q.1)
    where
      f : From (cands S T) (λ c. joins O C N (equations S T c) s) (λ s'. entries O C N L M Ss Ts s') e
      f = branch_from (cands S T) (λ c. joins O C N (equations S T c) s) (λ s'. entries O C N L M Ss Ts s') e i

-- ---- the entry's fields

module _ {C K A B : Type 0} (h : Atom C (Variable K A) → Atom C (Variable K A)) (ν : Full K → Origin A → B) where
  field_length : (S : Shape (Atom C (Variable K A)) ℕ) → length (map (rename ν) (field_of (map_shape h S))) ≡ terms S
  field_length (closed xs) = simp (length-map, length-map, length-map)
  field_length (gapped f g t) = simp (length-map, length-append, length-map, length-map, length-map) (omega arith)

  lengths_few : (Ss : List (Shape (Atom C (Variable K A)) ℕ)) → All (λ S. terms S ≤ entry_terms) Ss
      → All (AtMost entry_terms) (map (map (rename ν)) (map field_of (map (map_shape h) Ss)))
  lengths_few [] p = tt
  lengths_few (S ∷ Ss) p = (omega (arith, field_length S, p.0), lengths_few Ss p.1)

module _ (O : Order) (C : Consts O) {A : Type 0} (name_eq : Discrete A) (Ss Ts : List (PairShape O C name_eq)) where
  pub shown_few : (e : List Cand × PairState O C name_eq) → Memᴰ e (raw O C name_eq Ss Ts) → All (λ S. terms S ≤ most_terms) Ss
      → All (λ T. terms T ≤ most_terms) Ts
      → All (AtMost entry_terms) (shown O C name_eq Ss Ts e).fields
  shown_few e i p q = let N = pair_vars O name_eq in
      lengths_few (resolve O C N e.1) (numbers_of O C name_eq (origin_fields O C name_eq Ss Ts e)) (fields_for 0 Ss Ts e.0)
      (fields_few O C N A A 0 Ss Ts (start O C N) e i p q)
