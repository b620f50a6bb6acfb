-- The fields of a left-linear rule have shapes, and no list variable is twice in them.
use mathlib.Core.Path.{◌≡◌, refl, sym, ◌∙◌, ap, ap₂, subst as along}
use mathlib.Core.Option.{Option, none, some}
use mathlib.Core.List.{List, [], ◌∷◌, ◌++◌}
use Prim.Native.Nat.{suc}
use native.Mathlib.Omega.{arith}
use lib.ListN.{length}
use Rattle.base_lists.specs.Seqs.{All}
use Rattle.math_types.specs.Order.{Full, basic, list}
use Rattle.math_terms.specs.Terms.{Term, con, var}
use Rattle.math_terms.specs.Seqs.{concat_map, Distinct}
use Rattle.math_terms.specs.Linear.{lists, OneList, LeftLinear}
use Rattle.math_overlaps.specs.Shapes.{Atom, fixed, free, Side, Variable, of, Shape, closed, gapped, with_atom, with_list, both, shape_of, shapes_of}
use Rattle.math_overlaps.proofs.Named.{gaps}

module _ {C K A : Type 0} (d : Side) where
  abbrev HasShape : List (Term C (Full K) A) → Option (Shape (Atom C (Variable K A)) A) → Type 0
  HasShape f o = (S : Shape (Atom C (Variable K A)) A) × (o ≡ some S) × (gaps (S ∷ []) ≡ lists f)

  atom_shape : (f : List (Term C (Full K) A)) (o : Option (Shape (Atom C (Variable K A)) A)) (a : Atom C (Variable K A))
      → HasShape f o → HasShape f (with_atom a o)
  atom_shape f o a h = go h.0 h.1 h.2
    where
      go : (S : Shape (Atom C (Variable K A)) A) → o ≡ some S → gaps (S ∷ []) ≡ lists f → HasShape f (with_atom a o)
      go (closed xs) e g = (closed (a ∷ xs), ap (with_atom a) e, g)
      go (gapped p l t) e g = (gapped (a ∷ p) l t, ap (with_atom a) e, g)

  shape : (f : List (Term C (Full K) A)) → OneList f → HasShape f (shape_of d f)
  shape [] o = (closed [], refl, refl)
  shape (con c ∷ f) o = atom_shape f (shape_of d f) (fixed c) (shape f o)
  shape (var (basic k) a ∷ f) o = atom_shape f (shape_of d f) (free (of d k a)) (shape f o)
  shape (var list a ∷ f) o = let h = shape f (omega arith) in go h.0 h.1 h.2
    where
      go : (S : Shape (Atom C (Variable K A)) A) → shape_of d f ≡ some S → gaps (S ∷ []) ≡ lists f → HasShape (var list a ∷ f) (with_list a (shape_of d f))
      go (closed xs) e g = (gapped [] a xs, ap (with_list a) e, ap (λ (l : List A). a ∷ l) g)
      go (gapped p l t) e g = absurd (omega (arith, ap length g))

  gaps_cons : (S : Shape (Atom C (Variable K A)) A) (Ss : List (Shape (Atom C (Variable K A)) A)) → gaps (S ∷ Ss) ≡ gaps (S ∷ []) ++ gaps Ss
  gaps_cons (closed xs) Ss = refl
  gaps_cons (gapped p l t) Ss = refl

  shapes : (r : List (List (Term C (Full K) A))) → All OneList r
      → (Ss : List (Shape (Atom C (Variable K A)) A)) × (shapes_of d r ≡ some Ss) × (gaps Ss ≡ concat_map lists r)
  shapes [] o = ([], refl, refl)
  shapes (f ∷ r) o =
      let h = shape f o.0 in
      let t = shapes r o.1 in
      (h.0 ∷ t.0, ap₂ both h.1 t.1, gaps_cons h.0 t.0 ∙ ap₂ (λ (x y : List A). x ++ y) h.2 t.2)

  pub linear_shapes : (r : List (List (Term C (Full K) A))) → LeftLinear r
      → (Ss : List (Shape (Atom C (Variable K A)) A)) × (shapes_of d r ≡ some Ss) × Distinct (gaps Ss)
  linear_shapes r h = let t = shapes r h.1 in (t.0, t.1, along Distinct (sym t.2) h.0)

  abbrev Count : List (List (Term C (Full K) A)) → Option (List (Shape (Atom C (Variable K A)) A)) → Type 0
  Count r none = Unit {0}
  Count r (some Ss) = length Ss ≡ length r

  count : (r : List (List (Term C (Full K) A))) → Count r (shapes_of d r)
  count [] = refl
  count (f ∷ r) = go (shape_of d f) (shapes_of d r) (count r)
    where
      go : (o : Option (Shape (Atom C (Variable K A)) A)) (p : Option (List (Shape (Atom C (Variable K A)) A))) → Count r p → Count (f ∷ r) (both o p)
      go none p h = tt
      go (some S) none h = tt
      go (some S) (some Ss) h = ap suc h

  -- as many shapes as fields
  pub shapes_count : (r : List (List (Term C (Full K) A))) (Ss : List (Shape (Atom C (Variable K A)) A)) → shapes_of d r ≡ some Ss → length Ss ≡ length r
  shapes_count r Ss e = along (Count r) e (count r)
