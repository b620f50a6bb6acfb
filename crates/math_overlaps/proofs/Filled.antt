-- Our terms and their shapes: to fill a field is to fill its shape. By constants and by terms alike.
use mathlib.Core.Path.{◌≡◌, refl, ap, ap₂, subst as along}
use mathlib.Core.Option.{Option, none, some}
use mathlib.Core.List.{List, [], ◌∷◌, ◌++◌, map}
use Prim.Native.Nat.{ℕ}
use Rattle.math_types.specs.Order.{Full, basic, list}
use Rattle.math_terms.specs.Terms.{Term, con, var}
use Rattle.math_terms.specs.Seqs.{concat_map}
use Rattle.math_terms.specs.Fillings.{Filling, fill}
use Rattle.math_terms.proofs.Seqs.{concat_map_append}
use Rattle.math_overlaps.specs.Substitutions.{Subst, substitute}
use Rattle.math_overlaps.specs.Shapes.{Atom, fixed, free, val, Side, Variable, of, Shape, closed, gapped, with_atom, with_list, both, shape_of, shapes_of}
use Rattle.math_overlaps.specs.Overlaps.{Origin, named, place, term_of, field_of}
use Rattle.math_overlaps.proofs.Named.{fill_shape}

module _ {C K A Y : Type 0} (ι : C → Y) (φ : K → A → List Y) where
  abbrev pub value_by : Term C K A → List Y
  value_by (con c) = ι c ∷ []
  value_by (var k a) = φ k a

  -- constants by ι, variables by φ
  abbrev pub fill_by : List (Term C K A) → List Y
  fill_by f = concat_map value_by f

module _ {C K A : Type 0} where
  fill_by_lem : (φ : Filling C K A) (f : List (Term C K A)) → fill φ f ≡ fill_by (λ c. c) φ f
  fill_by_lem φ [] = refl
  fill_by_lem φ (con c ∷ f) = ap (λ (r : List C). c ∷ r) (fill_by_lem φ f)
  fill_by_lem φ (var k a ∷ f) = ap (λ (r : List C). φ k a ++ r) (fill_by_lem φ f)

  pub fills_by : (φ : Filling C K A) (r : List (List (Term C K A))) → map (fill φ) r ≡ map (fill_by (λ c. c) φ) r
  fills_by φ [] = refl
  fills_by φ (f ∷ r) = ap₂ (λ (w : List C) (s : List (List C)). w ∷ s) (fill_by_lem φ f) (fills_by φ r)

module _ {C K A B : Type 0} where
  subst_by : (σ : Subst C K A B) (f : List (Term C K A)) → substitute σ f ≡ fill_by con σ f
  subst_by σ [] = refl
  subst_by σ (con c ∷ f) = ap (λ (r : List (Term C K B)). con c ∷ r) (subst_by σ f)
  subst_by σ (var k a ∷ f) = ap (λ (r : List (Term C K B)). σ k a ++ r) (subst_by σ f)

  pub substs_by : (σ : Subst C K A B) (r : List (List (Term C K A))) → map (substitute σ) r ≡ map (fill_by con σ) r
  substs_by σ [] = refl
  substs_by σ (f ∷ r) = ap₂ (λ (w : List (Term C K B)) (s : List (List (Term C K B))). w ∷ s) (subst_by σ f) (substs_by σ r)

-- ---- the fields of a rule, on the side d
module _ {C K A Y : Type 0} (ι : C → Y) (φ : Full K → A → List Y) (d : Side)
    (θ : Variable K A → Y) (h : (k : K) (a : A) → φ (basic k) a ≡ θ (of d k a) ∷ []) where
  abbrev v : Atom C (Variable K A) → Y
  v a = val ι θ a

  abbrev m : A → List Y
  m a = φ list a

  abbrev Was : List (Term C (Full K) A) → Option (Shape (Atom C (Variable K A)) A) → Type 0
  Was f none = Unit {0}
  Was f (some S) = fill_by ι φ f ≡ fill_shape v m S

  was_atom : (t : Term C (Full K) A) (f : List (Term C (Full K) A)) (a : Atom C (Variable K A))
      → value_by ι φ t ≡ v a ∷ [] → (o : Option (Shape (Atom C (Variable K A)) A)) → Was f o → Was (t ∷ f) (with_atom a o)
  was_atom t f a e none q = tt
  was_atom t f a e (some (closed xs)) q = ap₂ (λ (x y : List Y). x ++ y) e q
  was_atom t f a e (some (gapped p l s)) q = ap₂ (λ (x y : List Y). x ++ y) e q

  was_list : (l : A) (f : List (Term C (Full K) A)) (o : Option (Shape (Atom C (Variable K A)) A)) → Was f o → Was (var list l ∷ f) (with_list l o)
  was_list l f none q = tt
  was_list l f (some (closed xs)) q = ap (λ (y : List Y). m l ++ y) q
  was_list l f (some (gapped p k s)) q = tt

  was : (f : List (Term C (Full K) A)) → Was f (shape_of d f)
  was [] = refl
  was (con c ∷ f) = was_atom (con c) f (fixed c) refl (shape_of d f) (was f)
  was (var (basic k) a ∷ f) = was_atom (var (basic k) a) f (free (of d k a)) (h k a) (shape_of d f) (was f)
  was (var list a ∷ f) = was_list a f (shape_of d f) (was f)

  abbrev Were : List (List (Term C (Full K) A)) → Option (List (Shape (Atom C (Variable K A)) A)) → Type 0
  Were r none = Unit {0}
  Were r (some Ss) = map (fill_by ι φ) r ≡ map (fill_shape v m) Ss

  were : (r : List (List (Term C (Full K) A))) → Were r (shapes_of d r)
  were [] = refl
  were (f ∷ r) = go (shape_of d f) (was f) (shapes_of d r) (were r)
    where
      go : (o : Option (Shape (Atom C (Variable K A)) A)) → Was f o → (p : Option (List (Shape (Atom C (Variable K A)) A))) → Were r p → Were (f ∷ r) (both o p)
      go none q p q' = tt
      go (some S) q none q' = tt
      go (some S) q (some Ss) q' = ap₂ (λ (x : List Y) (y : List (List Y)). x ∷ y) q q'

  pub shapes_fill : (r : List (List (Term C (Full K) A))) (Ss : List (Shape (Atom C (Variable K A)) A))
      → shapes_of d r ≡ some Ss → map (fill_by ι φ) r ≡ map (fill_shape (val ι θ) (φ list)) Ss
  shapes_fill r Ss e = along (Were r) e (were r)

-- ---- the fields of an entry
module _ {C K A Y : Type 0} (ι : C → Y) (φ : Full K → Origin A → List Y) (θ : Variable K A → Y)
    (h : (s : Side) (k : K) (a : A) → φ (basic k) (named s a) ≡ θ (of s k a) ∷ []) where
  original_atoms : (xs : List (Atom C (Variable K A))) → fill_by ι φ (map term_of xs) ≡ map (val ι θ) xs
  original_atoms [] = refl
  original_atoms (fixed c ∷ xs) = ap (λ (r : List Y). ι c ∷ r) (original_atoms xs)
  original_atoms (free (of s k a) ∷ xs) = ap₂ (λ (x y : List Y). x ++ y) (h s k a) (original_atoms xs)

  original_field : (S : Shape (Atom C (Variable K A)) ℕ) → fill_by ι φ (field_of S) ≡ fill_shape (val ι θ) (λ g. φ list (place g)) S
  original_field (closed xs) = original_atoms xs
  original_field (gapped f g t) = rw concat_map_append (ap₂ (λ (x y : List Y). x ++ (φ list (place g) ++ y)) (original_atoms f) (original_atoms t))

  pub original_fill : (Ss : List (Shape (Atom C (Variable K A)) ℕ)) → map (fill_by ι φ) (map field_of Ss) ≡ map (fill_shape (val ι θ) (λ g. φ list (place g))) Ss
  original_fill [] = refl
  original_fill (S ∷ Ss) = ap₂ (λ (x : List Y) (y : List (List Y)). x ∷ y) (original_field S) (original_fill Ss)
