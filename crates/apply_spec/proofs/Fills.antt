-- What fields become by a filling: whose constants they have, and how long they are.
use mathlib.Core.Path.{refl}
use mathlib.Core.Logic.{inl, inr}
use mathlib.Core.List.{List, [], ◌∷◌, map}
use Prim.Native.Nat.{ℕ, ◌≤◌}
use native.Mathlib.Omega.{arith}
use lib.ListN.{length, length-append}
use Rattle.base_lists.specs.Seqs.{All, Any, all_append, all_left, all_right}
use Rattle.math_terms.specs.Terms.{Term, con, var}
use Rattle.math_terms.specs.Fillings.{Filling, fill, Occurs}
use Rattle.math_overlaps.specs.Substitutions.{Subst, substitute}
use Rattle.math_overlaps.specs.Constants.{ConstantIn}
use Rattle.apply_spec.specs.Carrying.{Short}

-- ---- constants

module _ {C K A : Type 0} (P : C → Type 0) (θ : Filling C K A) where
  value_in : (k : K) (a : A) (f : List (Term C K A)) → All P (fill θ f) → Occurs k a f → All P (θ k a)
  value_in k a (con c ∷ f) h o = value_in k a f h.1 o
  value_in k a (var j b ∷ f) h (inl e) = rw (e.0, e.1) (all_left P (θ j b) (fill θ f) h)
  value_in k a (var j b ∷ f) h (inr o) = value_in k a f (all_right P (θ j b) (fill θ f) h) o
  value_in k a [] h o = elim o [ ]

  -- a variable's value has constants of what the rule becomes
  pub values_in_lem : (k : K) (a : A) (r : List (List (Term C K A))) → All (All P) (map (fill θ) r) → Any (Occurs k a) r → All P (θ k a)
  values_in_lem k a (f ∷ r) h (inl o) = value_in k a f h.0 o
  values_in_lem k a (f ∷ r) h (inr o) = values_in_lem k a r h.1 o
  values_in_lem k a [] h x'' = elim x'' [ ]

  fill_in : (f : List (Term C K A)) → All (ConstantIn P) f → ((k : K) (a : A) → Occurs k a f → All P (θ k a)) → All P (fill θ f)
  fill_in [] h v = tt
  fill_in (con c ∷ f) h v = (h.0, fill_in f h.1 v)
  fill_in (var j b ∷ f) h v = all_append P (θ j b) (fill θ f) (v j b (inl (refl, refl))) (fill_in f h.1 (λ k a o. v k a (inr o)))

  -- what the rule becomes has constants of the rule and of its variables' values
  pub fills_in : (r : List (List (Term C K A))) → All (All (ConstantIn P)) r → ((k : K) (a : A) → Any (Occurs k a) r → All P (θ k a))
      → All (All P) (map (fill θ) r)
  fills_in [] h v = tt
  fills_in (f ∷ r) h v = (fill_in f h.0 (λ k a o. v k a (inl o)), fills_in r h.1 (λ k a o. v k a (inr o)))

-- the same of a substitution
module _ {C K A B : Type 0} (P : C → Type 0) (σ : Subst C K A B) (v : (k : K) (a : A) → All (ConstantIn P) (σ k a)) where
  subst_in : (f : List (Term C K A)) → All (ConstantIn P) f → All (ConstantIn P) (substitute σ f)
  subst_in [] h = tt
  subst_in (con c ∷ f) h = (h.0, subst_in f h.1)
  subst_in (var j b ∷ f) h = all_append (ConstantIn P) (σ j b) (substitute σ f) (v j b) (subst_in f h.1)

  pub substs_in : (r : List (List (Term C K A))) → All (All (ConstantIn P)) r → All (All (ConstantIn P)) (map (substitute σ) r)
  substs_in [] h = tt
  substs_in (f ∷ r) h = (subst_in f h.0, substs_in r h.1)

-- ---- lengths

module _ {C K A : Type 0} (θ : Filling C K A) where
  -- values of one item at most make no field longer
  one_short : ((k : K) (a : A) → length (θ k a) ≤ 1) → (f : List (Term C K A)) → length (fill θ f) ≤ length f
  one_short h [] = omega arith
  one_short h (con c ∷ f) = omega (arith, one_short h f)
  one_short h (var k a ∷ f) = simp length-append (omega (arith, h k a, one_short h f))

  pub ones_short : ((k : K) (a : A) → length (θ k a) ≤ 1) → (n m : ℕ) → n ≤ m → (r : List (List (Term C K A))) → Short n r → Short m (map (fill θ) r)
  ones_short h n m l [] s = tt
  ones_short h n m l (f ∷ r) s = (omega (arith, one_short h f, s.0), ones_short h n m l r s.1)

module _ {C K A : Type 0} (φ θ : Filling C K A) (le : (k : K) (a : A) → length (φ k a) ≤ length (θ k a)) where
  fill_shorter : (f : List (Term C K A)) → length (fill φ f) ≤ length (fill θ f)
  fill_shorter [] = omega arith
  fill_shorter (con c ∷ f) = omega (arith, fill_shorter f)
  fill_shorter (var k a ∷ f) = simp length-append (omega (arith, le k a, fill_shorter f))

  -- shorter values make shorter fields
  pub fills_shorter : (n : ℕ) (r : List (List (Term C K A))) → Short n (map (fill θ) r) → Short n (map (fill φ) r)
  fills_shorter n [] s = tt
  fills_shorter n (f ∷ r) s = (omega (arith, fill_shorter f, s.0), fills_shorter n r s.1)
