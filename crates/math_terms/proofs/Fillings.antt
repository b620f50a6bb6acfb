-- The laws of filling: it goes through `++`, and it depends only on the values of the variables that occur.
use mathlib.Core.Path.{◌≡◌, refl, ap, ap₂}
use mathlib.Core.Logic.{inl, inr}
use mathlib.Core.List.{List, [], ◌∷◌, ◌++◌, map}
use Rattle.base_lists.specs.Seqs.{Any}
use Rattle.math_terms.specs.Terms.{Term, con, var}
use Rattle.math_terms.specs.Fillings.{Filling, value, fill, Occurs, Agree}
use Rattle.math_terms.proofs.Seqs.{concat_map_append}

module _ {C K A : Type 0} where
  pub fill_append : (φ : Filling C K A) (f g : List (Term C K A)) → fill φ (f ++ g) ≡ fill φ f ++ fill φ g
  fill_append φ f g = concat_map_append (value φ) f g

  -- fillings that agree on a field's variables give the same
  pub fill_agree : (φ ψ : Filling C K A) (f : List (Term C K A)) → Agree φ ψ f → fill φ f ≡ fill ψ f
  fill_agree φ ψ [] h = refl
  fill_agree φ ψ (con c ∷ f) h = ap (λ (w : List C). c ∷ w) (fill_agree φ ψ f h)
  fill_agree φ ψ (var k a ∷ f) h = ap₂ (λ (v w : List C). v ++ w) (h k a (inl (refl, refl))) (fill_agree φ ψ f (λ j b i. h j b (inr i)))

  -- the same of a rule
  pub fills_agree : (φ ψ : Filling C K A) (r : List (List (Term C K A)))
      → ((k : K) (a : A) → Any (Occurs k a) r → φ k a ≡ ψ k a) → map (fill φ) r ≡ map (fill ψ) r
  fills_agree φ ψ [] h = refl
  fills_agree φ ψ (f ∷ r) h =
      ap₂ (λ (w : List C) (s : List (List C)). w ∷ s) (fill_agree φ ψ f (λ k a i. h k a (inl i))) (fills_agree φ ψ r (λ k a i. h k a (inr i)))
