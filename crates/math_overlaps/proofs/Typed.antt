-- To fill after a substitution is to fill by the filled values, and types are kept.
use mathlib.Core.Path.{◌≡◌, refl, ◌∙◌, ap, ap₂}
use mathlib.Core.Bool.{true, false≢true}
use mathlib.Core.List.{List, [], ◌∷◌, ◌++◌, map, append-nil}
use Rattle.math_types.specs.Order.{Order, Full, basic, list, full_le}
use Rattle.math_terms.specs.Terms.{Term, con, var}
use Rattle.math_terms.specs.Constants.{Consts, TermOver}
use Rattle.math_terms.specs.Fillings.{Filling, FillingOver, OfKind, Typed, fill}
use Rattle.math_terms.proofs.Fillings.{fill_append}
use Rattle.math_overlaps.specs.Substitutions.{Subst, substitute, kind_of, TermsOf, TypedSubst}
use Rattle.math_overlaps.specs.Overlaps.{rename}

module _ {C K A B : Type 0} where
  fill_subst : (ψ : Filling C K B) (σ : Subst C K A B) (f : List (Term C K A)) → fill ψ (substitute σ f) ≡ fill (λ k a. fill ψ (σ k a)) f
  fill_subst ψ σ [] = refl
  fill_subst ψ σ (con c ∷ f) = ap (λ (r : List C). c ∷ r) (fill_subst ψ σ f)
  fill_subst ψ σ (var k a ∷ f) = fill_append ψ (σ k a) (substitute σ f) ∙ ap (λ (r : List C). fill ψ (σ k a) ++ r) (fill_subst ψ σ f)

  pub fill_substs : (ψ : Filling C K B) (σ : Subst C K A B) (fs : List (List (Term C K A)))
      → map (fill ψ) (map (substitute σ) fs) ≡ map (fill (λ k a. fill ψ (σ k a))) fs
  fill_substs ψ σ [] = refl
  fill_substs ψ σ (f ∷ fs) = ap₂ (λ (w : List C) (r : List (List C)). w ∷ r) (fill_subst ψ σ f) (fill_substs ψ σ fs)

module _ (O : Order) (C : Consts O) {A B : Type 0} (σ : Subst C.Con (Full O.Kind) A B) (t : TypedSubst O C σ) where
  pub fill_typed : (ψ : FillingOver O C B) → Typed O C ψ → Typed O C (λ k a. fill ψ (σ k a))
  fill_typed ψ u list a = tt
  fill_typed ψ u (basic k) a = go (t (basic k) a).0 (t (basic k) a).1 (t (basic k) a).2
    where
      go : (s : TermOver O C B) → σ (basic k) a ≡ s ∷ [] → full_le O (kind_of O C s) (basic k) ≡ true → OfKind O C (basic k) (fill ψ (σ (basic k) a))
      go (con c) e h = (c, ap (fill ψ) e, h)
      go (var list b) e h = absurd (false≢true h)
      go (var (basic j) b) e h = (
        (u (basic j) b).0,
        ap (fill ψ) e ∙ append-nil (ψ (basic j) b) ∙ (u (basic j) b).1,
        O.le_trans (C.con_kind (u (basic j) b).0) j k (u (basic j) b).2 h,
      )

  pub rename_typed : {D : Type 0} (ν : Full O.Kind → B → D) → TypedSubst O C (λ k a. map (rename ν) (σ k a))
  rename_typed ν list a = tt
  rename_typed {D} ν (basic k) a = go (t (basic k) a).0 (t (basic k) a).1 (t (basic k) a).2
    where
      go : (s : TermOver O C B) → σ (basic k) a ≡ s ∷ [] → full_le O (kind_of O C s) (basic k) ≡ true → TermsOf O C (basic k) (map (rename ν) (σ (basic k) a))
      go (con c) e h = (con c, ap (map (rename ν)) e, h)
      go (var j b) e h = (var j (ν j b), ap (map (rename ν)) e, h)
