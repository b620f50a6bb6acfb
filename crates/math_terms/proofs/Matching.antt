-- A rule is filled to a slip in one way only.
use mathlib.Core.Path.{◌≡◌, refl, sym, ◌∙◌, ap}
use mathlib.Core.Logic.{inl, inr}
use mathlib.Core.List.{List, ◌∷◌, map, head-eq_of_cons-eq, tail-eq_of_cons-eq}
use Prim.Native.Nat.{ℕ, ◌+◌, ◌-◌}
use lib.ListN.{length}
use Rattle.base_lists.specs.Seqs.{All, Any}
use Rattle.math_types.specs.Order.{Order, Full, basic}
use Rattle.math_terms.specs.Terms.{Term, con, var}
use Rattle.math_terms.specs.Constants.{Consts, TermOver}
use Rattle.math_terms.specs.Fillings.{Filling, FillingOver, Typed, fill, Occurs, Agree}
use Rattle.math_terms.specs.Linear.{OneList}
use Rattle.math_terms.specs.Matcher.{atoms, width}
use Rattle.math_terms.proofs.Slices.{Slices, field_iff}

module _ {C K A : Type 0} (φ ψ : Filling C (Full K) A) (gap : ℕ) (w : List C) where
  -- a value that is read off its place is the same in both
  slices_agree : (f : List (Term C (Full K) A)) (p : ℕ) → Slices φ gap w f p → Slices ψ gap w f p → Agree φ ψ f
  slices_agree (con c ∷ f) p s t j b i = slices_agree f (p + 1) s.1 t.1 j b i
  slices_agree (var k a ∷ f) p s t j b (inl e) = rw (e.0, e.1) (s.0 ∙ sym t.0)
  slices_agree (var k a ∷ f) p s t j b (inr i) = slices_agree f (p + width {C = C} gap (var k a)) s.1 t.1 j b i
  slices_agree mathlib.Core.List.[] p s t j b i = elim i [ ]

module _ (O : Order) (C : Consts O) {A : Type 0} where
  pub typed_one : (φ : FillingOver O C A) → Typed O C φ → (k : O.Kind) (a : A) → length (φ (basic k) a) ≡ 1
  typed_one φ t k a = ap length (t (basic k) a).1

  module _ (φ ψ : FillingOver O C A) (t : Typed O C φ) (u : Typed O C ψ) where
    unique_field : (f : List (TermOver O C A)) → OneList f → fill φ f ≡ fill ψ f → Agree φ ψ f
    unique_field f o e =
        let w = fill ψ f in
        slices_agree φ ψ (length w - atoms f) w f 0 ((field_iff φ (typed_one φ t) f o w).0 e).1 ((field_iff ψ (typed_one ψ u) f o w).0 refl).1

    -- document 01: "There is never more than one filling": two that make the rule the same slip agree on every variable of the rule
    pub match_unique : (rule : List (List (TermOver O C A))) → All OneList rule → map (fill φ) rule ≡ map (fill ψ) rule
        → (k : Full O.Kind) (a : A) → Any (Occurs k a) rule → φ k a ≡ ψ k a
    match_unique (f ∷ rule) o e k a (inl i) = unique_field f o.0 (head-eq_of_cons-eq e) k a i
    match_unique (f ∷ rule) o e k a (inr i) = match_unique rule o.1 (tail-eq_of_cons-eq e) k a i
    match_unique mathlib.Core.List.[] o e k a x3 = elim x3 [ ]
