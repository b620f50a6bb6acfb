-- `known_iff`: the test that a left side has every variable of a right side is document 02's demand. Assumes nothing.
use mathlib.Core.Path.{◌≡◌, refl}
use mathlib.Core.Logic.{◌↔◌, ◌⊎◌, inl, inr}
use mathlib.Core.Bool.{true, ◌&&◌}
use mathlib.Core.List.{List, [], ◌∷◌}
use Prim.Native.Nat.{ℕ}
use Rattle.base_lists.specs.Truths.{both_is}
use Rattle.math_types.specs.Types.{Kind}
use Rattle.math_terms.specs.Terms.{con, var}
use Rattle.math_terms.specs.Fillings.{Occurs}
use Rattle.text_grammar.specs.Terms.{OurTerm, OurFields}
use Rattle.text_grammar.specs.rules.Tokens.{Has}
use Rattle.text_grammar.specs.rules.Limits.{VarsIn}
use Rattle.overlap_spec.specs.Variables.{occurs}
use Rattle.overlap_spec.proofs.Variables.{occurs_is}
use Rattle.text_accepted.specs.rules.Rules.{known_field, known}

-- x has every variable of a field
abbrev FieldVarsIn : List OurTerm → OurFields → Type 0
FieldVarsIn f x = (k : Kind) (n : ℕ) → Occurs k n f → Has k n x

field_iff : (x : OurFields) (f : List OurTerm) → (known_field x f ≡ true) ↔ FieldVarsIn f x
field_iff x [] = (λ e k n o. absurd o, λ h. refl)
field_iff x (con c ∷ f) = field_iff x f
field_iff x (var j m ∷ f) = go (field_iff x f)
  where
    go : ((known_field x f ≡ true) ↔ FieldVarsIn f x) → (known_field x (var j m ∷ f) ≡ true) ↔ FieldVarsIn (var j m ∷ f) x
    go rec = (to, from)
      where
        to : (occurs j m x && known_field x f) ≡ true → (k : Kind) (n : ℕ) → ((k ≡ j) × (n ≡ m)) ⊎ Occurs k n f → Has k n x
        to e k n (inl h) = rw (h.0, h.1) ((occurs_is j m x).0 ((both_is (occurs j m x) (known_field x f)).0 e).0)
        to e k n (inr o) = rec.0 ((both_is (occurs j m x) (known_field x f)).0 e).1 k n o

        from : ((k : Kind) (n : ℕ) → ((k ≡ j) × (n ≡ m)) ⊎ Occurs k n f → Has k n x) → (occurs j m x && known_field x f) ≡ true
        from h = (both_is (occurs j m x) (known_field x f)).1 ((occurs_is j m x).1 (h j m (inl (refl, refl))), rec.1 (λ k n o. h k n (inr o)))

-- THE TEST: x has every variable of y
pub known_iff : (x y : OurFields) → (known x y ≡ true) ↔ VarsIn y x
known_iff x [] = (λ e k n o. absurd o, λ h. refl)
known_iff x (f ∷ y) = go (known_iff x y)
  where
    go : ((known x y ≡ true) ↔ VarsIn y x) → (known x (f ∷ y) ≡ true) ↔ VarsIn (f ∷ y) x
    go rec = (to, from)
      where
        to : (known_field x f && known x y) ≡ true → (k : Kind) (n : ℕ) → Occurs k n f ⊎ Has k n y → Has k n x
        to e k n (inl o) = (field_iff x f).0 ((both_is (known_field x f) (known x y)).0 e).0 k n o
        to e k n (inr o) = rec.0 ((both_is (known_field x f) (known x y)).0 e).1 k n o

        from : ((k : Kind) (n : ℕ) → Occurs k n f ⊎ Has k n y → Has k n x) → (known_field x f && known x y) ≡ true
        from h = (both_is (known_field x f) (known x y)).1 ((field_iff x f).1 (λ k n o. h k n (inl o)), rec.1 (λ k n o. h k n (inr o)))
