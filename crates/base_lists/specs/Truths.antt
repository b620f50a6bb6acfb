-- What it says that a test of tests comes out true.
use Rattle.std.specs.Prelude.{◌≡◌, refl, ◌↔◌, Bool, true, false, ◌&&◌, not}
use Rattle.std.proofs.lemmas.Bool.{false≢true}
use Rattle.std.proofs.Common.{true≢false}

pub both_is : (a b : Bool) → ((a && b) ≡ true) ↔ ((a ≡ true) × (b ≡ true))
both_is true b = (λ e. (refl, e), λ h. h.1)
both_is false b = (λ e. absurd (false≢true e), λ h. h.0)

pub not_is : (a : Bool) → (not a ≡ true) ↔ (a ≡ true → ⊥)
not_is true = (λ e k. false≢true e, λ h. absurd (h refl))
not_is false = (λ e k. false≢true k, λ h. refl)

pub false_is : (a : Bool) → (a ≡ false) ↔ (a ≡ true → ⊥)
false_is true = (λ e k. true≢false e, λ h. absurd (h refl))
false_is false = (λ e k. false≢true k, λ h. refl)

-- whether a decided statement holds
abbrev pub decided : {A : Type 0} → Dec A → Bool
decided (yes p) = true
decided (no n) = false

pub decided_true : {A : Type 0} (c : Dec A) → decided c ≡ true → A
decided_true (yes p) e = p
decided_true (no n) e = absurd (false≢true e)

pub true_decided : {A : Type 0} (c : Dec A) → A → decided c ≡ true
true_decided (yes p) a = refl
true_decided (no n) a = absurd (n a)
