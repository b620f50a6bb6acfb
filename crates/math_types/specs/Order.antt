-- Any type order: its laws, the same order with `list` on top, and meets read from it.
-- Nothing here names document 01's types; they are one instance (Types).
--     Order      kinds, and which is below which
--     full       the order with `list` on top of the kinds
--     meet       the greatest kind below two kinds, where there is one
use Rattle.std.specs.Prelude.{◌≡◌, refl, ◌⊎◌, Bool, true, false, cond, ℕ}
use Rattle.std.proofs.Common.{sym, ◌∙◌, inl, inr, ⊎_elim, arith}
use Rattle.std.proofs.Math.Option.{Option, none, some}
use Rattle.std.proofs.lemmas.Bool.{false≢true}

-- `le_meet`: two kinds with a common lower kind are comparable, so a meet, where there is one, is one of the two.
pub record Order : Type 1 where
  pub Kind : Type 0
  pub kind_eq : Discrete Kind
  pub le : Kind → Kind → Bool
  pub le_refl : (k : Kind) → le k k ≡ true
  pub le_trans : (j k m : Kind) → le j k ≡ true → le k m ≡ true → le j m ≡ true
  pub le_meet : (j k m : Kind) → le j k ≡ true → le j m ≡ true → (le k m ≡ true) ⊎ (le m k ≡ true)

-- ---- `list` on top

-- Over the bare type of kinds, so that it does not depend on an order's laws.
pub data Full (K : Type 0) : Type 0 where
  basic : K → Full K
  list : Full K
  deriving Discrete as full-eq

pub list≢basic : {K : Type 0} {k : K} → ◌≡◌ {A = Full K} list (basic k) → ⊥
list≢basic {K} {k} e = let o : ◌≡◌ {A = ℕ} 0 1 = cc in omega arith

module _ (O : Order) where
  abbrev pub full_le : Full O.Kind → Full O.Kind → Bool
  full_le (basic j) (basic k) = O.le j k
  full_le (basic j) list = true
  full_le list (basic k) = false
  full_le list list = true

  pub full_le_top : (k : Full O.Kind) → full_le k list ≡ true
  full_le_top (basic k) = refl
  full_le_top list = refl

  pub full_le_refl : (k : Full O.Kind) → full_le k k ≡ true
  full_le_refl (basic k) = O.le_refl k
  full_le_refl list = refl

  pub full_le_trans : (j k m : Full O.Kind) → full_le j k ≡ true → full_le k m ≡ true → full_le j m ≡ true
  full_le_trans j k list p q = full_le_top j
  full_le_trans j list (basic m) p q = absurd (false≢true q)
  full_le_trans list (basic k) (basic m) p q = absurd (false≢true p)
  full_le_trans (basic j) (basic k) (basic m) p q = O.le_trans j k m p q

  pub full_le_meet : (j k m : Full O.Kind) → full_le j k ≡ true → full_le j m ≡ true → (full_le k m ≡ true) ⊎ (full_le m k ≡ true)
  full_le_meet j k list p q = inl (full_le_top k)
  full_le_meet j list (basic m) p q = inr refl
  full_le_meet list (basic k) (basic m) p q = absurd (false≢true p)
  full_le_meet (basic j) (basic k) (basic m) p q = O.le_meet j k m p q

  abbrev pub full : Order
  full =
      record {
        Kind = Full O.Kind;
        kind_eq = full-eq O.kind_eq;
        le = full_le;
        le_refl = full_le_refl;
        le_trans = full_le_trans;
        le_meet = full_le_meet;
      }

-- ---- meets
module _ (O : Order) where
  -- the lower of two comparable kinds
  abbrev pub meet : O.Kind → O.Kind → Option O.Kind
  meet k m = cond (O.le k m) (some k) (cond (O.le m k) (some m) none)

  -- `none`: nothing is below both. `some n`: n is below both, and above all that is below both.
  abbrev pub IsMeet : O.Kind → O.Kind → Option O.Kind → Type 0
  IsMeet k m none = (j : O.Kind) → O.le j k ≡ true → O.le j m ≡ true → ⊥
  IsMeet k m (some n) = (O.le n k ≡ true) × (O.le n m ≡ true) × ((j : O.Kind) → O.le j k ≡ true → O.le j m ≡ true → O.le j n ≡ true)

  pub meet_is : (k m : O.Kind) → IsMeet k m (meet k m)
  meet_is k m = go (O.le k m) refl
    where
      go₂ : O.le k m ≡ false → (b : Bool) → O.le m k ≡ b → IsMeet k m (cond b (some m) none)
      go₂ f true e = (e, O.le_refl m, λ j p q. q)
      go₂ f false e = λ j p q. ⊎_elim (λ h. false≢true (sym f ∙ h)) (λ h. false≢true (sym e ∙ h)) (O.le_meet j k m p q)

      go : (b : Bool) → O.le k m ≡ b → IsMeet k m (cond b (some k) (cond (O.le m k) (some m) none))
      go true e = (O.le_refl k, e, λ j p q. p)
      go false e = go₂ e (O.le m k) refl
