-- Types below list with their leaves as a parameter: leaves are incomparable, atom is above them.
-- Every law is proved once, for any leaves whose equality is decided; document 01's integer and string are an instance (Types).
--     flat        the order of leaves and atom; `full` puts list on top
--     _⊑_         the least order in which each leaf is below atom and atom is below list
--     le_is       the two are one
use Rattle.std.specs.Prelude.{◌≡◌, refl, ◌⊎◌, ◌↔◌, ◌≢◌, Bool, true, false}
use Rattle.std.proofs.Common.{sym, ap, ◌∙◌, subst, inl, inr}
use Rattle.std.proofs.lemmas.Bool.{false≢true}
use Rattle.base_lists.specs.Truths.{decided, decided_true, true_decided}
use Rattle.math_types.specs.Order.{Order, Full, basic, list, full_le, full_le_refl, full_le_trans}

pub data Flat (L : Type 0) : Type 0 where
  leaf : L → Flat L
  atom : Flat L
  deriving Discrete as flat-eq

-- ---- leaves and atom

module _ {L : Type 0} (d : Discrete L) where
  abbrev pub flat_le : Flat L → Flat L → Bool
  flat_le (leaf l) (leaf m) = decided (d l m)
  flat_le (leaf l) atom = true
  flat_le atom (leaf m) = false
  flat_le atom atom = true

  leaf_one : (l m : L) → decided (d l m) ≡ true → l ≡ m
  leaf_one l m e = decided_true (d l m) e

  pub flat_refl : (k : Flat L) → flat_le k k ≡ true
  flat_refl (leaf l) = true_decided (d l l) refl
  flat_refl atom = refl

  pub flat_anti : (j k : Flat L) → flat_le j k ≡ true → flat_le k j ≡ true → j ≡ k
  flat_anti (leaf l) (leaf m) p q = ap (λ (x : L). leaf x) (leaf_one l m p)
  flat_anti (leaf l) atom p q = absurd (false≢true q)
  flat_anti atom (leaf m) p q = absurd (false≢true p)
  flat_anti atom atom p q = refl

  pub flat_trans : (j k m : Flat L) → flat_le j k ≡ true → flat_le k m ≡ true → flat_le j m ≡ true
  flat_trans (leaf i) (leaf l) (leaf m) p q = subst (λ (x : L). decided (d i x) ≡ true) (leaf_one l m q) p
  flat_trans (leaf i) atom (leaf m) p q = absurd (false≢true q)
  flat_trans (leaf i) k atom p q = refl
  flat_trans atom (leaf l) m p q = absurd (false≢true p)
  flat_trans atom atom m p q = q

  -- kinds with a common lower kind are comparable
  pub flat_meet : (j k m : Flat L) → flat_le j k ≡ true → flat_le j m ≡ true → (flat_le k m ≡ true) ⊎ (flat_le m k ≡ true)
  flat_meet j (leaf l) atom p q = inl refl
  flat_meet j atom (leaf m) p q = inr refl
  flat_meet j atom atom p q = inl refl
  flat_meet (leaf i) (leaf l) (leaf m) p q = inl (true_decided (d l m) (sym (leaf_one i l p) ∙ leaf_one i m q))
  flat_meet atom (leaf l) (leaf m) p q = absurd (false≢true p)

module _ (L : Type 0) (d : Discrete L) where
  abbrev pub flat : Order
  flat =
      record {
        Kind = Flat L;
        kind_eq = flat-eq d;
        le = flat_le d;
        le_refl = flat_refl d;
        le_trans = flat_trans d;
        le_meet = flat_meet d;
      }

-- ---- the order in words

infix 50 ◌⊑◌
-- Document 01: "Integer and string are below atom, atom is below list"; the least order that says so, of any leaves.
pub data ◌⊑◌ {L : Type 0} : Full (Flat L) → Full (Flat L) → Type 0 where
  -- a leaf is below atom
  leaf_atom : (l : L) → basic (leaf l) ⊑ basic atom
  -- atom is below list
  atom_list : basic atom ⊑ list
  -- reflexivity: "below" is at or below
  itself : {k : Full (Flat L)} → k ⊑ k
  -- transitivity: so each leaf is below list too
  through : {j k m : Full (Flat L)} → j ⊑ k → k ⊑ m → j ⊑ m

module _ {L : Type 0} (d : Discrete L) where
  -- list is on top, by computation: no case by type
  abbrev pub le : Full (Flat L) → Full (Flat L) → Bool
  le = full_le (flat L d)

  pub le_refl : (k : Full (Flat L)) → le k k ≡ true
  le_refl = full_le_refl (flat L d)

  pub le_trans : (j k m : Full (Flat L)) → le j k ≡ true → le k m ≡ true → le j m ≡ true
  le_trans = full_le_trans (flat L d)

  pub le_anti : (j k : Full (Flat L)) → le j k ≡ true → le k j ≡ true → j ≡ k
  le_anti (basic j) (basic k) p q = ap (λ (x : Flat L). basic x) (flat_anti d j k p q)
  le_anti (basic j) list p q = absurd (false≢true q)
  le_anti list (basic k) p q = absurd (false≢true p)
  le_anti list list p q = refl

  le_sound : (j k : Full (Flat L)) → le j k ≡ true → j ⊑ k
  le_sound (basic (leaf l)) (basic (leaf m)) p = subst (λ (x : L). basic (leaf l) ⊑ basic (leaf x)) (decided_true (d l m) p) itself
  le_sound (basic (leaf l)) (basic atom) p = leaf_atom l
  le_sound (basic (leaf l)) list p = through (leaf_atom l) atom_list
  le_sound (basic atom) (basic (leaf m)) p = absurd (false≢true p)
  le_sound (basic atom) (basic atom) p = itself
  le_sound (basic atom) list p = atom_list
  le_sound list (basic k) p = absurd (false≢true p)
  le_sound list list p = itself

  le_complete : {j k : Full (Flat L)} → j ⊑ k → le j k ≡ true
  le_complete (leaf_atom l) = refl
  le_complete atom_list = refl
  le_complete (itself {k}) = le_refl k
  le_complete (through {j} {k} {m} p q) = le_trans j k m (le_complete p) (le_complete q)

  pub le_is : (j k : Full (Flat L)) → (le j k ≡ true) ↔ (j ⊑ k)
  le_is j k = (le_sound j k, le_complete)

  -- different leaves are incomparable
  pub incomparable : (l m : L) → l ≢ m → basic (leaf l) ⊑ basic (leaf m) → ⊥
  incomparable l m n h = n (decided_true (d l m) (le_complete h))
