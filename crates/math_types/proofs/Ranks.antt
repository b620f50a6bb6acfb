-- THE MEET OF TWO RANKS is the meet of their kinds: the greatest kind below both, where there is one. Assumes nothing.
use mathlib.Core.Path.{◌≡◌, refl, sym, ◌∙◌, ap, ap₂}
use mathlib.Core.Logic.{◌↔◌}
use mathlib.Core.Option.{Option, none, some}
use mathlib.Core.Bool.{Bool, true, false, cond, false≢true}
use Prim.Native.Nat.{ℕ, ◌+◌, ◌*◌, ◌<◌}
use native.Mathlib.Nat.{lt_of_not-le}
use native.Mathlib.Omega.{arith}
use lib.Dec.{eqb}
use lib.ListN.{get_or-eq_default}
use borrow.Author.Tests.{eq-eqb, ne_eqb}
use Rattle.math_types.specs.Order.{meet, IsMeet, meet_is}
use Rattle.math_types.specs.Lawful.{entry_anti}
use Rattle.math_types.specs.Types.{Kind, rank, rank_once, comparisons, entry, entry_is, table_lawful, le, types}
use Rattle.math_types.specs.Values.{meet_rank, meet_of}
use Rattle.std.specs.Prelude.{Some, None}
use Rattle.std.specs.Prelude as std

module _ (j k : Kind) where
  -- THE LAW: `meet` is the greatest kind below both (`meet_is`)
  pub meet_rank_is : meet_rank (rank j) (rank k) ≡ meet_of (meet types j k)
  meet_rank_is = rw (entry_is j k, entry_is k j) (go (le j k) (le k j))
    where
      go : (b c : Bool) → cond b (Some (rank j)) (cond c (Some (rank k)) None) ≡ meet_of (cond b (some j) (cond c (some k) none))
      go true c = refl
      go false true = refl
      go false false = refl

  -- so the rank it gives is that of no other kind
  pub meet_rank_some : (m : Kind) → (meet_rank (rank j) (rank k) ≡ Some (rank m)) ↔ (meet types j k ≡ some m)
  meet_rank_some m = (λ e. back (meet types j k) (sym meet_rank_is ∙ e), λ e. meet_rank_is ∙ ap meet_of e)
    where
      back : (o : Option Kind) → meet_of o ≡ Some (rank m) → o ≡ some m
      back (some n) e = ap some (rank_once n m cc)
      back none e = let z : ◌≡◌ {A = ℕ} 0 1 = cc in absurd (omega arith)

  -- and it gives none exactly where nothing is below both
  pub meet_rank_none : (meet_rank (rank j) (rank k) ≡ None) ↔ ((m : Kind) → le m j ≡ true → le m k ≡ true → ⊥)
  meet_rank_none = (
    λ e. back (meet types j k) (meet_is types j k) (sym meet_rank_is ∙ e),
    λ f. meet_rank_is ∙ ap meet_of (forth (meet types j k) (meet_is types j k) f),
  )
    where
      back : (o : Option Kind) → IsMeet types j k o → meet_of o ≡ None → (m : Kind) → le m j ≡ true → le m k ≡ true → ⊥
      back none i e = i
      back (some n) i e = let z : ◌≡◌ {A = ℕ} 0 1 = cc in absurd (omega arith)

      forth : (o : Option Kind) → IsMeet types j k o → ((m : Kind) → le m j ≡ true → le m k ≡ true → ⊥) → o ≡ none
      forth none i f = refl
      forth (some n) i f = absurd (f n i.0 i.1)

-- ---- of any two numbers: what is no rank is below nothing

-- two that are below each other are one
pub ranks_anti : (x y : ℕ) → entry x y ≡ true → entry y x ≡ true → x ≡ y
ranks_anti x y p q = entry_anti entry 4 table_lawful x y (low x y p) (low y x q) p q
  where
    low : (x y : ℕ) → entry x y ≡ true → x < 4
    low x y p = lt_of_not-le (λ h. false≢true (sym (get_or-eq_default comparisons false {n = 4 * x + y} (omega (arith, h))) ∙ p))

-- the meet is the one exactly where that is below the other; without one neither is
abbrev pub MeetSays : ℕ → ℕ → std.Option ℕ → Type 0
MeetSays j k (Some m) = (eqb m j ≡ entry j k) × (eqb m k ≡ entry k j)
MeetSays j k None = (entry j k ≡ false) × (entry k j ≡ false)

pub meet_says : (j k : ℕ) → MeetSays j k (meet_rank j k)
meet_says j k = go (entry j k) (entry k j) refl refl
  where
    alike : j ≡ k → entry j k ≡ entry k j
    alike e = ap₂ entry e (sym e)

    go : (b c : Bool) → entry j k ≡ b → entry k j ≡ c → MeetSays j k (cond b (Some j) (cond c (Some k) None))
    go true true p q = (eq-eqb j j refl ∙ sym p, eq-eqb j k (ranks_anti j k p q) ∙ sym q)
    go true false p q = (eq-eqb j j refl ∙ sym p, ne_eqb j k (λ e. false≢true (sym q ∙ sym (alike e) ∙ p)) ∙ sym q)
    go false true p q = (ne_eqb k j (λ e. false≢true (sym p ∙ alike (sym e) ∙ q)) ∙ sym p, eq-eqb k k refl ∙ sym q)
    go false false p q = (p, q)
