-- Which answer to a commit comes when, and what it leaves. Assumes nothing.
use mathlib.Core.Path.{◌≡◌, refl, sym, ap, ap₂, ◌∙◌}
use mathlib.Core.Logic.{◌↔◌, ◌≢◌}
use mathlib.Core.Bool.{Bool, true, false, cond, ◌&&◌}
use mathlib.Core.List.{List, [], ◌∷◌}
use mathlib.Core.Option.{Option, none, some}
use Rattle.std.specs.Prelude.{Ok, Err}
use Prim.Native.Nat.{ℕ, ◌≤◌, ◌<◌}
use native.Mathlib.Omega.{arith}
use lib.Dec.{eqb, leb}
use lib.ListN.{length}
use borrow.Author.Tests.{eq-eqb, ne_eqb, eqb-true}
use Rattle.base_lists.specs.Truths.{both_is, false_is}
use Rattle.text_grammar.specs.Told.{Told, by_room}
use Rattle.text_grammar.proofs.Told as told_by
use Rattle.text_write.specs.Answers.{after}
use Rattle.text_write.proofs.Answers.{after_small}
use Rattle.overlap_counts.specs.declared.Counts.{Counts}
use Rattle.overlap_counts.specs.declared.CommitRefusal.TheVariants.{NoRoom, Stale}
use Rattle.overlap_counts.specs.Answers.{told, same_counts, commit_told, commit_leaves}

-- ---- the test of both counts

pub same_iff : (a c : Counts) → (same_counts a c ≡ true) ↔ (a ≡ c)
same_iff a c =
    let both = both_is (eqb a.entries c.entries) (eqb a.bytes c.bytes) in (
      λ e.
          ap₂ (λ (n b : ℕ). record { entries = n; bytes = b })
          (eqb-true a.entries c.entries (both.0 e).0) (eqb-true a.bytes c.bytes (both.0 e).1),
      λ e.
          both.1 (
            eq-eqb a.entries c.entries (ap (λ (x : Counts). x.entries) e),
            eq-eqb a.bytes c.bytes (ap (λ (x : Counts). x.bytes) e),
          ),
    )

pub other_iff : (a c : Counts) → (same_counts a c ≡ false) ↔ (a ≢ c)
other_iff a c =
    let f = false_is (same_counts a c) in
    (λ e q. f.0 e ((same_iff a c).1 q), λ n. f.1 (λ e. n ((same_iff a c).0 e)))

pub same_counts_lem : (a c : Counts) → Dec (a ≡ c)
same_counts_lem a c = go (same_counts a c) refl
  where
    go : (b : Bool) → same_counts a c ≡ b → Dec (a ≡ c)
    go true e = yes ((same_iff a c).0 e)
    go false e = no ((other_iff a c).0 e)

-- ---- the answer, by the counts

module _ (asked c : Counts) (lent : ℕ) where
  abbrev fresh : Told
  fresh = by_room c.bytes lent (c.entries ∷ c.bytes ∷ [])

  abbrev by : Bool → Told
  by b = cond b fresh (told (Err Stale))

  -- no refusal by room is 13
  room_other : (by true).number ≡ some 13 → ⊥
  room_other e = go (leb c.bytes lent) e
    where
      go : (b : Bool) → ◌≡◌ {A = Option ℕ} (cond b none (some 8)) (some 13) → ⊥
      go true q = let z : ◌≡◌ {A = ℕ} 0 1 = cc in absurd (omega arith)
      go false q = let z : ◌≡◌ {A = ℕ} 8 13 = cc in absurd (omega arith)

  pub told_stale : asked ≢ c → commit_told asked c lent ≡ told (Err Stale)
  told_stale n = ap by ((other_iff asked c).1 n)

  pub told_fresh : asked ≡ c → commit_told asked c lent ≡ fresh
  told_fresh e = ap by ((same_iff asked c).1 e)

  pub thirteen_iff : ((commit_told asked c lent).number ≡ some 13) ↔ (asked ≢ c)
  thirteen_iff = (go (same_counts asked c) refl, λ n. ap (λ (a : Told). a.number) (told_stale n))
    where
      go : (b : Bool) → same_counts asked c ≡ b → (by b).number ≡ some 13 → asked ≢ c
      go true q e = absurd (room_other e)
      go false q e = (other_iff asked c).0 q

  -- an answer that is not 13 is that of a list with these counts
  not_stale : (o : Option ℕ) → (some 13 ≡ o → ⊥) → (commit_told asked c lent).number ≡ o → (asked ≡ c) × (fresh.number ≡ o)
  not_stale o other = go (same_counts asked c) refl
    where
      go : (b : Bool) → same_counts asked c ≡ b → (by b).number ≡ o → (asked ≡ c) × (fresh.number ≡ o)
      go true q e = ((same_iff asked c).0 q, e)
      go false q e = absurd (other e)

  pub eight_iff : ((commit_told asked c lent).number ≡ some 8) ↔ ((asked ≡ c) × (lent < c.bytes))
  eight_iff =
      let iff = told_by.eight_iff c.bytes lent (c.entries ∷ c.bytes ∷ []) in (
        λ e. let f = not_stale (some 8) (λ q. let z : ◌≡◌ {A = ℕ} 13 8 = cc in absurd (omega arith)) e in (f.0, iff.0 f.1),
        λ h. ap (λ (a : Told). a.number) (told_fresh h.0) ∙ iff.1 h.1,
      )

  pub fits_iff : ((commit_told asked c lent).number ≡ none) ↔ ((asked ≡ c) × (c.bytes ≤ lent))
  fits_iff =
      let iff = told_by.fits_iff c.bytes lent (c.entries ∷ c.bytes ∷ []) in (
        λ e. let f = not_stale none (λ q. let z : ◌≡◌ {A = ℕ} 1 0 = cc in absurd (omega arith)) e in (f.0, iff.0 f.1),
        λ h. ap (λ (a : Told). a.number) (told_fresh h.0) ∙ iff.1 h.1,
      )

-- ---- the lent bytes, by the counts

module _ (asked c : Counts) (text old : List ℕ) where
  abbrev left_by : Bool → List ℕ
  left_by b = cond b (after text old) old

  pub leaves_stale : asked ≢ c → commit_leaves asked c text old ≡ old
  leaves_stale n = ap left_by ((other_iff asked c).1 n)

  pub leaves_fresh : asked ≡ c → commit_leaves asked c text old ≡ after text old
  leaves_fresh e = ap left_by ((same_iff asked c).1 e)

  pub leaves_small : asked ≡ c → length old < length text → commit_leaves asked c text old ≡ old
  leaves_small e h = leaves_fresh e ∙ after_small text old h
