-- What follows from a listing's promise: which answer comes when, its counts, and the lent bytes by it. Assumes nothing.
use mathlib.Core.Path.{◌≡◌, sym, ap, ◌∙◌}
use mathlib.Core.Logic.{◌↔◌}
use mathlib.Core.Option.{none, some}
use mathlib.Core.List.{List, [], ◌∷◌, ◌++◌}
use Prim.Native.Nat.{ℕ, ◌≤◌, ◌<◌}
use lib.ListN.{length, drop}
use Rattle.text_grammar.specs.Told.{Told}
use Rattle.text_grammar.specs.Terms.{OurFields}
use Rattle.text_grammar.proofs.Told as told_by
use Rattle.text_write.proofs.Answers.{after_fits, after_small}
use Rattle.overlap_spec.specs.Overlaps.{lines_of, overlap_text}
use Rattle.std.specs.Prelude.{Ok, Err}
use Rattle.overlap_counts.specs.declared.Counts.{Counts}
use Rattle.overlap_list.specs.Answers.{Listed, told, Lists}

module _ {x y : OurFields} {old : List ℕ} {r : Listed} {new : List ℕ} (is : Lists x y old r new) where
  abbrev text : List ℕ
  text = overlap_text x y

  abbrev counts : List ℕ
  counts = length (lines_of x y) ∷ length text ∷ []

  -- both counts are returned either way
  pub counts_are : (told r).values ≡ counts
  counts_are = ap (λ (a : Told). a.values) is.answer

  -- 8 exactly where more bytes are needed than lent, and no refusal exactly where they have room
  pub eight_iff : ((told r).number ≡ some 8) ↔ (length old < length text)
  eight_iff =
      let iff = told_by.eight_iff (length text) (length old) counts in
      let number = ap (λ (a : Told). a.number) is.answer in
      (λ e. iff.0 (sym number ∙ e), λ h. number ∙ iff.1 h)

  pub fits_iff : ((told r).number ≡ none) ↔ (length text ≤ length old)
  fits_iff =
      let iff = told_by.fits_iff (length text) (length old) counts in
      let number = ap (λ (a : Told). a.number) is.answer in
      (λ e. iff.0 (sym number ∙ e), λ h. number ∙ iff.1 h)

  -- the lent bytes by the room
  pub written : length text ≤ length old → new ≡ text ++ drop (length text) old
  written h = is.bytes ∙ after_fits text old h

  pub kept : length old < length text → new ≡ old
  kept h = is.bytes ∙ after_small text old h

  -- the counts of each answer
  module _ (c : Counts) where
    pub lines_told : r ≡ Ok c → (c.bytes ≡ length text) × (length text ≤ length old)
    lines_told h =
        let number : (told r).number ≡ none = ap (λ (a : Listed). (told a).number) h in
        let values : c.entries ∷ c.bytes ∷ [] ≡ counts = sym (ap (λ (a : Listed). (told a).values) h) ∙ counts_are in
        let k : c.bytes ≡ length text = cc in
        (k, fits_iff.0 number)

    pub small_told : r ≡ Err (record { counts = c }) → (c.bytes ≡ length text) × (length old < length text)
    small_told h =
        let number : (told r).number ≡ some 8 = ap (λ (a : Listed). (told a).number) h in
        let values : c.entries ∷ c.bytes ∷ [] ≡ counts = sym (ap (λ (a : Listed). (told a).values) h) ∙ counts_are in
        let k : c.bytes ≡ length text = cc in
        (k, eight_iff.0 number)
