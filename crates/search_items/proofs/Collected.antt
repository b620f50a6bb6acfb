-- The value of a list of codes: its places, and that the codes in use are the list. Assumes nothing.
use mathlib.Core.Path.{◌≡◌, refl, sym, ap, ap₂, ◌∙◌}
use mathlib.Core.List.{List, [], ◌∷◌, ◌++◌, foldl, append-nil, append_assoc}
use Prim.Native.Nat.{ℕ, suc, ◌+◌, ◌-◌, ◌<◌, ◌≤◌}
use native.Mathlib.Omega.{arith}
use lib.ListN.{length, set, replicate, length-append}
use lib.Seq.{set-append_seam, take_at}
use borrow.Author.Tests.{lt-leb}
use Rattle.search_items.specs.declared.Items.{Items}
use Rattle.search_items.specs.Items.{most_codes, items_of, pushed, collect}

-- the codes from the first place on, then zeros
abbrev padded : List ℕ → List ℕ
padded s = s ++ replicate (most_codes - length s) 0

abbrev pub filled : List ℕ → Items
filled s = record { n = length s; codes = padded s }

module _ (s : List ℕ) (t : ℕ) (h : length s < most_codes) where
  longer : length (s ++ t ∷ []) ≡ length s + 1
  longer = length-append s (t ∷ [])

  more : set (padded s) (length s) t ≡ padded (s ++ t ∷ [])
  more =
      let k = most_codes - (length s + 1) in
      let e : most_codes - length s ≡ suc k = omega arith in
      let e' : most_codes - length (s ++ t ∷ []) ≡ k = omega (arith, longer) in
      ap (λ (m : ℕ). set (s ++ replicate m 0) (length s) t) e
      ∙ set-append_seam s 0 (replicate k 0) t
      ∙ sym (append_assoc s (t ∷ []) (replicate k 0))
      ∙ ap (λ (m : ℕ). (s ++ t ∷ []) ++ replicate m 0) (sym e')

  push_filled : pushed (filled s) t ≡ filled (s ++ t ∷ [])
  push_filled = rw (lt-leb most_codes (length s) h) (ap₂ (λ (n : ℕ) (l : List ℕ). record { n = n; codes = l }) (sym longer) more)

fold_filled : (ts s : List ℕ) → length s + length ts ≤ most_codes → foldl pushed (filled s) ts ≡ filled (s ++ ts)
fold_filled [] s h = ap filled (sym (append-nil s))
fold_filled (t ∷ ts) s h =
    let k : length s < most_codes = omega arith in
    ap (λ (w : Items). foldl pushed w ts) (push_filled s t k)
    ∙ fold_filled ts (s ++ t ∷ []) (omega (arith, longer s t k))
    ∙ ap filled (append_assoc s (t ∷ []) ts)

pub collect_filled : (ts : List ℕ) → length ts ≤ most_codes → collect ts ≡ filled ts
collect_filled ts h = fold_filled ts [] (omega arith)

pub items_collect : (ts : List ℕ) → length ts ≤ most_codes → items_of (collect ts) ≡ ts
items_collect ts h = ap items_of (collect_filled ts h) ∙ take_at ts (replicate (most_codes - length ts) 0) (length ts) refl
