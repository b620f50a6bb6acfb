-- Digits, and the bytes before a quote, at the front of a text. Assumes nothing.
--     DigitsTo         what a loop that stands behind i digits knows: digits_more
--     quoted_prefix    how many bytes stand before the first quote
use mathlib.Core.Path.{◌≡◌, refl, sym, ◌∙◌, ap}
use mathlib.Core.List.{List, [], ◌∷◌}
use Rattle.std.specs.Prelude.{eqb, not, cond}
use Rattle.std.specs.List.{prefix_len}
use borrow.Author.Tests.{ne_eqb}
use Prim.Native.Nat.{ℕ, suc, ◌+◌, ◌*◌, ◌-◌, ◌<◌, ◌≤◌}
use native.Mathlib.Numerals.{add-one}
use native.Mathlib.Omega.{arith}
use native.Mathlib.Decide.{ℕ_discrete, dec_le}
use lib.ListN.{length, drop, get_or}
use lib.Seq.{drop-cons}
use Rattle.base_limits.specs.Limits.{lowest_integer}
use Rattle.text_grammar.specs.Bytes.{Digit, digit?}
use Rattle.text_grammar.specs.Numbers.{val, value}
use Rattle.text_grammar.specs.Walk.{digits1, leading_digits, quote1, until_quote}
use Rattle.text_scan.specs.Lexemes.{capped}

-- ---- digits

pub digits_cons : (b : ℕ) (z : List ℕ) → Digit b → leading_digits (b ∷ z) ≡ b ∷ leading_digits z
digits_cons b z h = go (digit? b)
  where
    go : (d : Dec (Digit b)) → digits1 d b (leading_digits z) ≡ b ∷ leading_digits z
    go (yes h') = refl
    go (no n) = absurd (n h)

-- digits behind others make no value smaller, so a value that is capped early is capped at the end
val_grows : (ds : List ℕ) (v : ℕ) → v ≤ val v ds
val_grows [] v = omega arith
val_grows (d ∷ ds) v = omega (arith, val_grows ds (v * 10 + (d - 48)))

capped_early : (ds : List ℕ) (v : ℕ) → capped (val (capped v) ds) ≡ capped (val v ds)
capped_early ds v = go (dec_le v lowest_integer)
  where
    go : Dec (v ≤ lowest_integer) → capped (val (capped v) ds) ≡ capped (val v ds)
    go (yes h) = let e : capped v ≡ v = omega arith in ap (λ (n : ℕ). capped (val n ds)) e
    go (no n) = omega (arith, val_grows ds v, val_grows ds (capped v))

-- with the capped value v so far, behind i digits of t
abbrev pub DigitsTo : List ℕ → ℕ → ℕ → Type 0
DigitsTo t i v =
    (v ≤ suc lowest_integer)
    × (length (leading_digits t) ≡ i + length (leading_digits (drop i t)))
    × (capped (value (leading_digits t)) ≡ capped (val v (leading_digits (drop i t))))

module _ (t : List ℕ) where
  module _ (i v : ℕ) (k : DigitsTo t i v) where
    module _ (h : i < length t) (d : Digit (get_or t i 0)) where
      here : leading_digits (drop i t) ≡ get_or t i 0 ∷ leading_digits (drop (i + 1) t)
      here = rw (add-one, drop-cons t i 0 h) (digits_cons (get_or t i 0) (drop (suc i) t) d)

      pub digits_more : DigitsTo t (i + 1) (capped (v * 10 + (get_or t i 0 - 48)))
      digits_more = (
        omega arith,
        omega (arith, k.1, ap length here),
        k.2 ∙ ap (λ (ds : List ℕ). capped (val v ds)) here ∙ sym (capped_early (leading_digits (drop (i + 1) t)) (v * 10 + (get_or t i 0 - 48))),
      )

-- ---- the bytes before a quote

pub quoted_prefix : (z : List ℕ) → prefix_len (λ b. not (eqb b 34)) z ≡ length (until_quote z)
quoted_prefix [] = refl
quoted_prefix (b ∷ z) = go (ℕ_discrete b 34) (quoted_prefix z)
  where
    go : (d : Dec (b ≡ 34)) → prefix_len (λ x. not (eqb x 34)) z ≡ length (until_quote z)
        → cond (not (eqb b 34)) (1 + prefix_len (λ x. not (eqb x 34)) z) 0 ≡ length (quote1 d b (until_quote z))
    go (yes e) k = rw e refl
    go (no n) k = rw (ne_eqb b 34 n) (omega (arith, k))
