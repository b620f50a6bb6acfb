-- What a byte begins is settled by the byte: a digit or a minus begins an integer, a type's letter a variable of that type. Assumes nothing.
use mathlib.Core.Path.{◌≡◌, refl, subst}
use Prim.Native.Nat.{ℕ}
use native.Mathlib.Omega.{arith}
use Rattle.math_types.specs.Types.{Kind}
use Rattle.text_grammar.specs.Letters.{letter, letter_lower, letter_e, letter_once}
use Rattle.text_grammar.specs.Bytes.{Digit, Begins, b_digit, b_minus, b_quote, b_letter, b_e, b_none}

pub begun_digit : (b : ℕ) (c : Begins b) → Digit b → (h : Digit b) × (c ≡ b_digit h)
begun_digit b (b_digit h) d = (h, refl)
begun_digit b (b_minus h) d = absurd (omega (arith, d.0))
begun_digit b (b_quote h) d = absurd (omega (arith, d.0))
begun_digit b (b_letter k h) d = absurd (omega (arith, (letter_lower k).0, d.1))
begun_digit b (b_e h) d = absurd (omega (arith, d.1))
begun_digit b (b_none n m q l e) d = absurd (n d)

module _ (k : Kind) where
  abbrev OfKind : Begins (letter k) → Type 0
  OfKind c = (h : letter k ≡ letter k) × (c ≡ b_letter k h)

  pub begun_letter : (c : Begins (letter k)) → OfKind c
  begun_letter (b_digit h) = absurd (omega (arith, (letter_lower k).0, h.1))
  begun_letter (b_minus h) = absurd (omega (arith, (letter_lower k).0))
  begun_letter (b_quote h) = absurd (omega (arith, (letter_lower k).0))
  begun_letter (b_letter j h) = subst (λ (i : Kind). (e : letter k ≡ letter i) → OfKind (b_letter i e)) (letter_once k j h) (λ e. (e, refl)) h
  begun_letter (b_e h) = absurd (letter_e k h)
  begun_letter (b_none n m q l e) = absurd (l k refl)
