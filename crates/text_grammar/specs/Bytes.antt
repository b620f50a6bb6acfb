-- Which bytes the grammar names, and what a byte may begin, follow, or be held by: views with their evidence.
use Rattle.std.specs.Prelude.{◌≡◌, ◌≢◌, ℕ, ◌≤◌}
use Rattle.std.proofs.Common.{inl, inr}
use Rattle.std.proofs.Math.Decide.{dec_le, ℕ_discrete}
use Rattle.math_types.specs.Types.{Kind, kinds, every_kind}
pub use Rattle.text_grammar.specs.Letters.{letter}
use Rattle.text_grammar.specs.Letters.{LetterIn, letter_in}

abbrev pub Digit : ℕ → Type 0
Digit b = (48 ≤ b) × (b ≤ 57)

-- document 01: "bytes from 32 to 126 other than the quote"
abbrev pub Inside : ℕ → Type 0
Inside b = (32 ≤ b) × (b ≤ 126) × (b ≢ 34)

unfoldable pub digit? : (b : ℕ) → Dec (Digit b)
unfolding dec_le
digit? b = go (dec_le 48 b) (dec_le b 57)
  where
    go : Dec (48 ≤ b) → Dec (b ≤ 57) → Dec (Digit b)
    go (yes p) (yes q) = yes (p, q)
    go (yes p) (no q) = no (λ h. q h.1)
    go (no p) d = no (λ h. p h.0)

-- what a byte may begin
pub data Begins (b : ℕ) : Type 0 where
  b_digit : Digit b → Begins b
  b_minus : b ≡ 45 → Begins b
  b_quote : b ≡ 34 → Begins b
  b_letter : (k : Kind) → b ≡ letter k → Begins b
  b_e : b ≡ 101 → Begins b
  b_none : (Digit b → ⊥) → b ≢ 45 → b ≢ 34 → ((k : Kind) → b ≢ letter k) → b ≢ 101 → Begins b

unfoldable pub begins : (b : ℕ) → Begins b
unfolding digit? ℕ_discrete
begins b = go (digit? b) (ℕ_discrete b 45) (ℕ_discrete b 34) (letter_in b kinds) (ℕ_discrete b 101)
  where
    go : Dec (Digit b) → Dec (b ≡ 45) → Dec (b ≡ 34) → LetterIn b kinds → Dec (b ≡ 101) → Begins b
    go (yes p) m q l e = b_digit p
    go (no p) (yes m) q l e = b_minus m
    go (no p) (no m) (yes q) l e = b_quote q
    go (no p) (no m) (no q) (inl l) e = b_letter l.0 l.1
    go (no p) (no m) (no q) (inr l) (yes e) = b_e e
    go (no p) (no m) (no q) (inr l) (no e) = b_none p m q (every_kind (λ k. b ≢ letter k) l) e

-- what may follow a digit, or a term
pub data Follows (b : ℕ) : Type 0 where
  f_digit : Digit b → Follows b
  f_colon : b ≡ 58 → Follows b
  f_bar : b ≡ 124 → Follows b
  f_none : (Digit b → ⊥) → b ≢ 58 → b ≢ 124 → Follows b

unfoldable pub follows : (b : ℕ) → Follows b
unfolding digit? ℕ_discrete
follows b = go (digit? b) (ℕ_discrete b 58) (ℕ_discrete b 124)
  where
    go : Dec (Digit b) → Dec (b ≡ 58) → Dec (b ≡ 124) → Follows b
    go (yes p) c d = f_digit p
    go (no p) (yes c) d = f_colon c
    go (no p) (no c) (yes d) = f_bar d
    go (no p) (no c) (no d) = f_none p c d

-- the first digit of a variable's number
pub data First (b : ℕ) : Type 0 where
  n_zero : b ≡ 48 → First b
  n_more : Digit b → b ≢ 48 → First b
  n_none : (Digit b → ⊥) → First b

unfoldable pub first : (b : ℕ) → First b
unfolding digit? ℕ_discrete
first b = go (digit? b) (ℕ_discrete b 48)
  where
    go : Dec (Digit b) → Dec (b ≡ 48) → First b
    go (yes p) (yes z) = n_zero z
    go (yes p) (no z) = n_more p z
    go (no p) d = n_none p

-- in a string
pub data Holds (b : ℕ) : Type 0 where
  h_quote : b ≡ 34 → Holds b
  h_in : Inside b → Holds b
  h_none : b ≢ 34 → (Inside b → ⊥) → Holds b

unfoldable pub holds : (b : ℕ) → Holds b
unfolding dec_le ℕ_discrete
holds b = go (ℕ_discrete b 34) (dec_le 32 b) (dec_le b 126)
  where
    go : Dec (b ≡ 34) → Dec (32 ≤ b) → Dec (b ≤ 126) → Holds b
    go (yes q) l u = h_quote q
    go (no q) (yes l) (yes u) = h_in (l, u, q)
    go (no q) (yes l) (no u) = h_none q (λ h. u h.1)
    go (no q) (no l) u = h_none q (λ h. l h.0)
