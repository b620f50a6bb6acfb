-- A text from the left, as code reads it: the term at its front, then the separator, then the next term.
-- `walk_says` of proofs/ says that on a text of the grammar this meets the tokens of what the text says.
use Rattle.std.specs.Prelude.{◌≡◌, true, false, List, [], ◌∷◌, ℕ, zero, suc, ◌+◌, length, drop}
use Rattle.std.proofs.Math.Logic.{ite}
use Rattle.std.proofs.Math.Decide.{ℕ_discrete}
use Rattle.text_grammar.specs.Bytes.{Digit, digit?, Begins, b_digit, b_minus, b_quote, b_letter, b_e, b_none, begins}
use Rattle.text_grammar.specs.Grammar.{Raw, raw_var, raw_empty, spell, raw_con}
use Rattle.text_grammar.specs.constants.Constants.{raw_int, raw_str}
use Rattle.text_grammar.specs.Tokens.{Token}

-- the digits that z begins with
abbrev pub digits1 : {b : ℕ} → Dec (Digit b) → ℕ → List ℕ → List ℕ
digits1 (yes h) b r = b ∷ r
digits1 (no n) b r = []

abbrev pub leading_digits : List ℕ → List ℕ
leading_digits [] = []
leading_digits (b ∷ z) = digits1 (digit? b) b (leading_digits z)

-- the bytes of z before its first quote
abbrev pub quote1 : {b : ℕ} → Dec (b ≡ 34) → ℕ → List ℕ → List ℕ
quote1 (yes h) b r = []
quote1 (no n) b r = b ∷ r

abbrev pub until_quote : List ℕ → List ℕ
until_quote [] = []
until_quote (b ∷ z) = quote1 (ℕ_discrete b 34) b (until_quote z)

-- the term at the front, told by its first byte; what begins no term counts as `empty`
abbrev pub front_b : (b : ℕ) (z : List ℕ) → Begins b → Raw
front_b b z (b_digit h) = raw_con (raw_int false (b ∷ leading_digits z))
front_b b z (b_minus h) = raw_con (raw_int true (leading_digits z))
front_b b z (b_quote h) = raw_con (raw_str (until_quote z))
front_b b z (b_letter k h) = raw_var k (leading_digits z)
front_b b z (b_e h) = raw_empty
front_b b z (b_none d m q l e) = raw_empty

abbrev pub front : List ℕ → Raw
front [] = raw_empty
front (b ∷ z) = front_b b z (begins b)

-- the terms of z, which stands at place p, the first of them term i of field n
abbrev pub walk_on : (List ℕ → ℕ → ℕ → ℕ → List Token) → ℕ → ℕ → ℕ → List ℕ → List Token
walk_on k p n i [] = []
walk_on k p n i (c ∷ z) = ite (ℕ_discrete c 58) (k z (suc p) n (suc i)) (k z (suc p) (suc n) 1)

abbrev pub walk : ℕ → List ℕ → ℕ → ℕ → ℕ → List Token
walk zero z p n i = []
walk (suc room) [] p n i = []
walk (suc room) (b ∷ z) p n i =
    record { place = p; in_field = n; index = i; raw = front (b ∷ z) }
    ∷ walk_on (walk room) (p + length (spell (front (b ∷ z)))) n i (drop (length (spell (front (b ∷ z)))) (b ∷ z))

-- all terms of a text: it has no more terms than bytes
abbrev pub walked : List ℕ → List Token
walked t = walk (length t) t 0 1 1
