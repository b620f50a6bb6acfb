-- Constants are equal exactly when their plain texts are, and an integer's plain text is its digits behind the leading zeros:
-- so the table of codes can be made by comparing bytes.
use mathlib.Core.Path.{◌≡◌, refl, sym, ap, ◌∙◌, subst}
use mathlib.Core.Logic.{ite}
use mathlib.Core.Bool.{Bool, true, false}
use mathlib.Core.List.{List, [], ◌∷◌, ◌++◌, head-eq_of_cons-eq, tail-eq_of_cons-eq}
use Prim.Native.Nat.{ℕ, suc, ◌+◌, ◌-◌, ◌*◌, ◌<◌}
use native.Mathlib.Omega.{arith}
use native.Mathlib.Decide.{ℕ_discrete}
use lib.ListN.{length, drop, length-append}
use Rattle.base_lists.specs.Seqs.{All, IsCons}
use Rattle.math_terms.specs.Terms.{con}
use Rattle.text_grammar.specs.Bytes.{Digit}
use Rattle.text_grammar.specs.Numbers.{Number, val, value, digits_of}
use Rattle.text_grammar.specs.Plain.{term_text}
use Rattle.text_grammar.specs.constants.Constants.{Con, int, str, signed}
use Rattle.text_grammar.proofs.Numbers.{digits_value, digits_number, digits_one}
use Rattle.math_overlaps.proofs.Seqs.{cut}
use Rattle.math_codes.specs.Texts.{zeros}

-- ---- leading zeros

rest_number : (ds : List ℕ) → IsCons ds → All Digit ds → Number (drop (zeros ds) ds)
rest_number [] c a = absurd c
rest_number (d ∷ []) c a = a.0
rest_number (d ∷ (e ∷ ds)) c a = go (ℕ_discrete d 48) (rest_number (e ∷ ds) tt a.1)
  where
    go : (q : Dec (d ≡ 48)) → Number (drop (zeros (e ∷ ds)) (e ∷ ds)) → Number (drop (ite q (suc (zeros (e ∷ ds))) 0) (d ∷ (e ∷ ds)))
    go (yes p) rec = rec
    go (no n) rec = (a.0, n, a.1)

rest_value : (ds : List ℕ) → value (drop (zeros ds) ds) ≡ value ds
rest_value [] = refl
rest_value (d ∷ []) = refl
rest_value (d ∷ (e ∷ ds)) = go (ℕ_discrete d 48) (rest_value (e ∷ ds))
  where
    go : (q : Dec (d ≡ 48)) → value (drop (zeros (e ∷ ds)) (e ∷ ds)) ≡ value (e ∷ ds) → value (drop (ite q (suc (zeros (e ∷ ds))) 0) (d ∷ (e ∷ ds)))
        ≡ value (d ∷ (e ∷ ds))
    go (yes p) rec = rec ∙ ap (λ (v : ℕ). val v (e ∷ ds)) (let z : 0 ≡ 0 * 10 + (d - 48) = omega arith in z)
    go (no n) rec = refl

-- THE PLAIN TEXT of an integer that was read
pub plain_digits : (ds : List ℕ) → IsCons ds → All Digit ds → digits_of (value ds) ≡ drop (zeros ds) ds
plain_digits ds c a = ap digits_of (sym (rest_value ds)) ∙ digits_one (drop (zeros ds) ds) (rest_number ds c a)

-- ---- equal by their plain texts

abbrev first_digit : List ℕ → Type 0
first_digit [] = ⊥
first_digit (d ∷ ds) = Digit d

number_first : (s : List ℕ) → Number s → first_digit s
number_first [] h = h
number_first (d ∷ []) h = h
number_first (d ∷ (e ∷ s)) h = h.0

-- digits begin with no other byte
no_first : (n b : ℕ) (s : List ℕ) → b < 48 → digits_of n ≡ b ∷ s → ⊥
no_first n b s l e = let h : Digit b = subst first_digit e (number_first (digits_of n) (digits_number n)) in omega (arith, h.0)

-- no integer begins with a quote
int_text : (m : Bool) (n : ℕ) (s : List ℕ) → signed m (digits_of n) ≡ 34 ∷ (s ++ 34 ∷ []) → ⊥
int_text true n s e = let h : ◌≡◌ {A = ℕ} 45 34 = head-eq_of_cons-eq e in omega arith
int_text false n s e = no_first n 34 (s ++ 34 ∷ []) (omega arith) e

digits_once : (m n : ℕ) → digits_of m ≡ digits_of n → m ≡ n
digits_once m n e = sym (digits_value m) ∙ ap value e ∙ digits_value n

-- an integer's sign and magnitude are those of its text
pub integer_once : (x y : Bool) (m n : ℕ) → signed x (digits_of m) ≡ signed y (digits_of n) → int x m ≡ int y n
integer_once true true m n e = ap (int true) (digits_once m n (tail-eq_of_cons-eq e))
integer_once true false m n e = absurd (no_first n 45 (digits_of m) (omega arith) (sym e))
integer_once false true m n e = absurd (no_first m 45 (digits_of n) (omega arith) e)
integer_once false false m n e = ap (int false) (digits_once m n e)

quoted_once : (s t : List ℕ) → s ++ 34 ∷ [] ≡ t ++ 34 ∷ [] → s ≡ t
quoted_once s t e = (cut s t (34 ∷ []) (34 ∷ []) (omega (arith, ap length e, length-append s (34 ∷ []), length-append t (34 ∷ []))) e).0

-- THE CONSTANTS
pub text_once : (c d : Con) → term_text (con c) ≡ term_text (con d) → c ≡ d
text_once (int x m) (int y n) e = integer_once x y m n e
text_once (int x m) (str s) e = absurd (int_text x m s e)
text_once (str s) (int y n) e = absurd (int_text y n s (sym e))
text_once (str s) (str t) e = ap str (quoted_once s t (tail-eq_of_cons-eq e))
