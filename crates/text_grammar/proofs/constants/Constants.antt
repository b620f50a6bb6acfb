-- The laws of the constants: what all others use of them; and document 02's sentences on signs.
--     equal-values     two written integers are equal exactly when their values are
--     minus-zero       `-0` equals `0`
--     minus-written    and is written `0`
--     limits-are       from -2147483648 to 2147483647
use mathlib.Core.Path.{◌≡◌, refl, sym, ap, ap₂, ◌∙◌}
use mathlib.Core.Logic.{◌⊎◌, inl, inr, ◌↔◌, ◌≢◌}
use mathlib.Core.Bool.{Bool, true, false, not, false≢true}
use mathlib.Core.List.{List, [], ◌∷◌}
use Prim.Native.Nat.{ℕ, zero, suc, ◌≤◌}
use native.Mathlib.Omega.{arith, by_contra}
use native.Mathlib.Decide.{ℕ_discrete, dec_lt}
use borrow.Author.Tests.{eqb-true, eq-eqb}
use lib.Dec.{eqb}
use lib.IntN.{pos, negsuc, neg_ℤ, neg_ℤ-neg_ℤ}
use lib.ListN.{length, length-append}
use Rattle.base_limits.specs.Limits.{most_digits, lowest_integer, longest_term}
use Rattle.base_lists.specs.Seqs.{IsCons}
use Rattle.math_types.specs.Types.{leaf, Basic, integer, string, atom}
use Rattle.text_grammar.specs.Numbers.{value, digits_of}
use Rattle.text_grammar.specs.constants.Constants.{Con, int, str, signed, limit, sign_of, amount, Signs, RawCon, raw_int, raw_str, spell_con, ProperCon}
use Rattle.text_grammar.specs.constants.Constants.{OverCon, LeanCon, con_of, raw_of_con, ConIn, ConOk, some_of}
use Rattle.text_grammar.proofs.Numbers.{digits_value, digits_number, number_digits, digits_one, digits_most}

-- ---- the sign of a magnitude

pub sign_kept : (m : Bool) (n : ℕ) → Signs m n → sign_of m n ≡ m
sign_kept true n h = go (eqb n 0) refl
  where
    go : (b : Bool) → eqb n 0 ≡ b → not b ≡ true
    go true e = absurd (h refl (eqb-true n 0 e))
    go false e = refl
sign_kept false n h = refl

sign_zero : (m : Bool) (n : ℕ) → n ≡ 0 → sign_of m n ≡ false
sign_zero true n e = ap not (eq-eqb n 0 e)
sign_zero false n e = refl

sign_signs : (m : Bool) (n : ℕ) → Signs (sign_of m n) n
sign_signs m n p e = false≢true (sym (sign_zero m n e) ∙ p)

sign_limit : (m : Bool) (n : ℕ) → n ≤ limit m → n ≤ limit (sign_of m n)
sign_limit true n h = go (eqb n 0) refl
  where
    go : (b : Bool) → eqb n 0 ≡ b → n ≤ limit (not b)
    go true e = omega (arith, eqb-true n 0 e)
    go false e = h
sign_limit false n h = h

-- no law below names the numbers, so they are said here
pub limits_are : (limit true ≡ 2147483648) × (limit false ≡ 2147483647)
limits_are = (refl, refl)

-- the lowest integer has the largest magnitude
pub limit_lowest : (m : Bool) → limit m ≤ lowest_integer
limit_lowest true = omega arith
limit_lowest false = omega arith

-- at most ten digits up to the limit of either sign
pub limit_ten : (m : Bool) (n : ℕ) → n ≤ limit m → length (digits_of n) ≤ most_digits
limit_ten m n h = digits_most 9 n (omega (arith, limit_lowest m))

signed_short : (m : Bool) (ds : List ℕ) → length ds ≤ most_digits → length (signed m ds) ≤ longest_term
signed_short true ds h = omega arith
signed_short false ds h = omega arith

signed_some : (m : Bool) (ds : List ℕ) → IsCons ds → IsCons (signed m ds)
signed_some true ds h = tt
signed_some false ds h = h

-- ---- plain text: it says the constant, is of the grammar, and has no needless byte

pub con_back : (c : Con) → ConOk c → con_of (raw_of_con c) ≡ c
con_back (int m n) h = ap (λ (v : ℕ). int (sign_of m v) v) (digits_value n) ∙ ap (λ (b : Bool). int b n) (sign_kept m n h)
con_back (str s) h = refl

pub con_proper : (c : Con) → ConOk c → ProperCon (raw_of_con c)
con_proper (int m n) h = number_digits (digits_of n) (digits_number n)
con_proper (str s) h = h

pub con_lean : (c : Con) → ConOk c → LeanCon (raw_of_con c)
con_lean (int m n) h = (digits_number n, λ p e. h p (sym (digits_value n) ∙ e))
con_lean (str s) h = tt

-- what has no needless byte is plain text
pub lean_con : (r : RawCon) → LeanCon r → raw_of_con (con_of r) ≡ r
lean_con (raw_int m ds) l = ap₂ raw_int (sign_kept m (value ds) l.1) (digits_one ds l.0)
lean_con (raw_str s) l = refl

-- ---- limits of the text and of the constant

pub con_in : (r : RawCon) → ProperCon r → (OverCon r → ⊥) → ConIn (con_of r)
con_in (raw_int m ds) p n = (sign_signs m (value ds), sign_limit m (value ds) (by_contra (value ds) (limit m) (λ h. n (inr h))))
con_in (raw_str s) p n = (p, omega arith)

pub in_ok : (c : Con) → ConIn c → ConOk c
in_ok (int m n) h = h.0
in_ok (str s) h = h.0

-- a constant of each kind is within them
pub some_in : (k : Basic) → ConIn (some_of k)
some_in (leaf integer) = (λ p. absurd (false≢true p), omega arith)
some_in (leaf string) = (tt, omega arith)
some_in atom = (λ p. absurd (false≢true p), omega arith)

pub in_not_over : (c : Con) → ConIn c → OverCon (raw_of_con c) → ⊥
in_not_over (int m n) h (inl k) = omega (arith, limit_ten m n h.1)
in_not_over (int m n) h (inr k) = omega (arith, h.1, digits_value n)
in_not_over (str s) h k = omega (arith, h.1)

-- ---- lengths

pub con_short : (c : Con) → ConIn c → length (spell_con (raw_of_con c)) ≤ longest_term
con_short (int m n) h = signed_short m (digits_of n) (limit_ten m n h.1)
con_short (str s) h = omega (arith, h.1, length-append s (34 ∷ []))

pub raw_con_short : (r : RawCon) → (OverCon r → ⊥) → length (spell_con r) ≤ longest_term
raw_con_short (raw_int m ds) n = signed_short m ds (by_contra (length ds) most_digits (λ h. n (inl h)))
raw_con_short (raw_str s) n = omega (arith, length-append s (34 ∷ []))

pub con_some : (r : RawCon) → ProperCon r → IsCons (spell_con r)
con_some (raw_int m ds) p = signed_some m ds p.0
con_some (raw_str s) p = tt

-- ---- equality

int_sign : {m n : Bool} {v w : ℕ} → int m v ≡ int n w → m ≡ n
int_sign e = cc

int_value : {m n : Bool} {v w : ℕ} → int m v ≡ int n w → v ≡ w
int_value e = cc

-- by sign and magnitude
pub equal_parts : (m n : Bool) (ds es : List ℕ)
    → (con_of (raw_int m ds) ≡ con_of (raw_int n es)) ↔ ((value ds ≡ value es) × ((value ds ≡ 0) ⊎ (m ≡ n)))
equal_parts m n ds es = (to, from)
  where
    one_sign : (value ds ≡ value es) → sign_of m (value ds) ≡ sign_of n (value es) → Dec (value ds ≡ 0) → (value ds ≡ 0) ⊎ (m ≡ n)
    one_sign e s (yes z) = inl z
    one_sign e s (no k) = inr (sym (sign_kept m (value ds) (λ p. k)) ∙ s ∙ sign_kept n (value es) (λ p z. k (e ∙ z)))

    to : con_of (raw_int m ds) ≡ con_of (raw_int n es) → (value ds ≡ value es) × ((value ds ≡ 0) ⊎ (m ≡ n))
    to h = (int_value h, one_sign (int_value h) (int_sign h) (ℕ_discrete (value ds) 0))

    from_sign : (value ds ≡ value es) → (value ds ≡ 0) ⊎ (m ≡ n) → sign_of m (value ds) ≡ sign_of n (value es)
    from_sign e (inl z) = sign_zero m (value ds) z ∙ sym (sign_zero n (value es) (sym e ∙ z))
    from_sign e (inr p) = ap₂ sign_of p e

    from : (value ds ≡ value es) × ((value ds ≡ 0) ⊎ (m ≡ n)) → con_of (raw_int m ds) ≡ con_of (raw_int n es)
    from h = ap₂ int (from_sign h.0 h.1) h.0

pos_once : {v w : ℕ} → pos v ≡ pos w → v ≡ w
pos_once e = cc

-- a value below zero is none from zero on
apart : (v w : ℕ) → neg_ℤ (pos v) ≡ pos w → (v ≡ w) × (v ≡ 0)
apart zero w e = (pos_once e, refl)
apart (suc v) w e = absurd (other e)
  where
    other : negsuc v ≡ pos w → ⊥
    other e = let o : ◌≡◌ {A = ℕ} 0 1 = cc in omega arith

amount_once : (m n : Bool) (v w : ℕ) → amount m v ≡ amount n w → (v ≡ w) × ((v ≡ 0) ⊎ (m ≡ n))
amount_once true true v w e = (pos_once (sym (neg_ℤ-neg_ℤ (pos v)) ∙ ap neg_ℤ e ∙ neg_ℤ-neg_ℤ (pos w)), inr refl)
amount_once true false v w e = let h = apart v w e in (h.0, inl h.1)
amount_once false true v w e = let h = apart w v (sym e) in (sym h.0, inl (sym h.0 ∙ h.1))
amount_once false false v w e = (pos_once e, inr refl)

amount_zero : (m n : Bool) → amount m 0 ≡ amount n 0
amount_zero true true = refl
amount_zero true false = refl
amount_zero false true = refl
amount_zero false false = refl

-- EQUAL INTEGERS: "Integers are equal when their values are equal", with a sign
pub equal_values : (m n : Bool) (ds es : List ℕ) → (con_of (raw_int m ds) ≡ con_of (raw_int n es)) ↔ (amount m (value ds) ≡ amount n (value es))
equal_values m n ds es = (λ h. from ((equal_parts m n ds es).0 h), λ e. (equal_parts m n ds es).1 (amount_once m n (value ds) (value es) e))
  where
    from : (value ds ≡ value es) × ((value ds ≡ 0) ⊎ (m ≡ n)) → amount m (value ds) ≡ amount n (value es)
    from (e, inl z) = ap (amount m) z ∙ amount_zero m n ∙ ap (amount n) (sym z ∙ e)
    from (e, inr p) = ap₂ amount p e

-- document 02: "`-0` equals `0`"
pub minus_zero : (ds : List ℕ) → value ds ≡ 0 → con_of (raw_int true ds) ≡ con_of (raw_int false ds)
minus_zero ds e = (equal_parts true false ds ds).1 (refl, inl e)

-- "and is written `0`"
pub minus_written : (ds : List ℕ) → value ds ≡ 0 → spell_con (raw_of_con (con_of (raw_int true ds))) ≡ 48 ∷ []
unfolding dec_lt
minus_written ds e = ap (λ (c : Con). spell_con (raw_of_con c)) (minus_zero ds e ∙ ap (λ (v : ℕ). int false v) e)
