-- THE LAWS of a constant as a value, each of any constant: a constant that passes the test is the one value of a constant within its limits;
-- the tests of equality and of type are those of the constants that the values stand for.
use mathlib.Core.Path.{◌≡◌, refl, sym, ◌∙◌, ap, ap₂, subst}
use mathlib.Core.Logic.{◌↔◌}
use mathlib.Core.Bool.{Bool, true, false, ◌&&◌, not, false≢true}
use mathlib.Core.List.{List, [], ◌∷◌}
use Prim.Native.Nat.{ℕ, ◌-◌, ◌≤◌}
use native.Mathlib.Omega.{arith}
use borrow.Author.Tests.{leb-true, le-leb, eqb-true, eq-eqb}
use lib.Dec.{eqb, leb}
use lib.ListN.{length, take, replicate}
use lib.Seq.{take_at}
use Rattle.base_limits.specs.Limits.{longest_string}
use Rattle.base_lists.specs.Truths.{both_is, not_is}
use Rattle.math_types.specs.Order.{basic}
use Rattle.math_terms.specs.Terms.{con}
use Rattle.text_grammar.specs.constants.Constants.{Con, int, str, limit, Signs, con_kind}
use Rattle.text_grammar.specs.Limits.{TermIn}
use Rattle.text_values.specs.declared.constants.Constant.{Constant}
use Rattle.text_values.specs.declared.constants.Constant.TheVariants.{Int, Str}
use Rattle.text_values.specs.canonical.Filled.{pad}
use Rattle.text_values.specs.constants.Constants.{view_constant, encode_constant, blank_constant, constant_kind, same_bytes, same_constant}
use Rattle.text_values.specs.constants.Constants.{same_sign, integer_ok, text_ok, constant_ok, constant_blank}
use Rattle.text_values.proofs.constants.Texts.{text_count, text_few, text_in, text_pad, text_good}

-- ---- integers

integer_in : (m : Bool) (n : ℕ) → (integer_ok m n ≡ true) ↔ (Signs m n × (n ≤ limit m))
integer_in m n = (to, from)
  where
    to : integer_ok m n ≡ true → Signs m n × (n ≤ limit m)
    to h =
        let p = (both_is (leb n (limit m)) (not (m && eqb n 0))).0 h in
        (λ s z. (not_is (m && eqb n 0)).0 p.1 ((both_is m (eqb n 0)).1 (s, eq-eqb n 0 z)), leb-true n (limit m) p.0)

    from : Signs m n × (n ≤ limit m) → integer_ok m n ≡ true
    from h =
        (both_is (leb n (limit m)) (not (m && eqb n 0))).1 (
          le-leb n (limit m) h.1,
          (not_is (m && eqb n 0)).1 (λ e. let p = (both_is m (eqb n 0)).0 e in h.0 p.0 (eqb-true n 0 p.1)),
        )

sign_self : (x : Bool) → same_sign x x ≡ true
sign_self true = refl
sign_self false = refl

sign_only : (x y : Bool) → same_sign x y ≡ true → x ≡ y
sign_only true y e = sym e
sign_only false true e = absurd (false≢true e)
sign_only false false e = refl

-- ---- the one value of a constant within its limits

pub constant_in : (c : Constant) (s : List ℕ) → constant_ok c s ≡ true → TermIn (con (view_constant c s))
constant_in (Int m n) s h = (integer_in m n).0 ((both_is (integer_ok m n) (text_ok 0 s)).0 h).0
constant_in (Str k) s h = (text_in k s h, omega (arith, text_count k s h, text_few k s h))

pub encode_constant_lem : (c : Constant) (s : List ℕ) → constant_ok c s ≡ true → encode_constant (view_constant c s) ≡ (c, s)
encode_constant_lem (Int m n) s h = ap (λ (l : List ℕ). (Int m n, l)) (text_pad 0 s ((both_is (integer_ok m n) (text_ok 0 s)).0 h).1)
encode_constant_lem (Str k) s h = ap₂ (λ (j : ℕ) (l : List ℕ). (Str j, l)) (text_count k s h) (text_pad k s h)

pub encode_constant_ok : (c : Con) → TermIn (con c) → constant_ok (encode_constant c).0 (encode_constant c).1 ≡ true
encode_constant_ok (int m n) h = (both_is (integer_ok m n) (text_ok 0 (replicate longest_string 0))).1 ((integer_in m n).1 h, refl)
encode_constant_ok (str s) h = text_good s h.0 h.1

pub view_encode_constant : (c : Con) → view_constant (encode_constant c).0 (encode_constant c).1 ≡ c
view_encode_constant (int m n) = refl
view_encode_constant (str s) = ap str (take_at s (replicate (longest_string - length s) 0) (length s) refl)

abbrev blank : Constant × List ℕ
blank = (blank_constant, replicate longest_string 0)

pub blank_constant_lem : (c : Constant) (s : List ℕ) → (constant_blank c s ≡ true) ↔ ((c, s) ≡ blank)
blank_constant_lem c s = (to c, λ e. ap (λ (x : Constant × List ℕ). constant_blank x.0 x.1) e)
  where
    to : (c : Constant) → constant_blank c s ≡ true → (c, s) ≡ blank
    to (Int true n) h = absurd (false≢true h)
    to (Int false n) h =
        let p = (both_is (eqb n 0) (text_ok 0 s)).0 h in
        ap₂ (λ (j : ℕ) (l : List ℕ). (Int false j, l)) (eqb-true n 0 p.0) (sym (text_pad 0 s p.1))
    to (Str k) h = absurd (false≢true h)

-- ---- equality and type

same_bytes_lem : (s : List ℕ) → same_bytes s s ≡ true
same_bytes_lem [] = refl
same_bytes_lem (x ∷ s) = (both_is (eqb x x) (same_bytes s s)).1 (eq-eqb x x refl, same_bytes_lem s)

bytes_same : (s t : List ℕ) → same_bytes s t ≡ true → s ≡ t
bytes_same [] [] e = refl
bytes_same [] (y ∷ t) e = absurd (false≢true e)
bytes_same (x ∷ s) [] e = absurd (false≢true e)
bytes_same (x ∷ s) (y ∷ t) e =
    let p = (both_is (eqb x y) (same_bytes s t)).0 e in
    ap₂ (λ (a : ℕ) (l : List ℕ). a ∷ l) (eqb-true x y p.0) (bytes_same s t p.1)

pad_once : (s t : List ℕ) → length s ≡ length t → pad longest_string 0 s ≡ pad longest_string 0 t → s ≡ t
pad_once s t l e =
    sym (take_at s (replicate (longest_string - length s) 0) (length s) refl)
    ∙ ap (take (length s)) e
    ∙ take_at t (replicate (longest_string - length t) 0) (length s) (sym l)

abbrev pub same_value : Con → Con → Bool
same_value c d = same_constant (encode_constant c).0 (encode_constant d).0 (encode_constant c).1 (encode_constant d).1

same_self : (c : Con) → same_value c c ≡ true
same_self (int m n) = (both_is (eqb n n) (same_sign m m)).1 (eq-eqb n n refl, sign_self m)
same_self (str s) =
    let p = pad longest_string 0 s in
    (both_is (eqb (length s) (length s)) (same_bytes p p)).1 (eq-eqb (length s) (length s) refl, same_bytes_lem p)

same_only : (c d : Con) → same_value c d ≡ true → c ≡ d
same_only (int x m) (int y n) h =
    let p = (both_is (eqb m n) (same_sign x y)).0 h in
    ap₂ int (sign_only x y p.1) (eqb-true m n p.0)
same_only (int x m) (str t) h = absurd (false≢true h)
same_only (str s) (int y n) h = absurd (false≢true h)
same_only (str s) (str t) h =
    let p = (both_is (eqb (length s) (length t)) (same_bytes (pad longest_string 0 s) (pad longest_string 0 t))).0 h in
    ap str (pad_once s t (eqb-true (length s) (length t) p.0) (bytes_same (pad longest_string 0 s) (pad longest_string 0 t) p.1))

-- a constant's value is the same as itself only
pub same_constant_is : (c d : Con) → (same_value c d ≡ true) ↔ (c ≡ d)
same_constant_is c d = (same_only c d, λ e. subst (λ (x : Con). same_value c x ≡ true) e (same_self c))

pub constant_kind_lem : (c : Constant) (s : List ℕ) → constant_kind c ≡ basic (con_kind (view_constant c s))
constant_kind_lem (Int m n) s = refl
constant_kind_lem (Str k) s = refl
