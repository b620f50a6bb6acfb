-- Laws of a term's text, by the form of the value. Assumes nothing.
use mathlib.Core.Path.{◌≡◌, refl, sym, ap, ◌∙◌}
use mathlib.Core.Bool.{Bool, true, false}
use mathlib.Core.List.{List, [], ◌∷◌, ◌++◌}
use Prim.Native.Nat.{ℕ, ◌+◌, min}
use native.Mathlib.Omega.{arith}
use lib.ListN.{length, take, set, length-append, length-take}
use lib.Seq.{sets}
use Rattle.base_limits.specs.Limits.{longest_string}
use Rattle.math_types.specs.declared.Kind.{Kind}
use Rattle.math_types.specs.Values.{kind_of}
use Rattle.math_terms.specs.Terms.{con}
use Rattle.text_grammar.specs.Letters.{letter}
use Rattle.text_grammar.specs.constants.Constants.{signed, sign_size, raw_str, spell_con}
use Rattle.text_grammar.specs.Numbers.{digits_of}
use Rattle.text_grammar.specs.Plain.{term_text}
use Rattle.text_values.specs.declared.constants.Constant.{Constant}
use Rattle.text_values.specs.declared.constants.Constant.TheVariants.{Int, Str}
use Rattle.text_values.specs.declared.Form.{Form}
use Rattle.text_values.specs.declared.Form.TheVariants.{Con, Var}
use Rattle.text_values.specs.constants.Constants.{view_constant}
use Rattle.text_values.specs.Values.{view_form}
use Rattle.text_write.specs.Room.{Put}
use Rattle.text_write.proofs.Arrays.{take_most}
use Rattle.text_write.proofs.Stores.{put_behind, put_cons, put_as}

module _ (k : ℕ) (s : List ℕ) (long : length s ≡ longest_string) where
  pub quoted_length : length (spell_con (raw_str (take k s))) ≡ min k longest_string + 2
  quoted_length = omega (arith, length-append (take k s) (34 ∷ []), length-take k s)

  -- a quote, the bytes, a quote
  pub put_quoted : (n : ℕ) (l : List ℕ) (at : ℕ) {p : ℕ} {m : List ℕ} → n ≡ min k longest_string
      → p ≡ at + 1 + length (take n s) → m ≡ sets (set l at 34) (at + 1) (take n s)
      → Put (spell_con (raw_str (take k s))) at l (p + 1) (set m p 34)
  put_quoted n l at h hp hm =
      let b = put_behind (take n s) (34 ∷ []) (set l at 34) (at + 1) hp hm refl refl in (
        omega (arith, quoted_length, length-take n s),
        b.1 ∙ put_cons 34 (take n s ++ 34 ∷ []) l at ∙ ap (λ (t : List ℕ). sets l at (spell_con (raw_str t))) (sym (take_most k n longest_string s long h)),
      )

pub signed_length : (m : Bool) (ds : List ℕ) → length (signed m ds) ≡ sign_size m + length ds
signed_length true ds = omega arith
signed_length false ds = omega arith

-- a minus, then the digits
pub put_minus : (m : Bool) (ds l : List ℕ) (at : ℕ) {r : ℕ} {k : List ℕ} → m ≡ true → r ≡ at + 1 + length ds → k ≡ sets (set l at 45) (at + 1) ds
    → Put (signed m ds) at l r k
put_minus m ds l at e hr hk = put_as l at (ap (λ (b : Bool). signed b ds) e) (omega arith, hk ∙ put_cons 45 ds l at)

module _ (c : Constant) (s : List ℕ) where
  pub int_text : (m : Bool) (n : ℕ) → c ≡ Int m n → term_text (con (view_constant c s)) ≡ signed m (digits_of n)
  int_text m n e = rw e

  pub str_text : (k : ℕ) → c ≡ Str k → term_text (con (view_constant c s)) ≡ spell_con (raw_str (take k s))
  str_text k e = rw e

module _ (f : Form) (s : List ℕ) where
  pub con_text : (c : Constant) → f ≡ Con c → term_text (view_form f s) ≡ term_text (con (view_constant c s))
  con_text c e = rw e

  pub var_text : (k : Kind) (n : ℕ) → f ≡ Var k n → term_text (view_form f s) ≡ letter (kind_of k) ∷ digits_of n
  var_text k n e = rw e

  pub put_var : (k : Kind) (n : ℕ) (l : List ℕ) (at : ℕ) {b r : ℕ} {m : List ℕ} → f ≡ Var k n → b ≡ letter (kind_of k) → r ≡ at + 1 + length (digits_of n)
      → m ≡ sets (set l at b) (at + 1) (digits_of n) → Put (term_text (view_form f s)) at l r m
  put_var k n l at e hb hr hm =
      put_as l at (var_text k n e)
      (omega arith, hm ∙ ap (λ (x : ℕ). sets (set l at x) (at + 1) (digits_of n)) hb ∙ put_cons (letter (kind_of k)) (digits_of n) l at)
