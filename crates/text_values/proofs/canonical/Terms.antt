-- A term that passes the test is the one value of a term within its limits, and so is one of a slip, which is no variable.
use mathlib.Core.Path.{◌≡◌, refl, ap, ap₂}
use mathlib.Core.Logic.{◌↔◌}
use mathlib.Core.Bool.{true, false≢true}
use mathlib.Core.List.{List}
use Prim.Native.Nat.{ℕ}
use borrow.Author.Tests.{leb-true, le-leb}
use lib.Dec.{leb}
use lib.ListN.{replicate}
use Rattle.base_limits.specs.Limits.{longest_string, largest_number}
use Rattle.base_lists.specs.Truths.{both_is}
use Rattle.math_types.specs.Values.{kind_of_from, kind_from_of}
use Rattle.math_terms.specs.Terms.{con, var}
use Rattle.text_grammar.specs.Terms.{OurTerm}
use Rattle.text_grammar.specs.Limits.{TermIn, IsCon}
use Rattle.text_values.specs.declared.constants.Constant.{Constant}
use Rattle.text_values.specs.declared.Form.{Form}
use Rattle.text_values.specs.declared.Form.TheVariants.{Con, Var}
use Rattle.text_values.specs.declared.Term.{Term}
use Rattle.text_values.specs.Values.{view_form, view_term, blank_term, encode_term}
use Rattle.text_values.specs.constants.Constants.{text_ok}
use Rattle.text_values.specs.canonical.Terms.{form_ok, term_ok, form_blank, term_blank, is_constant, item_ok}
use Rattle.text_values.proofs.constants.Texts.{text_pad}
use Rattle.text_values.proofs.constants.Constants.{constant_in, encode_constant_lem, encode_constant_ok, view_encode_constant, blank_constant_lem}
use Rattle.text_values.proofs.canonical.Arrays.{Stands}

abbrev made : Form → List ℕ → Term
made f s = record { form = f; text = s }

-- a constant, and its bytes
abbrev whole : Constant × List ℕ → Term
whole x = made (Con x.0) x.1

form_in : (f : Form) (s : List ℕ) → form_ok f s ≡ true → TermIn (view_form f s)
form_in (Con c) s h = constant_in c s h
form_in (Var k n) s h = leb-true n largest_number ((both_is (leb n largest_number) (text_ok 0 s)).0 h).0

encode_form : (f : Form) (s : List ℕ) → form_ok f s ≡ true → encode_term (view_form f s) ≡ made f s
encode_form (Con c) s h = ap whole (encode_constant_lem c s h)
encode_form (Var k n) s h = ap₂ (λ (j : _) (l : List ℕ). made (Var j n) l) (kind_from_of k) (text_pad 0 s ((both_is (leb n largest_number) (text_ok 0 s)).0 h).1)

encode_term_ok : (t : OurTerm) → TermIn t → term_ok (encode_term t) ≡ true
encode_term_ok (con c) h = encode_constant_ok c h
encode_term_ok (var k n) h = (both_is (leb n largest_number) (text_ok 0 (replicate longest_string 0))).1 (le-leb n largest_number h, refl)

pub view_encode_term : (t : OurTerm) → TermIn t → view_term (encode_term t) ≡ t
view_encode_term (con c) h = ap con (view_encode_constant c)
view_encode_term (var k n) h = ap (λ (j : _). var j n) (kind_of_from k)

blank_form : (f : Form) (s : List ℕ) → form_blank f s ≡ true → made f s ≡ blank_term
blank_form (Con c) s h = ap whole ((blank_constant_lem c s).0 h)
blank_form (Var k n) s h = absurd (false≢true h)

blank_term_lem : (t : Term) → (term_blank t ≡ true) ↔ (t ≡ blank_term)
blank_term_lem t = (λ h. blank_form t.form t.text h, λ e. ap term_blank e)

pub term_stands : Stands view_term encode_term term_ok term_blank blank_term TermIn
term_stands =
    record {
      view_in = λ t h. form_in t.form t.text h;
      encode_view = λ t h. encode_form t.form t.text h;
      encode_good = encode_term_ok;
      view_encode = view_encode_term;
      blank_is = blank_term_lem;
    }

-- a term of a slip
abbrev pub ItemIn : OurTerm → Type 0
ItemIn t = TermIn t × IsCon t

constant_is : (f : Form) (s : List ℕ) → is_constant f ≡ true → IsCon (view_form f s)
constant_is (Con c) s h = tt
constant_is (Var k n) s h = absurd (false≢true h)

is_constant_lem : (t : OurTerm) → IsCon t → is_constant (encode_term t).form ≡ true
is_constant_lem (con c) h = refl
is_constant_lem (var k n) h = absurd h

pub item_stands : Stands view_term encode_term item_ok term_blank blank_term ItemIn
item_stands =
    record {
      view_in = λ t h. let p = item t h in (form_in t.form t.text p.1, constant_is t.form t.text p.0);
      encode_view = λ t h. encode_form t.form t.text (item t h).1;
      encode_good = λ t h. (both_is (is_constant (encode_term t).form) (term_ok (encode_term t))).1 (is_constant_lem t h.1, encode_term_ok t h.0);
      view_encode = λ t h. view_encode_term t h.0;
      blank_is = blank_term_lem;
    }
  where
    item : (t : Term) → item_ok t ≡ true → (is_constant t.form ≡ true) × (term_ok t ≡ true)
    item t h = (both_is (is_constant t.form) (term_ok t)).0 h
