-- The value of a written term, case by case as code makes it from its lexeme.
use mathlib.Core.Path.{◌≡◌, refl, sym, ◌∙◌, ap, ap₂}
use mathlib.Core.Bool.{true, false}
use mathlib.Core.List.{List, [], ◌∷◌}
use Prim.Native.Nat.{ℕ, zero, suc, ◌+◌, ◌<◌, ◌≤◌, min}
use native.Mathlib.Numerals.{add-one}
use native.Mathlib.Omega.{arith}
use native.Mathlib.Decide.{ℕ_discrete}
use lib.ListN.{length, get_or, take, drop, drop_of_length-le}
use lib.Seq.{drop-cons, take_all}
use Rattle.base_limits.specs.Limits.{longest_string}
use Rattle.text_grammar.specs.Bytes.{Begins, b_digit, b_minus, b_quote, b_letter, b_e, b_none, begins}
use Rattle.text_grammar.specs.Grammar.{Raw, raw_var, raw_empty, raw_con}
use Rattle.text_grammar.specs.constants.Constants.{raw_int}
use Rattle.text_grammar.specs.Walk.{leading_digits, quote1, until_quote, front_b, front}
use Rattle.text_values.specs.declared.constants.Constant.TheVariants as constant
use Rattle.text_values.specs.declared.Form.TheVariants as form
use Rattle.text_values.specs.canonical.Filled.{pad}
use Rattle.text_values.specs.Values.{blank_term}
use Rattle.text_scan.specs.declared.Lexeme.{Lexeme}
use Rattle.text_scan.specs.declared.Spelled.{Spelled}
use Rattle.text_scan.specs.declared.Literal.TheVariants.{Str}
use Rattle.text_scan.specs.declared.Spelled.TheVariants.{Con}
use Rattle.text_scan.specs.Lexemes.{lexeme_of}
use Rattle.text_scan.specs.terms.Terms.{term_from}

never : {A : Type 0} (n : ℕ) → ◌≡◌ {A = ℕ} 0 1 → A
never n z = absurd (omega arith)

what_of : (p : Lexeme) (r : Raw) (w : Spelled) → p ≡ lexeme_of r → p.what ≡ w → (lexeme_of r).what ≡ w
what_of p r w e h = ap (λ (x : Lexeme). x.what) (sym e) ∙ h

pub term_past : (t : List ℕ) (place : ℕ) → length t ≤ place → blank_term ≡ term_from (front (drop place t))
term_past t place h = ap (λ (l : List ℕ). term_from (front l)) (sym (drop_of_length-le t {i = place} h))

-- the bytes before a quote stand at the front
until_take : (z : List ℕ) (n : ℕ) → n ≤ length (until_quote z) → take n z ≡ take n (until_quote z)
until_take z zero h = refl
until_take [] (suc n) h = refl
until_take (b ∷ z) (suc n) h = go (ℕ_discrete b 34) h (until_take z n)
  where
    go : (d : Dec (b ≡ 34)) → suc n ≤ length (quote1 d b (until_quote z))
        → (n ≤ length (until_quote z) → take n z ≡ take n (until_quote z)) → b ∷ take n z ≡ take (suc n) (quote1 d b (until_quote z))
    go (yes e) k rec = absurd (omega arith)
    go (no e) k rec = ap (λ (l : List ℕ). b ∷ l) (rec (omega arith))

take_least : (s : List ℕ) (w : ℕ) → take (min (length s) w) s ≡ take w s
take_least s w = go (ℕ_discrete (min (length s) w) w)
  where
    go : Dec (min (length s) w ≡ w) → take (min (length s) w) s ≡ take w s
    go (yes e) = ap (λ (n : ℕ). take n s) e
    go (no n) = take_all (min (length s) w) s (omega arith) ∙ sym (take_all w s (omega arith))

string_is : (b : ℕ) (z : List ℕ) (c : Begins b) (p : Lexeme) (n : ℕ) (bytes : List ℕ) → p ≡ lexeme_of (front_b b z c)
    → p.what ≡ Con Str → n ≡ min p.size longest_string → bytes ≡ pad longest_string 0 (take n z)
    → record { form = form.Con (constant.Str n); text = bytes } ≡ term_from (front_b b z c)
string_is b z (b_digit h) p n bytes e w k q = let x = what_of p (raw_con (raw_int false (b ∷ leading_digits z))) (Con Str) e w in never 0 (cc)
string_is b z (b_minus h) p n bytes e w k q = let x = what_of p (raw_con (raw_int true (leading_digits z))) (Con Str) e w in never 0 (cc)
string_is b z (b_quote h) p n bytes e w k q =
    let s = until_quote z in
    let size : p.size ≡ length s = ap (λ (x : Lexeme). x.size) e in
    let m : n ≡ min (length s) longest_string = k ∙ ap (λ (i : ℕ). min i longest_string) size in
    ap₂ (λ (x : ℕ) (y : List ℕ). record { form = form.Con (constant.Str x); text = y }) m
    (q
    ∙ ap (λ (x : ℕ). pad longest_string 0 (take x z)) m
    ∙ ap (pad longest_string 0) (until_take z (min (length s) longest_string) (omega arith) ∙ take_least s longest_string))
string_is b z (b_letter j h) p n bytes e w k q = let x = what_of p (raw_var j (leading_digits z)) (Con Str) e w in never 0 (cc)
string_is b z (b_e h) p n bytes e w k q = let x = what_of p raw_empty (Con Str) e w in never 0 (cc)
string_is b z (b_none d m x l y) p n bytes e w k q = let x = what_of p raw_empty (Con Str) e w in never 0 (cc)

pub term_str : (t : List ℕ) (place : ℕ) (p : Lexeme) (n : ℕ) (bytes : List ℕ) → place < length t
    → p ≡ lexeme_of (front (drop place t)) → p.what ≡ Con Str → n ≡ min p.size longest_string
    → bytes ≡ pad longest_string 0 (take n (drop (place + 1) t)) → record { form = form.Con (constant.Str n); text = bytes } ≡ term_from (front (drop place t))
term_str t place p n bytes h e w k q = go (get_or t place 0) (drop place t) (drop-cons t place 0 h) e
  where
    go : (b : ℕ) (y : List ℕ) → y ≡ b ∷ drop (suc place) t → p ≡ lexeme_of (front y)
        → record { form = form.Con (constant.Str n); text = bytes } ≡ term_from (front y)
    go b y s e' =
        string_is b (drop (suc place) t) (begins b) p n bytes (e' ∙ ap (λ (l : List ℕ). lexeme_of (front l)) s) w k
        (q ∙ ap (λ (i : ℕ). pad longest_string 0 (take n (drop i t))) (add-one place))
        ∙ ap (λ (l : List ℕ). term_from (front l)) (sym s)
