-- Plain text says its rule, determines it, and is the only text of it without needless `empty` and leading zeros. No limits here.
use mathlib.Core.Path.{◌≡◌, refl, sym, ◌∙◌, ap, ap₂}
use mathlib.Core.Option.{Option, some, get_or}
use mathlib.Core.List.{List, [], ◌∷◌, ◌++◌, map}
use Prim.Native.Nat.{ℕ}
use Rattle.base_lists.specs.Seqs.{All}
use Rattle.math_terms.specs.Terms.{con, var}
use Rattle.text_grammar.specs.Grammar.{Raw, raw_var, raw_empty, Proper, FieldOk, spell_t, Says, raw_con}
use Rattle.text_grammar.specs.Machine.{parse}
use Rattle.text_grammar.specs.Terms.{OurTerm, OurFields, term_of, field_of, fields_of}
use Rattle.text_grammar.specs.Read.{said}
use Rattle.text_grammar.specs.Plain.{raw_of, raw_field, plain, TermOk, RuleOk}
use Rattle.text_grammar.specs.constants.Constants.{Con, RawCon, LeanCon}
use Rattle.text_grammar.proofs.Parse.{parse_complete}
use Rattle.text_grammar.proofs.Numbers.{digits_value, digits_number, digits_one}
use Rattle.text_grammar.proofs.constants.Constants.{con_back, con_proper, con_lean, lean_con}

proper_raw : (t : OurTerm) → TermOk t → Proper (raw_of t)
proper_raw (con c) h = con_proper c h
proper_raw (var k n) h = digits_number n

proper_all : (ts : List OurTerm) → All TermOk ts → All Proper (map raw_of ts)
proper_all [] h = tt
proper_all (t ∷ ts) h = (proper_raw t h.0, proper_all ts h.1)

field_ok_lem : (f : List OurTerm) → All TermOk f → FieldOk (raw_field f)
field_ok_lem [] h = (tt, (tt, tt))
field_ok_lem (t ∷ ts) h = (tt, proper_all (t ∷ ts) h)

fields_ok : (r : OurFields) → All (All TermOk) r → All FieldOk (map raw_field r)
fields_ok [] h = tt
fields_ok (f ∷ fs) h = (field_ok_lem f h.0, fields_ok fs h.1)

pub plain_says : (r : OurFields) → RuleOk r → Says (plain r) (map raw_field r)
plain_says [] h = absurd h.0
plain_says (f ∷ fs) h = ((tt, fields_ok (f ∷ fs) h.1), refl)

back_term : (t : OurTerm) → TermOk t → term_of (raw_of t) ≡ t ∷ []
back_term (con c) h = ap (λ (d : Con). con d ∷ []) (con_back c h)
back_term (var k n) h = ap (λ (m : ℕ). var k m ∷ []) (digits_value n)

back_terms : (ts : List OurTerm) → All TermOk ts → field_of (map raw_of ts) ≡ ts
back_terms [] h = refl
back_terms (t ∷ ts) h = ap₂ (λ (a b : List OurTerm). a ++ b) (back_term t h.0) (back_terms ts h.1)

back_field : (f : List OurTerm) → All TermOk f → field_of (raw_field f) ≡ f
back_field [] h = refl
back_field (t ∷ ts) h = back_terms (t ∷ ts) h

pub back : (r : OurFields) → All (All TermOk) r → fields_of (map raw_field r) ≡ r
back [] h = refl
back (f ∷ fs) h = ap₂ (λ (a : List OurTerm) (b : OurFields). a ∷ b) (back_field f h.0) (back fs h.1)

-- the plain text says the rule
pub plain_parse : (r : OurFields) → RuleOk r → parse (plain r) ≡ some (map raw_field r)
plain_parse r h = parse_complete (plain r) (map raw_field r) (plain_says r h)

pub plain_said : (r : OurFields) → RuleOk r → fields_of (said (plain r)) ≡ r
plain_said r h = ap (λ (a : Option (List (List Raw))). fields_of (get_or a [])) (plain_parse r h) ∙ back r h.1

-- THE PLAIN TEXT determines the rule
pub plain_one : (r s : OurFields) → RuleOk r → RuleOk s → plain r ≡ plain s → r ≡ s
plain_one r s p q e = sym (plain_said r p) ∙ ap (λ (t : List ℕ). fields_of (said t)) e ∙ plain_said s q

-- a text that has no `empty` beside other terms and no leading zeros is the plain text of what it says
abbrev pub Lean : Raw → Type 0
Lean (raw_con r) = LeanCon r
Lean (raw_var k ds) = Unit {0}
Lean raw_empty = ⊥

abbrev pub LeanField : List Raw → Type 0
LeanField [] = ⊥
LeanField (raw_empty ∷ []) = Unit {0}
LeanField (raw_empty ∷ (r ∷ rs)) = ⊥
LeanField (raw_con r ∷ rs) = LeanCon r × All Lean rs
LeanField (raw_var k ds ∷ rs) = All Lean rs

lean_term : (r : Raw) → Proper r → Lean r → map raw_of (term_of r) ≡ r ∷ []
lean_term (raw_con r) p l = ap (λ (s : RawCon). raw_con s ∷ []) (lean_con r l)
lean_term (raw_var k ds) p l = ap (λ (w : List ℕ). raw_var k w ∷ []) (digits_one ds p)
lean_term raw_empty p l = absurd l

map_raw_append : (s t : List OurTerm) → map raw_of (s ++ t) ≡ map raw_of s ++ map raw_of t
map_raw_append [] t = refl
map_raw_append (a ∷ s) t = ap (λ (l : List Raw). raw_of a ∷ l) (map_raw_append s t)

lean_terms : (rs : List Raw) → All Proper rs → All Lean rs → map raw_of (field_of rs) ≡ rs
lean_terms [] p l = refl
lean_terms (r ∷ rs) p l = map_raw_append (term_of r) (field_of rs) ∙ ap₂ (λ (a b : List Raw). a ++ b) (lean_term r p.0 l.0) (lean_terms rs p.1 l.1)

lean_field : (f : List Raw) → All Proper f → LeanField f → raw_field (field_of f) ≡ f
lean_field [] p l = absurd l
lean_field (raw_empty ∷ []) p l = refl
lean_field (raw_empty ∷ (r ∷ rs)) p l = absurd l
lean_field (raw_con r ∷ rs) p l = lean_terms (raw_con r ∷ rs) p l
lean_field (raw_var k ds ∷ rs) p l = lean_terms (raw_var k ds ∷ rs) p (tt, l)

lean_fields : (x : List (List Raw)) → All FieldOk x → All LeanField x → map raw_field (fields_of x) ≡ x
lean_fields [] p l = refl
lean_fields (f ∷ fs) p l = ap₂ (λ (a : List Raw) (b : List (List Raw)). a ∷ b) (lean_field f p.0.1 l.0) (lean_fields fs p.1 l.1)

pub lean_is_plain : (t : List ℕ) (x : List (List Raw)) → Says t x → All LeanField x → t ≡ plain (fields_of x)
lean_is_plain t x s l = s.1 ∙ ap spell_t (sym (lean_fields x s.0.1 l))

-- and the plain text is such a text
lean_raw : (t : OurTerm) → TermOk t → Lean (raw_of t)
lean_raw (con c) h = con_lean c h
lean_raw (var k n) h = tt

lean_raws : (ts : List OurTerm) → All TermOk ts → All Lean (map raw_of ts)
lean_raws [] h = tt
lean_raws (t ∷ ts) h = (lean_raw t h.0, lean_raws ts h.1)

pub plain_lean : (r : OurFields) → All (All TermOk) r → All LeanField (map raw_field r)
plain_lean [] h = tt
plain_lean (f ∷ fs) h = (one f h.0, plain_lean fs h.1)
  where
    one : (f : List OurTerm) → All TermOk f → LeanField (raw_field f)
    one [] h = tt
    one (con c ∷ ts) h = (con_lean c h.0, lean_raws ts h.1)
    one (var k n ∷ ts) h = lean_raws ts h.1
