-- Of a text without refusals, the terms put one by one into fields and the fields into the whole make the one value of what the text says.
use mathlib.Core.Path.{◌≡◌, refl, sym, ◌∙◌, ap, ap₂}
use mathlib.Core.Logic.{◌≢◌, inr}
use mathlib.Core.Bool.{Bool, true, false, ◌&&◌}
use mathlib.Core.List.{List, [], ◌∷◌, ◌++◌, map, foldl, append-nil, append_assoc, map-append}
use mathlib.Core.List.{foldl-append}
use Prim.Native.Nat.{ℕ, suc, ◌+◌, ◌-◌, ◌%◌, ◌<◌, ◌≤◌, min}
use native.Mathlib.Omega.{arith, by_contra}
use borrow.Author.Tests.{lt-ltb, ne_eqb}
use lib.Dec.{ltb}
use lib.ListN.{length, set, replicate, length-append, length-map}
use lib.Seq.{take_all}
use Rattle.base_limits.specs.Limits.{most_fields, longest_string, largest_number}
use Rattle.base_lists.specs.Seqs.{All}
use Rattle.math_types.specs.Values.{kind_from}
use Rattle.text_grammar.specs.Grammar.{Raw, raw_var, raw_empty, spell, spell_f, FieldOk, TextOk, raw_con}
use Rattle.text_grammar.specs.constants.Constants.{limit, sign_of, raw_int, raw_str}
use Rattle.text_grammar.specs.Numbers.{value}
use Rattle.text_grammar.specs.Tokens.{tokens, tokens_f, tokens_t, Over}
use Rattle.text_grammar.specs.Terms.{OurTerm, OurFields, term_of, field_of, fields_of}
use Rattle.text_grammar.specs.Read.{rule, slip}
use Rattle.text_grammar.proofs.Accepted.{term_short}
use Rattle.text_grammar.proofs.constants.Constants.{limit_lowest}
use Rattle.text_values.specs.declared.Term.{Term}
use Rattle.text_values.specs.declared.constants.Constant.TheVariants.{Int, Str}
use Rattle.text_values.specs.declared.Form.TheVariants.{Con, Var}
use Rattle.text_values.specs.declared.Terms.{Terms}
use Rattle.text_values.specs.declared.Fields.{Fields}
use Rattle.text_values.specs.canonical.Filled.{pad}
use Rattle.text_values.specs.Values.{blank_term, no_terms, no_fields, encode_term, encode_to, encode_all, encode_side, encode_slip}
use Rattle.text_values.proofs.Pads.{pad_set}
use Rattle.text_scan.specs.Lexemes.{capped}
use Rattle.text_scan.specs.terms.Terms.{term_from}
use Rattle.text_passes.specs.Build.{push_term, add_raw, push_field, turns, Building, turned, put, whole, built, built_side, built_slip}

-- one more in the place behind the used ones, of what a list of A is encoded as
module _ {A B : Type 0} (enc : A → B) (d : B) (w : ℕ) (s : List A) (a : A) (h : length s < w) where
  pub stored : set (pad w d (map enc s)) (length s) (enc a) ≡ pad w d (map enc (s ++ a ∷ []))
  stored =
      ap (λ (n : ℕ). set (pad w d (map enc s)) n (enc a)) (sym (length-map s enc))
      ∙ pad_set w d (map enc s) (enc a) (omega (arith, length-map s enc))
      ∙ ap (pad w d) (sym (map-append enc s (a ∷ [])))

  pub counted : length s + 1 ≡ length (s ++ a ∷ [])
  counted = omega (arith, length-append s (a ∷ []))

-- a written term within its limits becomes the one value of what it stands for
int_is : (m : Bool) (v : ℕ) → v ≤ limit m → capped v ≡ v
int_is m v h = omega (arith, limit_lowest m)

var_is : (v : ℕ) → v ≤ largest_number → capped v % 256 ≡ v
var_is v h = omega arith

-- fields of up to w terms
module _ (w : ℕ) where
  pub none_is : encode_to w [] ≡ no_terms w
  none_is = let e : w - 0 ≡ w = omega arith in ap (λ (k : ℕ). record { n = 0; terms = replicate k blank_term }) e

  -- a term stored behind the others
  one_more : (ts : List OurTerm) (u : OurTerm) (t : Term) → length ts < w → t ≡ encode_term u → push_term (encode_to w ts) t ≡ encode_to w (ts ++ u ∷ [])
  one_more ts u t h e =
      rw (lt-ltb (length ts) w h)
      (ap₂ (λ (n : ℕ) (l : List Term). record { n = n; terms = l }) (counted encode_term blank_term w ts u h)
      (ap (set (pad w blank_term (map encode_term ts)) (length ts)) e ∙ stored encode_term blank_term w ts u h))

  pub adds_one : (ts : List OurTerm) (r : Raw) → (Over r → ⊥) → length ts < w → add_raw (encode_to w ts) r ≡ encode_to w (ts ++ term_of r)
  adds_one ts (raw_con (raw_int m ds)) o h =
      one_more ts _ (term_from (raw_con (raw_int m ds))) h
      (ap (λ (n : ℕ). record { form = Con (Int (sign_of m n) n); text = replicate longest_string 0 })
      (int_is m (value ds) (by_contra (value ds) (limit m) (λ k. o (inr k)))))
  adds_one ts (raw_con (raw_str s)) o h =
      let l : length s ≤ longest_string = omega arith in
      let e : min (length s) longest_string ≡ length s = omega arith in
      one_more ts _ (term_from (raw_con (raw_str s))) h
      (ap₂ (λ (n : ℕ) (z : List ℕ). record { form = Con (Str n); text = pad longest_string 0 z }) e (take_all longest_string s l))
  adds_one ts (raw_var k ds) o h =
      one_more ts _ (term_from (raw_var k ds)) h
      (ap (λ (n : ℕ). record { form = Var (kind_from k) n; text = replicate longest_string 0 }) (var_is (value ds) (omega arith)))
  adds_one ts raw_empty o h = ap (encode_to w) (sym (append-nil ts))

  -- the terms of a field
  pub adds : (rs : List Raw) (ts : List OurTerm) → All (λ r. Over r → ⊥) rs → length ts + length rs ≤ w
      → foldl add_raw (encode_to w ts) rs ≡ encode_to w (ts ++ field_of rs)
  adds [] ts o h = ap (encode_to w) (sym (append-nil ts))
  adds (r ∷ rs) ts o h =
      ap (λ (f : Terms w). foldl add_raw f rs) (adds_one ts r o.0 (omega arith))
      ∙ adds rs (ts ++ term_of r) o.1 (omega (arith, length-append ts (term_of r), term_short r))
      ∙ ap (encode_to w) (append_assoc ts (term_of r) (field_of rs))

  pub adds_all : (rs : List Raw) → All (λ r. Over r → ⊥) rs → length rs ≤ w → foldl add_raw (no_terms w) rs ≡ encode_to w (field_of rs)
  adds_all rs o h = ap (λ (f : Terms w). foldl add_raw f rs) (sym none_is) ∙ adds rs [] o (omega arith)

  -- a field behind the others
  push_one : (fs : OurFields) (f : List OurTerm) → length fs < most_fields → push_field (encode_all w fs) (encode_to w f) ≡ encode_all w (fs ++ f ∷ [])
  push_one fs f h =
      rw (lt-ltb (length fs) most_fields h)
      (ap₂ (λ (n : ℕ) (l : List (Terms w)). record { n = n; fields = l }) (counted (encode_to w) (no_terms w) most_fields fs f h)
      (stored (encode_to w) (no_terms w) most_fields fs f h))

  abbrev Fine : List Raw → Type 0
  Fine rs = All (λ r. Over r → ⊥) rs × (length rs ≤ w)

  turns_not : (n i : ℕ) → i ≢ 1 → turns n i ≡ false
  turns_not n i h = rw (ne_eqb i 1 h) (go (ltb 1 n))
    where
      go : (b : Bool) → (b && false) ≡ false
      go true = refl
      go false = refl

  -- the further terms of a field
  more : (rs : List Raw) (p n i : ℕ) (b : Building w) → foldl (put w) b (tokens_f p n (suc (suc i)) rs) ≡ (b.0, foldl add_raw b.1 rs)
  more [] p n i b = refl
  more (r ∷ rs) p n i b =
      ap (λ (c : Bool). foldl (put w) ((turned w c b).0, add_raw (turned w c b).1 r)
      (tokens_f (suc (p + length (spell r))) n (suc (suc (suc i))) rs)) (turns_not n (suc (suc i)) (λ e. omega arith))
      ∙ more rs (suc (p + length (spell r))) n (suc i) (b.0, add_raw b.1 r)

  turns_yes : (n : ℕ) → turns (suc (suc n)) 1 ≡ true
  turns_yes n = ap (λ (c : Bool). c && true) (lt-ltb 1 (suc (suc n)) (omega arith))

  -- the fields behind the first, which is cur
  later : (x : List (List Raw)) (p n : ℕ) (done : OurFields) (cur : List OurTerm) → All FieldOk x → All Fine x → length done + length x < most_fields
      → whole w (foldl (put w) (encode_all w done, encode_to w cur) (tokens_t p (suc (suc n)) x)) ≡ encode_all w (done ++ cur ∷ fields_of x)
  later [] p n done cur g o h = push_one done cur (omega arith)
  later ([] ∷ fs) p n done cur g o h = absurd g.0.0
  later ((r ∷ rs) ∷ fs) p n done cur g o h =
      let q = suc (p + length (spell_f (r ∷ rs))) in
      let field = r ∷ rs in
      let b : Building w = (encode_all w done, encode_to w cur) in
      ap (whole w) (foldl-append (put w) b (tokens_f p (suc (suc n)) 1 field) (tokens_t q (suc (suc (suc n))) fs)
      ∙ ap (λ (b : Building w). foldl (put w) b (tokens_t q (suc (suc (suc n))) fs))
      (ap (λ (c : Bool). foldl (put w) ((turned w c b).0, add_raw (turned w c b).1 r) (tokens_f (suc (p + length (spell r))) (suc (suc n)) 2 rs)) (turns_yes n)
      ∙ more rs (suc (p + length (spell r))) (suc (suc n)) 0 (push_field b.0 b.1, add_raw (no_terms w) r)
      ∙ ap₂ (λ (a : Fields w) (c : Terms w). (a, c)) (push_one done cur (omega arith)) (adds_all field o.0.0 o.0.1)))
      ∙ later fs q (suc n) (done ++ cur ∷ []) (field_of field) g.1 o.1 (omega (arith, length-append done (cur ∷ [])))
      ∙ ap (encode_all w) (append_assoc done (cur ∷ []) (field_of field ∷ fields_of fs))

  -- THE WHOLE
  pub built_is : (x : List (List Raw)) → TextOk x → All Fine x → length x ≤ most_fields → built w (tokens x) ≡ encode_all w (fields_of x)
  built_is [] g o h = absurd g.0
  built_is ([] ∷ fs) g o h = absurd g.1.0.0
  built_is ((r ∷ rs) ∷ fs) g o h =
      let q = suc (0 + length (spell_f (r ∷ rs))) in
      let field = r ∷ rs in
      ap (whole w) (foldl-append (put w) (no_fields w, no_terms w) (tokens_f 0 1 1 field) (tokens_t q 2 fs)
      ∙ ap (λ (c : Building w). foldl (put w) c (tokens_t q 2 fs))
      (more rs (suc (0 + length (spell r))) 1 0 (no_fields w, add_raw (no_terms w) r)
      ∙ ap (λ (c : Terms w). (no_fields w, c)) (adds_all field o.0.0 o.0.1)))
      ∙ later fs q 0 [] (field_of field) g.1.1 o.1 (omega arith)

-- no term is over its limits, no field too wide, and there are not too many
abbrev pub Fits : ℕ → List (List Raw) → Type 0
Fits w x = All (λ rs. All (λ r. Over r → ⊥) rs × (length rs ≤ w)) x × (length x ≤ most_fields)

pub rule_built : (x : List (List Raw)) → TextOk x → Fits rule.width x → built_side (tokens x) ≡ encode_side (fields_of x)
rule_built x g f = built_is rule.width x g f.0 f.1

pub slip_built : (x : List (List Raw)) → TextOk x → Fits slip.width x → built_slip (tokens x) ≡ encode_slip (fields_of x)
slip_built x g f = built_is slip.width x g f.0 f.1
