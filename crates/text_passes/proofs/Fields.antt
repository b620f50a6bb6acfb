-- Of a text that is accepted, the number of its fields is that of what it says, and so is each of them.
use mathlib.Core.Path.{◌≡◌, refl, sym, ◌∙◌, ap, subst}
use mathlib.Core.Logic.{◌≢◌}
use mathlib.Core.Bool.{Bool, cond}
use mathlib.Core.List.{List, [], ◌∷◌, map, foldl, foldl-append}
use Prim.Native.Nat.{ℕ, zero, suc, ◌+◌, ◌<◌, ◌≤◌, min}
use native.Mathlib.Omega.{arith}
use native.Mathlib.Decide.{dec_lt}
use borrow.Author.Tests.{lt-ltb, le-ltb, eq-eqb, ne_eqb}
use lib.ListN.{length, get_or, length-map, get_or-eq_default}
use Rattle.base_limits.specs.Limits.{most_fields}
use Rattle.base_lists.specs.Seqs.{All}
use Rattle.text_grammar.specs.Grammar.{Raw, spell, spell_f, FieldOk, Says}
use Rattle.text_grammar.specs.Tokens.{tokens, tokens_f, tokens_t, Over, FifthField, TooMany, TokenOver}
use Rattle.text_grammar.specs.Terms.{OurFields, field_of, fields_of}
use Rattle.text_grammar.specs.Walk.{walked}
use Rattle.text_grammar.specs.Read.{fields, terms, limits, Sort, rule, slip, said, accepted, read_side, read_slip}
use Rattle.text_grammar.proofs.Walk.{walk_says}
use Rattle.text_grammar.proofs.Leftmost.{none_all}
use Rattle.text_grammar.proofs.Fields.{few_to, width_to, each}
use Rattle.text_grammar.proofs.Read.{read_accepted}
use Rattle.text_grammar.proofs.Accepted.{Base, in_grammar, said_is, clean_to}
use Rattle.text_values.specs.declared.Terms.{Terms}
use Rattle.text_values.specs.Values.{no_terms, blank_field, blank_slip_field, encode_to, encode_field, encode_slip_field}
use Rattle.text_passes.specs.Build.{add_raw}
use Rattle.text_passes.specs.Fields.{last_field, field_count, add_to, field_in, side_field, slip_field}
use Rattle.text_passes.proofs.Build.{adds_all, Fits}
use Rattle.text_passes.proofs.Passes.{is_short}

-- ---- how many

same_field : (rs : List Raw) (p n i : ℕ) → foldl last_field n (tokens_f p n i rs) ≡ n
same_field [] p n i = refl
same_field (r ∷ rs) p n i = same_field rs (suc (p + length (spell r))) n (suc i)

-- the fields behind n others
last_is : (x : List (List Raw)) (p n : ℕ) → All FieldOk x → foldl last_field n (tokens_t p (suc n) x) ≡ n + length x
last_is [] p n g = omega arith
last_is ([] ∷ fs) p n g = absurd g.0.0
last_is ((r ∷ rs) ∷ fs) p n g =
    let q = suc (p + length (spell_f (r ∷ rs))) in
    let e : suc n + length fs ≡ n + suc (length fs) = omega arith in
    foldl-append last_field n (tokens_f p (suc n) 1 (r ∷ rs)) (tokens_t q (suc (suc n)) fs)
    ∙ ap (λ (m : ℕ). foldl last_field m (tokens_t q (suc (suc n)) fs)) (same_field rs (suc (p + length (spell r))) (suc n) 2)
    ∙ last_is fs q (suc n) g.1
    ∙ e

-- ---- one of them, of up to w terms

module _ (w : ℕ) where
  -- the terms of field n change no other field, and are the terms of their own
  others : (j : ℕ) (rs : List Raw) (p n i : ℕ) (f : Terms w) → n ≢ j + 1 → foldl (add_to j) f (tokens_f p n i rs) ≡ f
  others j [] p n i f h = refl
  others j (r ∷ rs) p n i f h =
      let q = suc (p + length (spell r)) in
      ap (λ (c : Bool). foldl (add_to j) (cond c (add_raw f r) f) (tokens_f q n (suc i) rs)) (ne_eqb n (j + 1) h) ∙ others j rs q n (suc i) f h

  own : (j : ℕ) (rs : List Raw) (p n i : ℕ) (f : Terms w) → n ≡ j + 1 → foldl (add_to j) f (tokens_f p n i rs) ≡ foldl add_raw f rs
  own j [] p n i f h = refl
  own j (r ∷ rs) p n i f h =
      let q = suc (p + length (spell r)) in
      ap (λ (c : Bool). foldl (add_to j) (cond c (add_raw f r) f) (tokens_f q n (suc i) rs)) (eq-eqb n (j + 1) h) ∙ own j rs q n (suc i) (add_raw f r) h

  -- the fields behind field j
  later : (j : ℕ) (x : List (List Raw)) (p n : ℕ) (f : Terms w) → j + 1 < n → foldl (add_to j) f (tokens_t p n x) ≡ f
  later j [] p n f h = refl
  later j (g ∷ gs) p n f h =
      let q = suc (p + length (spell_f g)) in
      foldl-append (add_to j) f (tokens_f p n 1 g) (tokens_t q (suc n) gs)
      ∙ ap (λ (y : Terms w). foldl (add_to j) y (tokens_t q (suc n) gs)) (others j g p n 1 f (λ e. omega arith))
      ∙ later j gs q (suc n) f (omega arith)

  -- field k of those behind n others
  picked : (x : List (List Raw)) (p n k : ℕ) → All (λ rs. All (λ r. Over r → ⊥) rs × (length rs ≤ w)) x
      → foldl (add_to (n + k)) (no_terms w) (tokens_t p (suc n) x) ≡ get_or (map (encode_to w) (fields_of x)) k (no_terms w)
  picked [] p n k o = refl
  picked (f ∷ fs) p n zero o =
      let q = suc (p + length (spell_f f)) in
      let j = n + 0 in
      foldl-append (add_to j) (no_terms w) (tokens_f p (suc n) 1 f) (tokens_t q (suc (suc n)) fs)
      ∙ ap (λ (y : Terms w). foldl (add_to j) y (tokens_t q (suc (suc n)) fs)) (own j f p (suc n) 1 (no_terms w) (omega arith))
      ∙ later j fs q (suc (suc n)) (foldl add_raw (no_terms w) f) (omega arith)
      ∙ adds_all w f o.0.0 o.0.1
  picked (f ∷ fs) p n (suc k) o =
      let q = suc (p + length (spell_f f)) in
      let j = n + suc k in
      let e : n + suc k ≡ suc n + k = omega arith in
      foldl-append (add_to j) (no_terms w) (tokens_f p (suc n) 1 f) (tokens_t q (suc (suc n)) fs)
      ∙ ap (λ (y : Terms w). foldl (add_to j) y (tokens_t q (suc (suc n)) fs)) (others j f p (suc n) 1 (no_terms w) (λ i. omega arith))
      ∙ ap (λ (i : ℕ). foldl (add_to i) (no_terms w) (tokens_t q (suc (suc n)) fs)) e
      ∙ picked fs q (suc n) k o.1

  -- BOTH, of a text that says fields that fit
  abbrev Are : List ℕ → OurFields → Type 0
  Are t x = (field_count t ≡ length x) × ((j : ℕ) → field_in w t j ≡ get_or (map (encode_to w) x) j (no_terms w))

  fields_are : (t : List ℕ) (y : List (List Raw)) → length t ≤ slip.bytes → Says t y → Fits w y → Are t (fields_of y)
  fields_are t y short s fit = (count, λ j. field j (dec_lt j most_fields))
    where
      many : length (fields_of y) ≡ length y
      many = length-map y field_of

      count : field_count t ≡ length (fields_of y)
      count =
          let all : field_count t ≡ min (foldl last_field 0 (walked t)) most_fields = rw (is_short t short) in
          let zero_more : 0 + length y ≡ length (fields_of y) = omega (arith, many) in
          let last : foldl last_field 0 (walked t) ≡ length (fields_of y) = ap (foldl last_field 0) (walk_says t y s) ∙ last_is y 0 0 s.0.1 ∙ zero_more in
          let few : min (length (fields_of y)) most_fields ≡ length (fields_of y) = omega (arith, many, fit.1) in
          all ∙ ap (λ (n : ℕ). min n most_fields) last ∙ few

      field : (j : ℕ) → Dec (j < most_fields) → field_in w t j ≡ get_or (map (encode_to w) (fields_of y)) j (no_terms w)
      field j (yes h) =
          let all : field_in w t j ≡ foldl (add_to j) (no_terms w) (walked t) = rw (is_short t short, lt-ltb j most_fields h) in
          let zero_more : j ≡ 0 + j = omega arith in
          all ∙ ap (foldl (add_to j) (no_terms w)) (walk_says t y s) ∙ ap (λ (i : ℕ). foldl (add_to i) (no_terms w) (tokens y)) zero_more
          ∙ picked y 0 0 j fit.0
      field j (no h) =
          let none : field_in w t j ≡ no_terms w = rw (is_short t short, le-ltb j most_fields (omega arith)) in
          let behind : length (map (encode_to w) (fields_of y)) ≤ j = omega (arith, length-map (fields_of y) (encode_to w), many, fit.1) in
          none ∙ sym (get_or-eq_default (map (encode_to w) (fields_of y)) (no_terms w) {n = j} behind)

-- ---- a text that is refused for none of 1 to 5

pub fits : (S : Sort) (t : List ℕ) → Base S t → (x : List (List Raw)) → Says t x → Fits S.width x
fits S t h x s =
    let w = S.width in
    let a = clean_to w fields t x s h.2 in
    let b = clean_to w terms t x s h.3 in
    let c = clean_to w limits t x s h.4 in (
      both x ((each (λ r. Over r → ⊥) x 0 1).0 (none_all TokenOver (tokens x) [] c)) (width_to w x 0 1 (none_all (TooMany w) (tokens x) [] b)),
      omega (arith, few_to x 0 1 s.0.1 (omega arith) (none_all FifthField (tokens x) [] a)),
    )
  where
    both : (y : List (List Raw)) → All (All (λ r. Over r → ⊥)) y → All (λ rs. length rs ≤ S.width) y
        → All (λ rs. All (λ r. Over r → ⊥) rs × (length rs ≤ S.width)) y
    both [] p q = tt
    both (f ∷ y) p q = ((p.0, q.0), both y p.1 q.1)

module _ (S : Sort) (small : S.bytes ≤ slip.bytes) where
  base_are : (t : List ℕ) → Base S t → Are S.width t (fields_of (said t))
  base_are t base =
      let g = in_grammar t base.1 in
      subst (λ (y : List (List Raw)). Are S.width t (fields_of y)) (sym (said_is t g.0 g.1))
      (fields_are S.width t g.0 (short (dec_lt S.bytes (length t))) g.1 (fits S t base g.0 g.1))
    where
      short : Dec (S.bytes < length t) → length t ≤ slip.bytes
      short (yes h) = absurd (base.0 S.bytes (h, refl))
      short (no n) = omega arith

pub base_side : (t : List ℕ) → Base rule t
    → (field_count t ≡ length (fields_of (said t))) × ((j : ℕ) → side_field t j ≡ get_or (map encode_field (fields_of (said t))) j blank_field)
base_side = base_are rule (omega arith)

pub base_slip : (t : List ℕ) → Base slip t
    → (field_count t ≡ length (fields_of (said t))) × ((j : ℕ) → slip_field t j ≡ get_or (map encode_slip_field (fields_of (said t))) j blank_slip_field)
base_slip = base_are slip (omega arith)

-- ---- A TEXT THAT IS ACCEPTED

pub side_fields_lem : (t : List ℕ) (x : OurFields) → read_side t ≡ accepted x
    → (field_count t ≡ length x) × ((j : ℕ) → side_field t j ≡ get_or (map encode_field x) j blank_field)
side_fields_lem t x e =
    let a = (read_accepted rule t x).0 e in
    let n = a.0 in
    subst (λ (y : OurFields). (field_count t ≡ length y) × ((j : ℕ) → side_field t j ≡ get_or (map encode_field y) j blank_field)) a.1
    (base_side t (n.0, n.1.0, n.1.1.0, n.1.1.1.0, n.1.1.1.1.0))

pub slip_fields_lem : (t : List ℕ) (x : OurFields) → read_slip t ≡ accepted x
    → (field_count t ≡ length x) × ((j : ℕ) → slip_field t j ≡ get_or (map encode_slip_field x) j blank_slip_field)
slip_fields_lem t x e =
    let a = (read_accepted slip t x).0 e in
    let n = a.0 in
    subst (λ (y : OurFields). (field_count t ≡ length y) × ((j : ℕ) → slip_field t j ≡ get_or (map encode_slip_field y) j blank_slip_field)) a.1
    (base_slip t (n.0, n.1.0, n.1.1.0, n.1.1.1.0, n.1.1.1.1.0))
