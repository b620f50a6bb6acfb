-- What the tokens of a text say of its fields: their number, their widths, each term, the list variables.
use mathlib.Core.Path.{◌≡◌, refl, sym, ◌∙◌, ap, ap₂, subst}
use mathlib.Core.Logic.{◌↔◌}
use mathlib.Core.Option.{Option, none, some}
use mathlib.Core.List.{List, [], ◌∷◌, ◌++◌, append-nil, append_assoc}
use Prim.Native.Nat.{ℕ, suc, ◌+◌, ◌≤◌, ◌<◌}
use native.Mathlib.Omega.{arith, by_contra}
use lib.ListN.{length}
use Rattle.base_limits.specs.Limits.{most_fields}
use Rattle.base_lists.specs.Seqs.{All, Any, all_append, all_left, all_right}
use Rattle.math_types.specs.Order.{basic, list}
use Rattle.text_grammar.specs.Grammar.{Raw, raw_var, raw_empty, FieldOk, spell, spell_f, raw_con}
use Rattle.text_grammar.specs.Leftmost.{NoneOf}
use Rattle.text_grammar.specs.Tokens.{Token, tokens, tokens_f, tokens_t, FifthField, TooMany, list_no, Occ, occ, occs, Clash, ClashOf, NotLinear}
use Rattle.text_grammar.specs.Terms.{OurTerm, term_of, field_of, fields_of}
use Rattle.text_grammar.specs.Limits.{occ_t, occ_f, occ_r, Linear}

-- MARKS AND FIELDS
-- 3
pub few_to : (x : List (List Raw)) (p n : ℕ) → All FieldOk x → n ≤ 5 → All (λ m. FifthField m → ⊥) (tokens_t p n x) → n + length x ≤ 5
few_to [] p n g h a = omega arith
few_to ([] ∷ fs) p n g h a = absurd g.0.0
few_to ((r ∷ rs) ∷ fs) p n g h a =
    let here : n ≤ most_fields = by_contra n most_fields a.0 in
    let rest = few_to fs (suc (p + length (spell_f (r ∷ rs)))) (suc n) g.1 (omega arith)
    (all_right (λ m. FifthField m → ⊥) (tokens_f p n 1 (r ∷ rs)) (tokens_t (suc (p + length (spell_f (r ∷ rs)))) (suc n) fs) a) in
    omega arith

few_f : (rs : List Raw) (p n i : ℕ) → n < 5 → All (λ m. FifthField m → ⊥) (tokens_f p n i rs)
few_f [] p n i h = tt
few_f (r ∷ rs) p n i h = (λ k. omega arith, few_f rs (suc (p + length (spell r))) n (suc i) h)

pub few_from : (x : List (List Raw)) (p n : ℕ) → n + length x ≤ 5 → All (λ m. FifthField m → ⊥) (tokens_t p n x)
few_from [] p n h = tt
few_from (f ∷ fs) p n h =
    all_append (λ m. FifthField m → ⊥) (tokens_f p n 1 f) (tokens_t (suc (p + length (spell_f f))) (suc n) fs) (few_f f p n 1 (omega arith))
    (few_from fs (suc (p + length (spell_f f))) (suc n) (omega arith))

-- 4
width_f : (w : ℕ) (rs : List Raw) (p n i : ℕ) → i ≤ suc w → All (λ m. TooMany w m → ⊥) (tokens_f p n i rs) → i + length rs ≤ suc w
width_f w [] p n i h a = omega arith
width_f w (r ∷ rs) p n i h a =
    let here : i ≤ w = by_contra i w a.0 in
    let rest = width_f w rs (suc (p + length (spell r))) n (suc i) (omega arith) a.1 in
    omega arith

pub width_to : (w : ℕ) (x : List (List Raw)) (p n : ℕ) → All (λ m. TooMany w m → ⊥) (tokens_t p n x) → All (λ f. length f ≤ w) x
width_to w [] p n a = tt
width_to w (f ∷ fs) p n a =
    let h = width_f w f p n 1 (omega arith) (all_left (λ m. TooMany w m → ⊥) (tokens_f p n 1 f) (tokens_t (suc (p + length (spell_f f))) (suc n) fs) a) in (
      omega arith,
      width_to w fs (suc (p + length (spell_f f))) (suc n)
          (all_right (λ m. TooMany w m → ⊥) (tokens_f p n 1 f) (tokens_t (suc (p + length (spell_f f))) (suc n) fs) a),
    )

width_back : (w : ℕ) (rs : List Raw) (p n i : ℕ) → i + length rs ≤ suc w → All (λ m. TooMany w m → ⊥) (tokens_f p n i rs)
width_back w [] p n i h = tt
width_back w (r ∷ rs) p n i h = (λ k. omega arith, width_back w rs (suc (p + length (spell r))) n (suc i) (omega arith))

pub width_from : (w : ℕ) (x : List (List Raw)) (p n : ℕ) → All (λ f. length f ≤ w) x → All (λ m. TooMany w m → ⊥) (tokens_t p n x)
width_from w [] p n a = tt
width_from w (f ∷ fs) p n a =
    all_append (λ m. TooMany w m → ⊥) (tokens_f p n 1 f) (tokens_t (suc (p + length (spell_f f))) (suc n) fs) (width_back w f p n 1 (omega (arith, a.0)))
    (width_from w fs (suc (p + length (spell_f f))) (suc n) a.1)

-- 5 and 7: a property of the term alone
module _ (Q : Raw → Type 0) where
  each_f : (rs : List Raw) (p n i : ℕ) → All (λ m. Q m.raw) (tokens_f p n i rs) ↔ All Q rs
  each_f [] p n i = (λ h. tt, λ h. tt)
  each_f (r ∷ rs) p n i = let e = each_f rs (suc (p + length (spell r))) n (suc i) in (λ h. (h.0, e.0 h.1), λ h. (h.0, e.1 h.1))

  pub each : (x : List (List Raw)) (p n : ℕ) → All (λ m. Q m.raw) (tokens_t p n x) ↔ All (All Q) x
  each [] p n = (λ h. tt, λ h. tt)
  each (f ∷ fs) p n =
      let q = suc (p + length (spell_f f)) in
      let e = each fs q (suc n) in (
        λ h. (
          (each_f f p n 1).0 (all_left (λ m. Q m.raw) (tokens_f p n 1 f) (tokens_t q (suc n) fs) h),
          e.0 (all_right (λ m. Q m.raw) (tokens_f p n 1 f) (tokens_t q (suc n) fs) h),
        ),
        λ h. all_append (λ m. Q m.raw) (tokens_f p n 1 f) (tokens_t q (suc n) fs) ((each_f f p n 1).1 h.0) (e.1 h.1),
      )

-- 6
pub occs_append : (ms ns : List Token) → occs (ms ++ ns) ≡ occs ms ++ occs ns
occs_append [] ns = refl
occs_append (m ∷ ms) ns =
    ap (λ (l : List Occ). occ m.in_field (list_no m.raw) ++ l) (occs_append ms ns)
    ∙ sym (append_assoc (occ m.in_field (list_no m.raw)) (occs ms) (occs ns))

occ_f_append : (n : ℕ) (s t : List OurTerm) → occ_f n (s ++ t) ≡ occ_f n s ++ occ_f n t
occ_f_append n [] t = refl
occ_f_append n (a ∷ s) t = ap (λ (l : List Occ). occ_t n a ++ l) (occ_f_append n s t) ∙ sym (append_assoc (occ_t n a) (occ_f n s) (occ_f n t))

occ_term : (n : ℕ) (r : Raw) → occ n (list_no r) ≡ occ_f n (term_of r)
occ_term n (raw_con r) = refl
occ_term n (raw_var (basic k) ds) = refl
occ_term n (raw_var list ds) = refl
occ_term n raw_empty = refl

occ_field : (rs : List Raw) (p n i : ℕ) → occs (tokens_f p n i rs) ≡ occ_f n (field_of rs)
occ_field [] p n i = refl
occ_field (r ∷ rs) p n i =
    ap₂ (λ (a b : List Occ). a ++ b) (occ_term n r) (occ_field rs (suc (p + length (spell r))) n (suc i)) ∙ sym (occ_f_append n (term_of r) (field_of rs))

occ_text : (x : List (List Raw)) (p n : ℕ) → occs (tokens_t p n x) ≡ occ_r n (fields_of x)
occ_text [] p n = refl
occ_text (f ∷ fs) p n =
    occs_append (tokens_f p n 1 f) (tokens_t (suc (p + length (spell_f f))) (suc n) fs)
    ∙ ap₂ (λ (a b : List Occ). a ++ b) (occ_field f p n 1) (occ_text fs (suc (p + length (spell_f f))) (suc n))

abbrev Apart : List Occ → List Occ → Type 0
Apart before os = NoneOf (λ b o. Any (Clash o) b) before os

lin : (ms before : List Token) → NoneOf NotLinear before ms ↔ Apart (occs before) (occs ms)
lin [] before = (λ h. tt, λ h. tt)
lin (m ∷ ms) before =
    go (list_no m.raw) (subst (λ (b : List Occ). NoneOf NotLinear (before ++ m ∷ []) ms ↔ Apart b (occs ms)) next (lin ms (before ++ m ∷ [])))
  where
    next : occs (before ++ m ∷ []) ≡ occs before ++ occ m.in_field (list_no m.raw)
    next = occs_append before (m ∷ []) ∙ ap (λ (l : List Occ). occs before ++ l) (append-nil (occ m.in_field (list_no m.raw)))

    go : (o : Option ℕ) → (NoneOf NotLinear (before ++ m ∷ []) ms ↔ Apart (occs before ++ occ m.in_field o) (occs ms))
        → ((ClashOf (occs before) m.in_field o → ⊥) × NoneOf NotLinear (before ++ m ∷ []) ms) ↔ Apart (occs before) (occ m.in_field o ++ occs ms)
    go none r = (
      λ h. subst (λ (b : List Occ). Apart b (occs ms)) (append-nil (occs before)) (r.0 h.1),
      λ h. (λ z. z, r.1 (subst (λ (b : List Occ). Apart b (occs ms)) (sym (append-nil (occs before))) h)),
    )
    go (some v) r = (λ h. (h.0, r.0 h.1), λ h. (h.0, r.1 h.1))

pub linear_tokens : (x : List (List Raw)) → NoneOf NotLinear [] (tokens x) ↔ Linear (fields_of x)
linear_tokens x = subst (λ (l : List Occ). NoneOf NotLinear [] (tokens x) ↔ Apart [] l) (occ_text x 0 1) (lin (tokens x) [])
