-- On the values of the search's terms and fields the operations on lists of codes are the search's. Assumes nothing.
use mathlib.Core.Path.{◌≡◌, refl, sym, ap, ap₂, ◌∙◌}
use mathlib.Core.Logic.{ite}
use mathlib.Core.Bool.{true, ◌||◌, false≢true}
use mathlib.Core.Option.{Option}
use mathlib.Core.List.{List, [], ◌∷◌, ◌++◌, map-append}
use Prim.Native.Nat.{ℕ, ◌≤◌}
use native.Mathlib.Omega.{arith}
use lib.Dec.{eqb}
use lib.ListN.{length, get_or, drop, length-map}
use borrow.Author.Tests.{eq-eqb, eqb-true}
use Rattle.base_limits.specs.Limits.{pair_places}
use Rattle.base_lists.specs.Seqs.{All}
use Rattle.base_lists.specs.Truths.{both_is, false_is, decided}
use Rattle.math_terms.specs.Seqs.{concat_map}
use Rattle.math_search.specs.Problems.{Tm, Field, tm_eq, field_eq, put, put_in}
use Rattle.math_search.specs.Rules.{occurs}
use Rattle.math_codes.specs.Lines.{OurAtom}
use Rattle.search_spec.specs.Answers.{setting}
use Rattle.search_items.specs.codes.Codes.{code_tm, codes_of, On}
use Rattle.search_items.proofs.codes.Codes.{cond_decided, code_tm_once, code_same}
use Rattle.search_items.specs.Items.{items_of, collect, most_codes}
use Rattle.search_items.specs.Substitution.{put_code, same_codes, occurs_in}
use Rattle.search_items.specs.Values.{items_value}
use Rattle.search_items.proofs.Collected.{items_collect}

codes_same : (s : List ℕ) → same_codes s s ≡ true
codes_same [] = refl
codes_same (c ∷ s) = (both_is (eqb c c) (same_codes s s)).1 (eq-eqb c c refl, codes_same s)

module _ (t : List (Option OurAtom)) where
  -- ---- lists are made and taken apart as the search's

  pub items_of_lem : (ts : Field setting) → length ts ≤ most_codes → items_of (items_value t ts) ≡ codes_of t ts
  items_of_lem ts h = items_collect (codes_of t ts) (omega (arith, length-map ts (code_tm t)))

  pub first_agree : (x : Tm setting) (ts : Field setting) → length (x ∷ ts) ≤ most_codes → get_or (items_of (items_value t (x ∷ ts))) 0 0 ≡ code_tm t x
  first_agree x ts h = ap (λ (l : List ℕ). get_or l 0 0) (items_of_lem (x ∷ ts) h)

  pub rest_agree : (x : Tm setting) (ts : Field setting) → length (x ∷ ts) ≤ most_codes
      → collect (drop 1 (items_of (items_value t (x ∷ ts)))) ≡ items_value t ts
  rest_agree x ts h = ap (λ (l : List ℕ). collect (drop 1 l)) (items_of_lem (x ∷ ts) h)

  pub before_agree : (x : Tm setting) (ts : Field setting) → length ts ≤ most_codes
      → collect (code_tm t x ∷ items_of (items_value t ts)) ≡ items_value t (x ∷ ts)
  before_agree x ts h = ap (λ (l : List ℕ). collect (code_tm t x ∷ l)) (items_of_lem ts h)

  module _ (long : length t ≡ pair_places) where
    -- ---- L{x ↦ s}

    put_all : (x : Tm setting) (s ts : Field setting) → On t x → All (On t) ts
        → concat_map (put_code (code_tm t x) (codes_of t s)) (codes_of t ts) ≡ codes_of t (put_in setting x s ts)
    put_all x s [] h k = refl
    put_all x s (u ∷ ts) h k =
        ap₂ (λ (a b : List ℕ). a ++ b)
        (cond_decided (tm_eq setting u x) (eqb (code_tm t u) (code_tm t x)) (codes_of t s) (code_tm t u ∷ []) (code_same t long u x k.0 h)
        ∙ go (tm_eq setting u x))
        (put_all x s ts h k.1)
        ∙ sym (map-append (code_tm t) (put setting x s u) (put_in setting x s ts))
      where
        go : (d : Dec (u ≡ x)) → ite d (codes_of t s) (code_tm t u ∷ []) ≡ codes_of t (ite d s (u ∷ []))
        go (yes e) = refl
        go (no n) = refl

    pub put_in_agree : (x : Tm setting) (s ts : Field setting) → On t x → All (On t) ts
        → collect (concat_map (put_code (code_tm t x) (codes_of t s)) (codes_of t ts)) ≡ items_value t (put_in setting x s ts)
    put_in_agree x s ts h k = ap collect (put_all x s ts h k)

    -- what `put_in` makes of the values
    pub put_in_items : (x : Tm setting) (s ts : Field setting) → On t x → All (On t) ts → length s ≤ most_codes → length ts ≤ most_codes
        → collect (concat_map (put_code (code_tm t x) (items_of (items_value t s))) (items_of (items_value t ts))) ≡ items_value t (put_in setting x s ts)
    put_in_items x s ts h k p q =
        ap₂ (λ (a b : List ℕ). collect (concat_map (put_code (code_tm t x) a) b)) (items_of_lem s p) (items_of_lem ts q) ∙ put_in_agree x s ts h k

    -- ---- equality, and the occurs check

    fields_same : (L M : Field setting) → All (On t) L → All (On t) M → same_codes (codes_of t L) (codes_of t M) ≡ true → L ≡ M
    fields_same [] [] h k e = refl
    fields_same [] (u ∷ M) h k e = absurd (false≢true e)
    fields_same (x ∷ L) [] h k e = absurd (false≢true e)
    fields_same (x ∷ L) (u ∷ M) h k e =
        let p = (both_is (eqb (code_tm t x) (code_tm t u)) (same_codes (codes_of t L) (codes_of t M))).0 e in
        ap₂ (λ (y : Tm setting) (l : Field setting). y ∷ l)
        (code_tm_once t long x u h.0 k.0 (eqb-true (code_tm t x) (code_tm t u) p.0)) (fields_same L M h.1 k.1 p.1)

    pub same_agree : (L M : Field setting) → All (On t) L → All (On t) M → same_codes (codes_of t L) (codes_of t M) ≡ decided (field_eq setting L M)
    same_agree L M h k = go (field_eq setting L M)
      where
        go : (d : Dec (L ≡ M)) → same_codes (codes_of t L) (codes_of t M) ≡ decided d
        go (yes e) = ap (λ (l : Field setting). same_codes (codes_of t L) (codes_of t l)) (sym e) ∙ codes_same (codes_of t L)
        go (no n) = (false_is (same_codes (codes_of t L) (codes_of t M))).1 (λ e. n (fields_same L M h k e))

    pub occurs_agree : (x : Tm setting) (L : Field setting) → On t x → All (On t) L → occurs_in (code_tm t x) (codes_of t L) ≡ occurs setting x L
    occurs_agree x [] h k = refl
    occurs_agree x (u ∷ L) h k = ap₂ ◌||◌ (code_same t long u x k.0 h) (occurs_agree x L h k.1) ∙ go (tm_eq setting u x)
      where
        go : (d : Dec (u ≡ x)) → (decided d || occurs setting x L) ≡ ite d true (occurs setting x L)
        go (yes e) = refl
        go (no n) = refl
