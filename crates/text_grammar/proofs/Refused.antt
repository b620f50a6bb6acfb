-- Where a text is refused: in it or at its end, and never beyond the bytes that a text may have.
use mathlib.Core.Path.{◌≡◌, refl, sym, ◌∙◌, ap, subst}
use mathlib.Core.Logic.{inl, inr}
use mathlib.Core.List.{List, [], ◌∷◌, ◌++◌}
use Prim.Native.Nat.{ℕ, zero, suc, ◌≤◌, ◌<◌}
use native.Mathlib.Omega.{arith}
use native.Mathlib.Decide.{dec_lt}
use lib.ListN.{length, length-append}
use Rattle.text_grammar.specs.Grammar.{spell, Grammar}
use Rattle.text_grammar.specs.Read.{Reason, long, grammar, fields, terms, limits, linear, variable, unknown, number, Sort, rule, slip, FirstBad, Refuses}
use Rattle.text_grammar.specs.Read.{FirstReason, refused, read, read_side, read_slip}
use Rattle.text_grammar.proofs.Read.{read_refused}
use Rattle.text_grammar.proofs.Sharp.{first_bad_lem}
use Rattle.text_grammar.proofs.rules.Stops.{stops_in}

-- a term that is refused stands in the text
bad_in : (w : ℕ) (r : Reason) (t : List ℕ) (p : ℕ) → FirstBad w r t p → p ≤ length t
bad_in w r t p f =
    let b = (first_bad_lem w r t p).0 f in
    let s = b.stands in
    omega (arith, ap length s.there, length-append s.before (spell b.token.raw ++ s.after), s.from, b.place)

place_in : (S : Sort) (t : List ℕ) (r : Reason) (p : ℕ) → Refuses S t r p → p ≤ length t
place_in S t long p h = omega (arith, h.0, h.1)
place_in S t grammar p h = stops_in Grammar t p h
place_in S t fields p h = bad_in S.width fields t p h
place_in S t terms p h = bad_in S.width terms t p h
place_in S t limits p h = bad_in S.width limits t p h
place_in S t linear p h = bad_in S.width linear t p h
place_in S t variable p h = bad_in S.width variable t p h
place_in S t unknown p h = bad_in S.width unknown t p h

first_in_lem : (S : Sort) (t : List ℕ) (rs : List Reason) (r : Reason) (p : ℕ) → FirstReason (Refuses S t) rs r p → p ≤ length t
first_in_lem S t [] r p h = absurd h
first_in_lem S t (s ∷ rs) r p (inl h) = place_in S t s p h.1
first_in_lem S t (s ∷ rs) r p (inr h) = first_in_lem S t rs r p h.1

module _ (S : Sort) (others : List Reason) (is : S.order ≡ long ∷ others) (t : List ℕ) (r : Reason) (p : ℕ) where
  place_most : read S t ≡ refused r p → p ≤ S.bytes
  place_most e = go (subst (λ (rs : List Reason). FirstReason (Refuses S t) rs r p) is ((read_refused S t r p).0 e))
    where
      go : FirstReason (Refuses S t) (long ∷ others) r p → p ≤ S.bytes
      go (inl h) = omega (arith, h.1.1)
      go (inr h) = short (dec_lt S.bytes (length t)) (first_in_lem S t others r p h.1)
        where
          short : Dec (S.bytes < length t) → p ≤ length t → p ≤ S.bytes
          short (yes k) l = absurd (h.0 S.bytes (k, refl))
          short (no k) l = omega arith

pub rule_place : (t : List ℕ) (r : Reason) (p : ℕ) → read_side t ≡ refused r p → p ≤ rule.bytes
rule_place t r p e = place_most rule (grammar ∷ fields ∷ terms ∷ limits ∷ linear ∷ []) refl t r p e

pub slip_place : (t : List ℕ) (r : Reason) (p : ℕ) → read_slip t ≡ refused r p → p ≤ slip.bytes
slip_place t r p e = place_most slip (grammar ∷ fields ∷ terms ∷ limits ∷ variable ∷ []) refl t r p e

-- a number has two digits at most
pub number_small : (r : Reason) → number r < 100
number_small long = omega arith
number_small grammar = omega arith
number_small fields = omega arith
number_small terms = omega arith
number_small limits = omega arith
number_small linear = omega arith
number_small variable = omega arith
number_small unknown = omega arith

-- the numbers tell the reasons apart
numbered : ℕ → Reason
numbered zero = long
numbered (suc zero) = long
numbered (suc (suc zero)) = grammar
numbered (suc (suc (suc zero))) = fields
numbered (suc (suc (suc (suc zero)))) = terms
numbered (suc (suc (suc (suc (suc zero))))) = limits
numbered (suc (suc (suc (suc (suc (suc zero)))))) = linear
numbered (suc (suc (suc (suc (suc (suc (suc zero))))))) = variable
numbered (suc (suc (suc (suc (suc (suc (suc (suc n)))))))) = unknown

number_back : (r : Reason) → numbered (number r) ≡ r
unfolding numbered
number_back long = refl
number_back grammar = refl
number_back fields = refl
number_back terms = refl
number_back limits = refl
number_back linear = refl
number_back variable = refl
number_back unknown = refl

pub number_once : (r s : Reason) → number r ≡ number s → r ≡ s
number_once r s e = sym (number_back r) ∙ ap numbered e ∙ number_back s
