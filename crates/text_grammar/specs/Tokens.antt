-- The terms of a text with their places, and the properties behind refusals 3 to 7.
use Rattle.std.specs.Prelude.{◌≡◌, ◌≢◌, ◌⊎◌, List, [], ◌∷◌, ◌++◌, ℕ, suc, ◌+◌, ◌<◌, length}
use Rattle.std.proofs.Common.{inl, inr}
use Rattle.std.proofs.Math.Option.{Option, none, some}
use Rattle.std.proofs.Math.Decide.{ℕ_discrete, dec_lt}
use Rattle.base_limits.specs.Limits.{most_fields, largest_number}
use Rattle.base_lists.specs.Seqs.{Any, any?}
use Rattle.math_types.specs.Order.{basic, list}
use Rattle.text_grammar.specs.Grammar.{Raw, raw_var, raw_empty, spell, spell_f, raw_con}
use Rattle.text_grammar.specs.Numbers.{value}
use Rattle.text_grammar.specs.constants.Constants.{OverCon, over_con?}

-- a term with the place of its first byte, the number of its field, and its number in the field, both from 1
pub record Token : Type 0 where
  pub place : ℕ
  pub in_field : ℕ
  pub index : ℕ
  pub raw : Raw

abbrev pub tokens_f : ℕ → ℕ → ℕ → List Raw → List Token
tokens_f p n i [] = []
tokens_f p n i (r ∷ rs) = record { place = p; in_field = n; index = i; raw = r } ∷ tokens_f (suc (p + length (spell r))) n (suc i) rs

abbrev pub tokens_t : ℕ → ℕ → List (List Raw) → List Token
tokens_t p n [] = []
tokens_t p n (f ∷ fs) = tokens_f p n 1 f ++ tokens_t (suc (p + length (spell_f f))) (suc n) fs

abbrev pub tokens : List (List Raw) → List Token
tokens x = tokens_t 0 1 x

-- document 01, refusal 3: "a fifth field, at its first byte"; that byte is the first of the field's first term
abbrev pub FifthField : Token → Type 0
FifthField m = most_fields < m.in_field

-- 4: "a seventeenth term in a field", in a slip "a sixty-fifth"
abbrev pub TooMany : ℕ → Token → Type 0
TooMany limit m = limit < m.index

-- 5: "a value, digit count, variable number or string length over its limit"
abbrev pub Over : Raw → Type 0
Over (raw_con r) = OverCon r
Over (raw_var k ds) = largest_number < value ds
Over raw_empty = ⊥

abbrev pub TokenOver : Token → Type 0
TokenOver m = Over m.raw

-- the number of a list variable
abbrev pub list_no : Raw → Option ℕ
list_no (raw_con r) = none
list_no (raw_var (basic k) ds) = none
list_no (raw_var list ds) = some (value ds)
list_no raw_empty = none

-- an occurrence of a list variable: the number of its field, and its own
abbrev pub Occ : Type 0
Occ = ℕ × ℕ

abbrev pub occ : ℕ → Option ℕ → List Occ
occ n none = []
occ n (some v) = (n, v) ∷ []

abbrev pub occs : List Token → List Occ
occs [] = []
occs (m ∷ ms) = occ m.in_field (list_no m.raw) ++ occs ms

-- two occurrences that may not both stand in a rule
abbrev pub Clash : Occ → Occ → Type 0
Clash a b = (b.0 ≡ a.0) ⊎ (b.1 ≡ a.1)

-- 6: "a list variable that occurs earlier in the rule, or that follows another in its field"
abbrev pub ClashOf : List Occ → ℕ → Option ℕ → Type 0
ClashOf before n none = ⊥
ClashOf before n (some v) = Any (Clash (n, v)) before

abbrev pub NotLinear : List Token → Token → Type 0
NotLinear before m = ClashOf (occs before) m.in_field (list_no m.raw)

-- 7: "a variable", in a slip
abbrev pub IsVar : Raw → Type 0
IsVar (raw_con r) = ⊥
IsVar (raw_var k ds) = Unit {0}
IsVar raw_empty = ⊥

abbrev pub TokenVar : Token → Type 0
TokenVar m = IsVar m.raw

-- each is decided
unfoldable pub fifth? : (before : List Token) (m : Token) → Dec (FifthField m)
unfolding dec_lt
fifth? before m = dec_lt most_fields m.in_field

unfoldable pub many? : (limit : ℕ) (before : List Token) (m : Token) → Dec (TooMany limit m)
unfolding dec_lt
many? limit before m = dec_lt limit m.index

unfoldable pub over? : (r : Raw) → Dec (Over r)
unfolding over_con? dec_lt
over? (raw_con r) = over_con? r
over? (raw_var k ds) = dec_lt largest_number (value ds)
over? raw_empty = no (λ h. h)

abbrev pub token_over? : (before : List Token) (m : Token) → Dec (TokenOver m)
token_over? before m = over? m.raw

unfoldable pub clash? : (a b : Occ) → Dec (Clash a b)
unfolding ℕ_discrete
clash? a b = go (ℕ_discrete b.0 a.0) (ℕ_discrete b.1 a.1)
  where
    neither : (b.0 ≢ a.0) → (b.1 ≢ a.1) → Clash a b → ⊥
    neither n k (inl p) = n p
    neither n k (inr p) = k p

    go : Dec (b.0 ≡ a.0) → Dec (b.1 ≡ a.1) → Dec (Clash a b)
    go (yes p) c = yes (inl p)
    go (no n) (yes p) = yes (inr p)
    go (no n) (no k) = no (neither n k)

unfoldable pub clash_of? : (before : List Occ) (n : ℕ) (o : Option ℕ) → Dec (ClashOf before n o)
unfolding any? clash?
clash_of? before n none = no (λ h. h)
clash_of? before n (some v) = any? (Clash (n, v)) (clash? (n, v)) before

abbrev pub not_linear? : (before : List Token) (m : Token) → Dec (NotLinear before m)
not_linear? before m = clash_of? (occs before) m.in_field (list_no m.raw)

abbrev pub is_var? : (r : Raw) → Dec (IsVar r)
is_var? (raw_con r) = no (λ h. h)
is_var? (raw_var k ds) = yes tt
is_var? raw_empty = no (λ h. h)

abbrev pub token_var? : (before : List Token) (m : Token) → Dec (TokenVar m)
token_var? before m = is_var? m.raw
