-- The terms of both sides with their places, and the variables that a left side lacks.
use Rattle.std.specs.Prelude.{◌≡◌, ◌⊎◌, List, [], ◌∷◌, ◌++◌, ℕ, ◌+◌, length}
use Rattle.std.proofs.Common.{inl, inr}
use Rattle.std.proofs.Math.Decide.{ℕ_discrete}
use Rattle.base_lists.specs.Seqs.{Any, any?}
use Rattle.math_types.specs.Order.{full-eq}
use Rattle.math_types.specs.Types.{Kind, basic_eq}
use Rattle.math_terms.specs.Terms.{con, var}
use Rattle.math_terms.specs.Fillings.{Occurs}
use Rattle.text_grammar.specs.Grammar.{Raw, raw_var, raw_empty, spell_t, raw_con}
use Rattle.text_grammar.specs.Numbers.{value}
use Rattle.text_grammar.specs.Tokens.{Token, tokens, tokens_t}
use Rattle.text_grammar.specs.Terms.{OurTerm, OurFields, terms_of, fields_of}
use Rattle.text_grammar.specs.rules.Sides.{Sides, one, two}

abbrev pub left_side : Sides → List (List Raw)
left_side (one x) = x
left_side (two x y) = x

abbrev pub left_tokens : Sides → List Token
left_tokens s = tokens (left_side s)

-- where the right side begins: behind the left side and `=>`
abbrev pub right_place : List (List Raw) → ℕ
right_place x = length (spell_t x) + 2

-- fields and terms counted anew
abbrev pub right_tokens : Sides → List Token
right_tokens (one x) = []
right_tokens (two x y) = tokens_t (right_place x) 1 y

abbrev pub all_tokens : Sides → List Token
all_tokens s = left_tokens s ++ right_tokens s

-- ---- refusal 10: "a right-side variable that the left lacks"; a variable is its letter and its number

-- the variable of kind k and number n stands in some field of r
abbrev pub Has : Kind → ℕ → OurFields → Type 0
Has k n r = Any (Occurs k n) (terms_of r)

unfoldable pub occurs? : (k : Kind) (n : ℕ) (f : List OurTerm) → Dec (Occurs k n f)
unfolding ℕ_discrete
occurs? k n [] = no (λ h. h)
occurs? k n (con c ∷ f) = occurs? k n f
occurs? k n (var j m ∷ f) = go (full-eq basic_eq k j) (ℕ_discrete n m) (occurs? k n f)
  where
    neither : (((k ≡ j) × (n ≡ m)) → ⊥) → (Occurs k n f → ⊥) → ((k ≡ j) × (n ≡ m)) ⊎ Occurs k n f → ⊥
    neither a b (inl h) = a h
    neither a b (inr h) = b h

    go : Dec (k ≡ j) → Dec (n ≡ m) → Dec (Occurs k n f) → Dec (((k ≡ j) × (n ≡ m)) ⊎ Occurs k n f)
    go (yes p) (yes q) d = yes (inl (p, q))
    go (yes p) (no q) (yes d) = yes (inr d)
    go (yes p) (no q) (no d) = no (neither (λ h. q h.1) d)
    go (no p) e (yes d) = yes (inr d)
    go (no p) e (no d) = no (neither (λ h. p h.0) d)

unfoldable pub has? : (k : Kind) (n : ℕ) (r : OurFields) → Dec (Has k n r)
unfolding any? occurs?
has? k n r = any? (Occurs k n) (occurs? k n) (terms_of r)

abbrev pub Lacks : OurFields → Raw → Type 0
Lacks l (raw_con r) = ⊥
Lacks l (raw_var k ds) = Has k (value ds) l → ⊥
Lacks l raw_empty = ⊥

abbrev pub lacks? : (l : OurFields) (r : Raw) → Dec (Lacks l r)
lacks? l (raw_con r) = no (λ h. h)
lacks? l (raw_var k ds) = go (has? k (value ds) l)
  where
    go : Dec (Has k (value ds) l) → Dec (Has k (value ds) l → ⊥)
    go (yes h) = no (λ n. n h)
    go (no n) = yes n
lacks? l raw_empty = no (λ h. h)

abbrev pub Unknown : Sides → Token → Type 0
Unknown s m = Lacks (fields_of (left_side s)) m.raw
