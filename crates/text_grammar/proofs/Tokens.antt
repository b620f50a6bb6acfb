-- Each token's term stands in the text at the token's place, and the places rise.
use mathlib.Core.Path.{◌≡◌, refl, ◌∙◌, ap}
use mathlib.Core.List.{List, [], ◌∷◌, ◌++◌, append_assoc, append-nil}
use Prim.Native.Nat.{ℕ, suc, ◌+◌, ◌≤◌, ◌<◌}
use native.Mathlib.Omega.{arith}
use lib.ListN.{length, length-append}
use Rattle.base_lists.specs.Seqs.{All, all_append, all_map}
use Rattle.base_lists.specs.Arrays.{shift_eq, shift_length}
use Rattle.text_grammar.specs.Grammar.{Raw, spell, colons, spell_f, bars, spell_t}
use Rattle.text_grammar.specs.Tokens.{Token, tokens_f, tokens_t, tokens}
use Rattle.text_grammar.specs.Sharp.{Stands}

stands_f : (t : List ℕ) (rs : List Raw) (p n i : ℕ) (pre post : List ℕ) → t ≡ pre ++ (spell_f rs ++ post) → length pre ≡ p → All (Stands t) (tokens_f p n i rs)
stands_f t [] p n i pre post e l = tt
stands_f t (r ∷ []) p n i pre post e l = (
  record { before = pre; after = post; there = e ∙ ap (λ (x : List ℕ). pre ++ (x ++ post)) (append-nil (spell r)); from = l },
  tt,
)
stands_f t (r ∷ (s ∷ rs)) p n i pre post e l = (
  record { before = pre; after = colons (s ∷ rs) ++ post; there = e ∙ ap (λ (x : List ℕ). pre ++ x) (append_assoc (spell r) (colons (s ∷ rs)) post); from = l },
  stands_f t (s ∷ rs) (suc (p + length (spell r))) n (suc i) (pre ++ (spell r ++ 58 ∷ [])) post
      (e ∙ ap (λ (x : List ℕ). pre ++ x) (append_assoc (spell r) (colons (s ∷ rs)) post) ∙ shift_eq pre (spell r) (spell_f (s ∷ rs) ++ post) 58)
      (shift_length pre (spell r) 58 p l),
)

pub stands_t : (t : List ℕ) (x : List (List Raw)) (p n : ℕ) (pre : List ℕ) → t ≡ pre ++ spell_t x → length pre ≡ p → All (Stands t) (tokens_t p n x)
stands_t t [] p n pre e l = tt
stands_t t (f ∷ []) p n pre e l = all_append (Stands t) (tokens_f p n 1 f) [] (stands_f t f p n 1 pre [] e l) tt
stands_t t (f ∷ (g ∷ fs)) p n pre e l =
    all_append (Stands t) (tokens_f p n 1 f) (tokens_t (suc (p + length (spell_f f))) (suc n) (g ∷ fs)) (stands_f t f p n 1 pre (bars (g ∷ fs)) e l)
    (stands_t t (g ∷ fs) (suc (p + length (spell_f f))) (suc n) (pre ++ (spell_f f ++ 124 ∷ [])) (e ∙ shift_eq pre (spell_f f) (spell_t (g ∷ fs)) 124)
    (shift_length pre (spell_f f) 124 p l))

pub stands_in : (t : List ℕ) (x : List (List Raw)) → t ≡ spell_t x → All (Stands t) (tokens x)
stands_in t x e = stands_t t x 0 1 [] e refl

-- the places rise: the first token with a property is the leftmost
abbrev pub From : ℕ → Token → Type 0
From p m = p ≤ m.place

abbrev pub Rising : List Token → Type 0
Rising [] = Unit {0}
Rising (m ∷ ms) = All (From (suc m.place)) ms × Rising ms

from_f : (rs : List Raw) (p q n i : ℕ) → q ≤ p → All (From q) (tokens_f p n i rs)
from_f [] p q n i h = tt
from_f (r ∷ rs) p q n i h = (h, from_f rs (suc (p + length (spell r))) q n (suc i) (omega arith))

pub from_t : (x : List (List Raw)) (p q n : ℕ) → q ≤ p → All (From q) (tokens_t p n x)
from_t [] p q n h = tt
from_t (f ∷ fs) p q n h =
    all_append (From q) (tokens_f p n 1 f) (tokens_t (suc (p + length (spell_f f))) (suc n) fs) (from_f f p q n 1 h)
    (from_t fs (suc (p + length (spell_f f))) q (suc n) (omega arith))

abbrev pub Below : ℕ → Token → Type 0
Below q m = m.place < q

pub below_f : (rs : List Raw) (p q n i : ℕ) → p + length (spell_f rs) < q → All (Below q) (tokens_f p n i rs)
below_f [] p q n i h = tt
below_f (r ∷ []) p q n i h = (omega arith, tt)
below_f (r ∷ (s ∷ rs)) p q n i h =
    let e = length-append (spell r) (colons (s ∷ rs)) in
    (omega arith, below_f (s ∷ rs) (suc (p + length (spell r))) q n (suc i) (omega arith))

rising_f : (rs : List Raw) (p n i : ℕ) → Rising (tokens_f p n i rs)
rising_f [] p n i = tt
rising_f (r ∷ rs) p n i = (from_f rs (suc (p + length (spell r))) (suc p) n (suc i) (omega arith), rising_f rs (suc (p + length (spell r))) n (suc i))

pub rising_append : (q : ℕ) (ms ns : List Token) → Rising ms → Rising ns → All (Below q) ms → All (From q) ns → Rising (ms ++ ns)
rising_append q [] ns a b c d = b
rising_append q (m ∷ ms) ns a b c d = (
  all_append (From (suc m.place)) ms ns a.0 (all_map (From q) (From (suc m.place)) (λ k h. omega (arith, c.0)) ns d),
  rising_append q ms ns a.1 b c.1 d,
)

pub rising_t : (x : List (List Raw)) (p n : ℕ) → Rising (tokens_t p n x)
rising_t [] p n = tt
rising_t (f ∷ fs) p n =
    let q = suc (p + length (spell_f f)) in
    rising_append q (tokens_f p n 1 f) (tokens_t q (suc n) fs) (rising_f f p n 1) (rising_t fs q (suc n)) (below_f f p q n 1 (omega arith))
    (from_t fs q q (suc n) (omega arith))

pub rising : (x : List (List Raw)) → Rising (tokens x)
rising x = rising_t x 0 1
