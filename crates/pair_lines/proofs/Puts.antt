-- Laws of texts that are put one behind the other, and of the digits of a small number. Assumes nothing.
use mathlib.Core.Path.{◌≡◌, refl, sym, ap, ap₂, ◌∙◌, subst}
use mathlib.Core.Bool.{Bool, true, false, cond, ◌||◌}
use mathlib.Core.List.{List, [], ◌∷◌, ◌++◌}
use Prim.Native.Nat.{ℕ, ◌+◌, ◌/◌, ◌%◌, ◌≤◌, ◌<◌}
use native.Mathlib.Omega.{arith}
use native.Mathlib.Decide.{dec_lt}
use lib.Dec.{ltb}
use lib.ListN.{length, drop, length-append, length-drop}
use lib.Seq.{sets}
use borrow.Author.Tests.{lt-ltb, le-ltb}
use Rattle.base_lists.specs.Arrays.{sets_append}
use Rattle.text_grammar.specs.Numbers.{digits_of}
use Rattle.text_grammar.proofs.Numbers.{digits_small, digits_more}
use Rattle.pair_lines.specs.Lines.{Puts, blank, unled}

pub puts_none : (at : ℕ) (l : List ℕ) → Puts [] at l at l
puts_none at l = (omega arith, refl)

pub puts_as : {a b : List ℕ} (at : ℕ) (l : List ℕ) {p : ℕ} {m : List ℕ} → a ≡ b → Puts a at l p m → Puts b at l p m
puts_as at l {p} {m} e q = subst (λ (t : List ℕ). Puts t at l p m) e q

pub puts_moved : (a : List ℕ) (at : ℕ) (l : List ℕ) {p r : ℕ} {m n : List ℕ} → r ≡ p → n ≡ m → Puts a at l p m → Puts a at l r n
puts_moved a at l e f q = (e ∙ q.0, f ∙ q.1)

pub puts_next : (a b : List ℕ) (at : ℕ) (l : List ℕ) {p r : ℕ} {m n : List ℕ} → Puts a at l p m → Puts b p m r n → Puts (a ++ b) at l r n
puts_next a b at l q s =
    (omega (arith, q.0, s.0, length-append a b), s.1 ∙ ap₂ (λ (n : List ℕ) (k : ℕ). sets n k b) q.1 q.0 ∙ sets_append a b l at)

-- ---- bindings, each with a blank before it, which falls off where a line begins

-- no text is a blank alone
abbrev pub Led : List ℕ → Type 0
Led [] = Unit {0}
Led (x ∷ []) = ⊥
Led (x ∷ y ∷ t) = Unit {0}

pub led_append : (a b : List ℕ) → Led a → Led b → Led (a ++ b)
led_append [] b p q = q
led_append (x ∷ []) b p q = absurd p
led_append (x ∷ y ∷ a) b p q = tt

module _ (led : Bool) (at : ℕ) where
  pub unled_none : unled led at [] ≡ []
  unled_none = go (led || ltb 0 at)
    where
      go : (b : Bool) → ◌≡◌ {A = List ℕ} (cond b [] (drop 1 [])) []
      go true = refl
      go false = refl

  pub unled_few : (t : List ℕ) → length (unled led at t) ≤ length t
  unled_few t = go (led || ltb 0 at)
    where
      go : (b : Bool) → length (cond b t (drop 1 t)) ≤ length t
      go true = omega arith
      go false = omega (arith, length-drop 1 t)

  -- the blank of the first binding
  pub blank_led : (t : List ℕ) → blank led at ++ t ≡ unled led at (32 ∷ t)
  blank_led t = go (led || ltb 0 at)
    where
      go : (b : Bool) → cond b (32 ∷ []) [] ++ t ≡ cond b (32 ∷ t) t
      go true = refl
      go false = refl

  pub unled_behind : (x : ℕ) (t u : List ℕ) → unled led at (x ∷ t) ++ u ≡ unled led at (x ∷ (t ++ u))
  unled_behind x t u = go (led || ltb 0 at)
    where
      go : (b : Bool) → cond b (x ∷ t) t ++ u ≡ cond b (x ∷ (t ++ u)) (t ++ u)
      go true = refl
      go false = refl

unled_on : (at : ℕ) (t : List ℕ) → 0 < at → unled false at t ≡ t
unled_on at t h = rw (lt-ltb 0 at h)

unled_off : (at : ℕ) (t : List ℕ) → at ≤ 0 → unled false at t ≡ drop 1 t
unled_off at t h = rw (le-ltb 0 at h)

pub unled_next : (led : Bool) (a b : List ℕ) (at : ℕ) (l : List ℕ) {p r : ℕ} {m n : List ℕ} → Led a → Puts (unled led at a) at l p m
    → Puts (unled led p b) p m r n
    → Puts (unled led at (a ++ b)) at l r n
unled_next true a b at l d q s = puts_next a b at l q s
unled_next false a b at l {p} {r} {m} {n} d q s = go (dec_lt 0 at)
  where
    first : (a : List ℕ) → at ≤ 0 → Led a → Puts (unled false at a) at l p m → Puts (unled false at (a ++ b)) at l r n
    first [] h d q =
        let z = puts_as at l (unled_off at [] h) q in
        puts_as at l (sym (unled_off at b h)) (puts_next [] (drop 1 b) at l z (puts_as p m (unled_off p b (omega (arith, z.0))) s))
    first (x ∷ []) h d q = absurd d
    first (x ∷ y ∷ a) h d q =
        let z = puts_as at l (unled_off at (x ∷ y ∷ a) h) q in
        puts_as at l (sym (unled_off at (x ∷ y ∷ (a ++ b)) h)) (puts_next (y ∷ a) b at l z (puts_as p m (unled_on p b (omega (arith, z.0))) s))

    go : Dec (0 < at) → Puts (unled false at (a ++ b)) at l r n
    go (yes h) =
        let z = puts_as at l (unled_on at a h) q in
        puts_as at l (sym (unled_on at (a ++ b) h)) (puts_next a b at l z (puts_as p m (unled_on p b (omega (arith, z.0, h))) s))
    go (no h) = first a (omega arith) d q

-- ---- digits

pub digits_two : (n : ℕ) → 10 ≤ n → n < 100 → digits_of n ≡ (48 + n / 10) ∷ (48 + n % 10) ∷ []
digits_two n h k = digits_more n h ∙ ap (λ (t : List ℕ). t ++ (48 + n % 10) ∷ []) (digits_small (n / 10) (omega arith))

pub digits_three : (n : ℕ) → 100 ≤ n → n < 1000 → digits_of n ≡ (48 + n / 100) ∷ (48 + n / 10 % 10) ∷ (48 + n % 10) ∷ []
digits_three n h k =
    digits_more n (omega arith)
    ∙ ap (λ (t : List ℕ). t ++ (48 + n % 10) ∷ []) (digits_two (n / 10) (omega arith) (omega arith)
    ∙ ap (λ (d : ℕ). (48 + d) ∷ (48 + n / 10 % 10) ∷ []) (let e : n / 10 / 10 ≡ n / 100 = omega arith in e))
