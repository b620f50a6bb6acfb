-- The first bad term stands at the place of the refusal; no bad one has a smaller place; it is the first of the fifth field, or the one just
-- past the limit.
use mathlib.Core.Path.{◌≡◌, refl, sym, ◌∙◌, ap, subst}
use mathlib.Core.Logic.{◌⊎◌, ◌↔◌, inl, inr}
use mathlib.Core.Option.{some}
use mathlib.Core.List.{List, [], ◌∷◌, ◌++◌, append_assoc, head-eq_of_cons-eq, tail-eq_of_cons-eq}
use mathlib.Core.List.Memᴰ
use mathlib.Core.List.{Memᴰ}
use Prim.Native.Nat.{ℕ, suc, ◌+◌, ◌≤◌, ◌<◌}
use native.Mathlib.Omega.{arith}
use lib.ListN.{length, get_elem?, length-append}
use Rattle.base_lists.specs.Seqs.{All, all_right, all_append}
use Rattle.text_grammar.specs.Grammar.{Raw, spell, spell_f, FieldOk}
use Rattle.text_grammar.specs.Leftmost.{NoneOf, FirstOf}
use Rattle.text_grammar.specs.Tokens.{Token, tokens, tokens_f, tokens_t, FifthField, TooMany}
use Rattle.text_grammar.specs.Read.{Reason, long, grammar, fields, terms, limits, linear, variable, unknown, Bad, FirstBad}
use Rattle.text_grammar.specs.Sharp.{Stands, Numbered, Stated, FirstBadToken}
use Rattle.text_grammar.proofs.Tokens.{From, Rising, rising, stands_in}

rising_later : (ys zs : List Token) (m k : Token) → Rising (ys ++ m ∷ zs) → Memᴰ k zs → m.place < k.place
rising_later [] zs m k r i = go zs r.0 i
  where
    go : (zs : List Token) → All (From (suc m.place)) zs → Memᴰ k zs → m.place < k.place
    go [] a j = absurd (Memᴰ.not-nil j)
    go (z ∷ zs) a j = on (Memᴰ.cases_cons j) (λ j'. go zs a.1 j')
      where
        on : (k ≡ z) ⊎ Memᴰ k zs → (Memᴰ k zs → m.place < k.place) → m.place < k.place
        on (inl e) rec = subst (λ (u : Token). m.place < u.place) (sym e) a.0
        on (inr j') rec = rec j'
rising_later (y ∷ ys) zs m k r i = rising_later ys zs m k r.1 i

-- LEFTMOST: no token with the property has a smaller place
module _ (P : List Token → Token → Type 0) where
  pub first_least : (xs before : List Token) (m k : Token) → Rising xs → FirstOf P before xs m
      → (us vs : List Token) → xs ≡ us ++ k ∷ vs → P (before ++ us) k → m.place ≤ k.place
  first_least xs before m k r f us vs e p = go f.0 xs before r f.2 f.4 us e p
    where
      go : (ys xs before : List Token) → Rising xs → xs ≡ ys ++ m ∷ f.1 → NoneOf P before ys
          → (us : List Token) → xs ≡ us ++ k ∷ vs → P (before ++ us) k → m.place ≤ k.place
      go [] xs before r e₁ n [] e₂ p = let e : m ≡ k = head-eq_of_cons-eq (sym e₁ ∙ e₂) in subst (λ (u : Token). m.place ≤ u.place) e (omega arith)
      go [] xs before r e₁ n (u ∷ us) e₂ p =
          let t : f.1 ≡ us ++ k ∷ vs = tail-eq_of_cons-eq (sym e₁ ∙ e₂) in
          let l = rising_later [] f.1 m k (subst Rising e₁ r) (subst (λ (l : List Token). Memᴰ k l) (sym t) (in_middle us)) in
          omega arith
        where
          in_middle : (us : List Token) → Memᴰ k (us ++ k ∷ vs)
          in_middle [] = Memᴰ.head refl
          in_middle (w ∷ ws) = Memᴰ.tail (in_middle ws)
      go (y ∷ ys) xs before r e₁ n [] e₂ p =
          absurd (n.0 (subst (P before) (head-eq_of_cons-eq (sym e₂ ∙ e₁)) (subst (λ (l : List Token). P l k) (nil before) p)))
        where
          nil : (l : List Token) → l ++ [] ≡ l
          nil [] = refl
          nil (w ∷ l) = ap (λ (z : List Token). w ∷ z) (nil l)
      go (y ∷ ys) xs before r e₁ n (u ∷ us) e₂ p =
          let same : y ≡ u = head-eq_of_cons-eq (sym e₁ ∙ e₂) in
          go ys (ys ++ m ∷ f.1) (before ++ y ∷ []) (subst Rising e₁ r).1 refl n.1 us (tail-eq_of_cons-eq (sym e₁ ∙ e₂))
          (subst (λ (l : List Token). P l k) (ap (λ (z : Token). before ++ z ∷ us) (sym same) ∙ sym (append_assoc before (y ∷ []) us)) p)

-- ---- the numbers of the tokens

-- numbers go up by one
abbrev pub Next : ℕ → ℕ → Token → Type 0
Next n i m = ((m.in_field ≡ n) × (m.index ≡ suc i)) ⊎ ((m.in_field ≡ suc n) × (m.index ≡ 1))

abbrev pub Steps : ℕ → ℕ → List Token → Type 0
Steps n i [] = Unit {0}
Steps n i (m ∷ ms) = Next n i m × Steps m.in_field m.index ms

steps_f : (rs : List Raw) (p n i : ℕ) (later : List Token) → ((j : ℕ) → Steps n j later) → Steps n i (tokens_f p n (suc i) rs ++ later)
steps_f [] p n i later h = h i
steps_f (r ∷ rs) p n i later h = (inl (refl, refl), steps_f rs (suc (p + length (spell r))) n (suc i) later h)

pub steps_t : (x : List (List Raw)) (p n i : ℕ) → All FieldOk x → Steps n i (tokens_t p (suc n) x)
steps_t [] p n i g = tt
steps_t ([] ∷ fs) p n i g = absurd g.0.0
steps_t ((r ∷ rs) ∷ fs) p n i g = (
  inr (refl, refl),
  steps_f rs (suc (p + length (spell r))) (suc n) 1 (tokens_t (suc (p + length (spell_f (r ∷ rs)))) (suc (suc n)) fs)
      (λ j. steps_t fs (suc (p + length (spell_f (r ∷ rs)))) (suc n) j g.1),
)

-- the first token of a fifth field is its first term
pub five : (ys zs : List Token) (before : List Token) (n i : ℕ) (m : Token) → n ≤ 4 → Steps n i (ys ++ m ∷ zs)
    → NoneOf (λ b k. FifthField k) before ys → FifthField m → (m.in_field ≡ 5) × (m.index ≡ 1)
five [] zs before n i m h s k b = go s.0
  where
    go : Next n i m → (m.in_field ≡ 5) × (m.index ≡ 1)
    go (inl e) = absurd (omega (arith, e.0))
    go (inr e) = (omega (arith, e.0), e.1)
five (y ∷ ys) zs before n i m h s k b =
    let low : (5 ≤ y.in_field) → ⊥ = k.0 in
    five ys zs (before ++ y ∷ []) y.in_field y.index m (omega arith) s.1 k.1 b

-- the first term past the limit is the one just past it
pub past : (w : ℕ) (ys zs : List Token) (before : List Token) (n i : ℕ) (m : Token) → i ≤ w → Steps n i (ys ++ m ∷ zs) → NoneOf (λ b k. TooMany w k) before ys
    → TooMany w m → m.index ≡ suc w
past w [] zs before n i m h s k b = go s.0
  where
    go : Next n i m → m.index ≡ suc w
    go (inl e) = omega (arith, e.1)
    go (inr e) = omega (arith, e.1)
past w (y ∷ ys) zs before n i m h s k b =
    let low : (w < y.index) → ⊥ = k.0 in
    past w ys zs (before ++ y ∷ []) y.in_field y.index m (omega arith) s.1 k.1 b

-- each token's numbers are those of its term
at_middle : {A : Type 0} (us : List A) (a : A) (vs : List A) → get_elem? (us ++ a ∷ vs) (length us) ≡ some a
at_middle [] a vs = refl
at_middle (u ∷ us) a vs = at_middle us a vs

behind_one : {A : Type 0} (us : List A) (a : A) (vs : List A) → us ++ a ∷ vs ≡ (us ++ a ∷ []) ++ vs
behind_one us a vs = sym (append_assoc us (a ∷ []) vs)

one_longer : {A : Type 0} (us : List A) (a : A) (n : ℕ) → length us ≡ n → length (us ++ a ∷ []) ≡ suc n
one_longer us a n e = omega (arith, length-append us (a ∷ []), e)

numbered_f : (x : List (List Raw)) (f rs us : List Raw) (p n i : ℕ) → f ≡ us ++ rs → length us ≡ i → get_elem? x n ≡ some f
    → All (Numbered x) (tokens_f p (suc n) (suc i) rs)
numbered_f x f [] us p n i e l is = tt
numbered_f x f (r ∷ rs) us p n i e l is = (
  record { i = n; j = i; field = f; in_field = refl; is_field = is; index = refl; is_term_lem = rw (e, ← l) (at_middle us r rs) },
  numbered_f x f rs (us ++ r ∷ []) (suc (p + length (spell r))) n (suc i) (e ∙ behind_one us r rs) (one_longer us r i l) is,
)

pub numbered_t : (x fs ys : List (List Raw)) (p n : ℕ) → x ≡ ys ++ fs → length ys ≡ n → All (Numbered x) (tokens_t p (suc n) fs)
numbered_t x [] ys p n e l = tt
numbered_t x (f ∷ fs) ys p n e l =
    all_append (Numbered x) (tokens_f p (suc n) 1 f) (tokens_t (suc (p + length (spell_f f))) (suc (suc n)) fs)
    (numbered_f x f f [] p n 0 refl refl (rw (e, ← l) (at_middle ys f fs)))
    (numbered_t x fs (ys ++ f ∷ []) (suc (p + length (spell_f f))) (suc n) (e ∙ behind_one ys f fs) (one_longer ys f n l))

-- ---- the first bad token

-- a token's property, of the one in the middle
pub pick : (P : Token → Type 0) (ms ys zs : List Token) (m : Token) → All P ms → ms ≡ ys ++ m ∷ zs → P m
pick P ms ys zs m a e = (all_right P ys (m ∷ zs) (subst (All P) e a)).0

module _ (w : ℕ) (x : List (List Raw)) (good : All FieldOk x) (m : Token) (ys zs : List Token) (split : tokens x ≡ ys ++ m ∷ zs) where
  steps_there : Steps 0 0 (ys ++ m ∷ zs)
  steps_there = subst (Steps 0 0) split (steps_t x 0 0 0 good)

  stated : (o : Reason) → Bad w o ys m → NoneOf (Bad w o) [] ys → Stated w o ys m
  stated long b n = b
  stated grammar b n = b
  stated fields b n = five ys zs [] 0 0 m (omega arith) steps_there n b
  stated terms b n = past w ys zs [] 0 0 m (omega arith) steps_there n b
  stated limits b n = b
  stated linear b n = b
  stated variable b n = b
  stated unknown b n = absurd b

-- WHAT STANDS AT THE PLACE of a refusal from 3 to 7
pub first_bad_lem : (w : ℕ) (o : Reason) (t : List ℕ) (p : ℕ) → FirstBad w o t p ↔ FirstBadToken w o t p
first_bad_lem w o t p = (to, λ h. (h.said, h.says, (h.token, (h.earlier, h.later, h.split, h.bad, h.none_earlier), h.place)))
  where
    to : FirstBad w o t p → FirstBadToken w o t p
    to f =
        let x = f.0 in
        let m = f.2.0 in
        let g = f.2.1 in
        record {
          said = x;
          says = f.1;
          token = m;
          earlier = g.0;
          later = g.1;
          split = g.2;
          bad = g.3;
          none_earlier = g.4;
          place = f.2.2;
          stands = pick (Stands t) (tokens x) g.0 g.1 m (stands_in t x f.1.1) g.2;
          leftmost = λ us vs k e b. subst (λ (q : ℕ). q ≤ k.place) (sym f.2.2) (first_least (Bad w o) (tokens x) [] m k (rising x) g us vs e b);
          numbered = pick (Numbered x) (tokens x) g.0 g.1 m (numbered_t x x [] 0 0 refl refl) g.2;
          stated = stated w x f.1.0.1 m g.0 g.1 g.2 o g.3 g.4;
        }
