-- What the first bad term of a rule text is: the leftmost of all bad ones, standing in the text at its place; the first of a fifth field; the
-- seventeenth term; a variable that the left side lacks. And no place is beyond the text or 4,096.
use mathlib.Core.Path.{◌≡◌, refl, sym, ◌∙◌, ap, subst}
use mathlib.Core.Logic.{◌⊎◌, ◌↔◌, inl, inr}
use mathlib.Core.List.{List, [], ◌∷◌, ◌++◌, append_assoc, append-nil, nil≢cons, head-eq_of_cons-eq, tail-eq_of_cons-eq}
use Prim.Native.Nat.{ℕ, suc, ◌+◌, ◌≤◌, ◌<◌}
use native.Mathlib.Omega.{arith}
use native.Mathlib.Decide.{dec_lt}
use lib.ListN.{length, length-append}
use Rattle.base_limits.specs.Limits.{most_terms, most_rule_bytes}
use Rattle.base_lists.specs.Seqs.{All, all_append, all_map}
use Rattle.math_types.specs.Types.{Kind}
use Rattle.text_grammar.specs.Bytes.{letter}
use Rattle.text_grammar.specs.Numbers.{value}
use Rattle.text_grammar.specs.Terms.{OurFields, fields_of}
use Rattle.text_grammar.specs.Grammar.{Raw, raw_var, raw_empty, spell, spell_f, bars, spell_t, raw_con}
use Rattle.text_grammar.specs.Leftmost.{NoneOf, FirstOf}
use Rattle.text_grammar.specs.Tokens.{Token, tokens, tokens_f, tokens_t, FifthField, TooMany}
use Rattle.text_grammar.specs.Read.{Reason, long, grammar, fields, terms, limits, linear, variable, unknown, FirstReason, refused}
use Rattle.text_grammar.specs.Sharp.{Stands, Numbered}
use Rattle.text_grammar.proofs.Tokens.{stands_in, stands_t, From, from_t, Below, below_f, Rising, rising, rising_append, rising_t}
use Rattle.text_grammar.proofs.Sharp.{first_least, Steps, steps_t, five, past, numbered_t, pick}
use Rattle.text_grammar.specs.rules.Sides.{Sides, one, two, SidesOk, SaysRule, RuleGrammar, spell_s}
use Rattle.text_grammar.specs.rules.Tokens.{left_side, left_tokens, right_place, right_tokens, all_tokens, Has, Lacks}
use Rattle.text_grammar.specs.rules.Read.{order, tokens_for, BadIn, FirstIn, RefusesRule, read_rule}
use Rattle.text_grammar.specs.rules.Sharp.{NumberedIn, StatedIn, FirstBadTerm}
use Rattle.text_grammar.proofs.rules.Stops.{stops_in}
use Rattle.text_grammar.proofs.rules.Read.{read_first}

-- ---- the places rise, over both sides

below_t : (x : List (List Raw)) (p q n : ℕ) → p + length (spell_t x) < q → All (Below q) (tokens_t p n x)
below_t [] p q n h = tt
below_t (f ∷ []) p q n h = all_append (Below q) (tokens_f p n 1 f) [] (below_f f p q n 1 (omega (arith, length-append (spell_f f) []))) tt
below_t (f ∷ (g ∷ fs)) p q n h =
    let l = length-append (spell_f f) (bars (g ∷ fs)) in
    let r = suc (p + length (spell_f f)) in
    all_append (Below q) (tokens_f p n 1 f) (tokens_t r (suc n) (g ∷ fs)) (below_f f p q n 1 (omega arith)) (below_t (g ∷ fs) r q (suc n) (omega arith))

pub rising_all : (s : Sides) → Rising (all_tokens s)
rising_all (one x) = subst Rising (sym (append-nil (tokens x))) (rising x)
rising_all (two x y) =
    let q = right_place x in
    rising_append q (tokens x) (tokens_t q 1 y) (rising x) (rising_t y q 1) (below_t x 0 q 1 (omega arith)) (from_t y q q 1 (omega arith))

rising_right : (s : Sides) → Rising (right_tokens s)
rising_right (one x) = tt
rising_right (two x y) = rising_t y (right_place x) 1

pub rising_for : (o : Reason) (s : Sides) → Rising (tokens_for o s)
rising_for long s = tt
rising_for grammar s = tt
rising_for fields s = rising_all s
rising_for terms s = rising_all s
rising_for limits s = rising_all s
rising_for linear (one x) = rising x
rising_for linear (two x y) = rising x
rising_for variable s = tt
rising_for unknown s = rising_right s

-- LEFTMOST: no term with the property has a smaller place
pub leftmost_place : (o : Reason) (t : List ℕ) (p : ℕ) (f : FirstIn o t p) (us vs : List Token) (k : Token)
    → tokens_for o f.0 ≡ us ++ k ∷ vs → BadIn o f.0 us k → p ≤ k.place
leftmost_place o t p f us vs k e b =
    let s = f.0 in
    subst (λ (q : ℕ). q ≤ k.place) (sym f.2.2) (first_least (BadIn o s) (tokens_for o s) [] f.2.0 k (rising_for o s) f.2.1 us vs e b)

-- ---- each term stands in the text at its place

stands_before : (t a z : List ℕ) → t ≡ a ++ z → (m : Token) → Stands a m → Stands t m
stands_before t a z e m h =
    record {
      before = h.before;
      after = h.after ++ z;
      there = e
          ∙ ap (λ (l : List ℕ). l ++ z) h.there
          ∙ append_assoc h.before (spell m.raw ++ h.after) z
          ∙ ap (λ (l : List ℕ). h.before ++ l) (append_assoc (spell m.raw) h.after z);
      from = h.from;
    }

module _ (t : List ℕ) where
  stands_left : (s : Sides) → t ≡ spell_s s → All (Stands t) (left_tokens s)
  stands_left (one x) e = stands_in t x e
  stands_left (two x y) e =
      all_map (Stands (spell_t x)) (Stands t) (stands_before t (spell_t x) (61 ∷ (62 ∷ spell_t y)) e) (tokens x) (stands_in (spell_t x) x refl)

  stands_right : (s : Sides) → t ≡ spell_s s → All (Stands t) (right_tokens s)
  stands_right (one x) e = tt
  stands_right (two x y) e =
      stands_t t y (right_place x) 1 (spell_t x ++ 61 ∷ (62 ∷ [])) (e ∙ sym (append_assoc (spell_t x) (61 ∷ (62 ∷ [])) (spell_t y)))
      (omega (arith, length-append (spell_t x) (61 ∷ (62 ∷ []))))

  stands_all : (s : Sides) → t ≡ spell_s s → All (Stands t) (all_tokens s)
  stands_all s e = all_append (Stands t) (left_tokens s) (right_tokens s) (stands_left s e) (stands_right s e)

  pub stands_for : (o : Reason) (s : Sides) → t ≡ spell_s s → All (Stands t) (tokens_for o s)
  stands_for long s e = tt
  stands_for grammar s e = tt
  stands_for fields s e = stands_all s e
  stands_for terms s e = stands_all s e
  stands_for limits s e = stands_all s e
  stands_for linear s e = stands_left s e
  stands_for variable s e = tt
  stands_for unknown s e = stands_right s e

-- a term that is refused stands in the text at its place
pub bad_stands : (o : Reason) (t : List ℕ) (p : ℕ) (f : FirstIn o t p) → Stands t f.2.0
bad_stands o t p f =
    let s = f.0 in
    let g = f.2.1 in
    pick (Stands t) (tokens_for o s) g.0 g.1 f.2.0 (stands_for t o s f.1.1) g.2

-- ---- no place is beyond the text, or beyond 4,096

bad_in : (o : Reason) (t : List ℕ) (p : ℕ) → FirstIn o t p → p ≤ length t
bad_in o t p f =
    let h = bad_stands o t p f in
    omega (arith, ap length h.there, length-append h.before (spell f.2.0.raw ++ h.after), h.from, f.2.2)

place_in : (t : List ℕ) (o : Reason) (p : ℕ) → RefusesRule t o p → p ≤ length t
place_in t long p h = omega (arith, h.0, h.1)
place_in t grammar p h = stops_in RuleGrammar t p h
place_in t fields p h = bad_in fields t p h
place_in t terms p h = bad_in terms t p h
place_in t limits p h = bad_in limits t p h
place_in t linear p h = bad_in linear t p h
place_in t variable p h = bad_in variable t p h
place_in t unknown p h = bad_in unknown t p h

reason_in : (t : List ℕ) (os : List Reason) (o : Reason) (p : ℕ) → FirstReason (RefusesRule t) os o p → p ≤ length t
reason_in t [] o p h = absurd h
reason_in t (v ∷ os) o p (inl h) = place_in t v p h.1
reason_in t (v ∷ os) o p (inr h) = reason_in t os o p h.1

pub rule_place : (t : List ℕ) (o : Reason) (p : ℕ) → read_rule t ≡ refused o p → (p ≤ length t) × (p ≤ most_rule_bytes)
rule_place t o p e =
    let h = (read_first t o p).0 e in
    let l = reason_in t order o p h in
    (l, go h l)
  where
    go : FirstReason (RefusesRule t) order o p → p ≤ length t → p ≤ most_rule_bytes
    go (inl h) l = omega (arith, h.1.1)
    go (inr h) l = short (dec_lt most_rule_bytes (length t))
      where
        short : Dec (most_rule_bytes < length t) → p ≤ most_rule_bytes
        short (yes k) = absurd (h.0 most_rule_bytes (k, refl))
        short (no k) = omega arith

-- ---- the first of two lists is in the first of them, or there is none there and it is in the second

module _ {A : Type 0} (P : List A → A → Type 0) where
  pub first_append : (xs ys before : List A) (m : A) → FirstOf P before (xs ++ ys) m → FirstOf P before xs m ⊎ FirstOf P (before ++ xs) ys m
  first_append [] ys before m f = inr (subst (λ (b : List A). FirstOf P b ys m) (sym (append-nil before)) f)
  first_append (x ∷ xs) ys before m (us, vs, e, p, n) = go us e p n (λ f. first_append xs ys (before ++ x ∷ []) m f)
    where
      on : FirstOf P (before ++ x ∷ []) xs m ⊎ FirstOf P ((before ++ x ∷ []) ++ xs) ys m → (P before x → ⊥)
          → FirstOf P before (x ∷ xs) m ⊎ FirstOf P (before ++ x ∷ xs) ys m
      on (inl f) k =
          inl (x ∷ f.0, f.1, ap (λ (l : List A). x ∷ l) f.2, subst (λ (l : List A). P l m) (append_assoc before (x ∷ []) f.0) f.3, (k, f.4))
      on (inr f) k = inr (subst (λ (b : List A). FirstOf P b ys m) (append_assoc before (x ∷ []) xs) f)

      go : (us : List A) → x ∷ (xs ++ ys) ≡ us ++ m ∷ vs → P (before ++ us) m → NoneOf P before us
          → (FirstOf P (before ++ x ∷ []) (xs ++ ys) m → FirstOf P (before ++ x ∷ []) xs m ⊎ FirstOf P ((before ++ x ∷ []) ++ xs) ys m)
          → FirstOf P before (x ∷ xs) m ⊎ FirstOf P (before ++ x ∷ xs) ys m
      go [] e p n rec = inl ([], xs, ap (λ (z : A). z ∷ xs) (head-eq_of_cons-eq e), p, tt)
      go (u ∷ us) e p n rec =
          let same : u ≡ x = sym (head-eq_of_cons-eq e) in
          on
          (rec (
            us,
            vs,
            tail-eq_of_cons-eq e,
            subst (λ (l : List A). P l m) (ap (λ (z : A). before ++ z ∷ us) same ∙ sym (append_assoc before (x ∷ []) us)) p,
            subst (λ (z : A). NoneOf P (before ++ z ∷ []) us) same n.1,
          ))
          (subst (λ (z : A). P before z → ⊥) same n.0)

-- ---- A FIFTH FIELD, of either side, at its first term; A SEVENTEENTH TERM

steps_left : (s : Sides) → SidesOk s → Steps 0 0 (left_tokens s)
steps_left (one x) h = steps_t x 0 0 0 h.1
steps_left (two x y) h = steps_t x 0 0 0 h.0.1

steps_right : (s : Sides) → SidesOk s → Steps 0 0 (right_tokens s)
steps_right (one x) h = tt
steps_right (two x y) h = steps_t y (right_place x) 0 0 h.1.1

-- the first of a side's tokens: of the left side's, or of the right side's behind those
module _ (s : Sides) (ok : SidesOk s) (m : Token) where
  pub first_fifth : FirstOf (λ b k. FifthField k) [] (all_tokens s) m → (m.in_field ≡ 5) × (m.index ≡ 1)
  first_fifth f = on (first_append P (left_tokens s) (right_tokens s) [] m f)
    where
      P : List Token → Token → Type 0
      P b k = FifthField k

      side : (before ms : List Token) → Steps 0 0 ms → FirstOf P before ms m → (m.in_field ≡ 5) × (m.index ≡ 1)
      side before ms k g = five g.0 g.1 before 0 0 m (omega arith) (subst (Steps 0 0) g.2 k) g.4 g.3

      on : FirstOf P [] (left_tokens s) m ⊎ FirstOf P (left_tokens s) (right_tokens s) m → (m.in_field ≡ 5) × (m.index ≡ 1)
      on (inl g) = side [] (left_tokens s) (steps_left s ok) g
      on (inr g) = side (left_tokens s) (right_tokens s) (steps_right s ok) g

  pub first_past : FirstOf (λ b k. TooMany most_terms k) [] (all_tokens s) m → m.index ≡ suc most_terms
  first_past f = on (first_append P (left_tokens s) (right_tokens s) [] m f)
    where
      P : List Token → Token → Type 0
      P b k = TooMany most_terms k

      side : (before ms : List Token) → Steps 0 0 ms → FirstOf P before ms m → m.index ≡ suc most_terms
      side before ms k g = past 16 g.0 g.1 before 0 0 m (omega arith) (subst (Steps 0 0) g.2 k) g.4 g.3

      on : FirstOf P [] (left_tokens s) m ⊎ FirstOf P (left_tokens s) (right_tokens s) m → m.index ≡ suc most_terms
      on (inl g) = side [] (left_tokens s) (steps_left s ok) g
      on (inr g) = side (left_tokens s) (right_tokens s) (steps_right s ok) g

pub fifth_field : (t : List ℕ) (p : ℕ) → FirstIn fields t p → (m : Token) × (p ≡ m.place) × (m.in_field ≡ 5) × (m.index ≡ 1)
fifth_field t p f = let r = first_fifth f.0 f.1.0 f.2.0 f.2.1 in (f.2.0, f.2.2, r.0, r.1)

pub term_past : (t : List ℕ) (p : ℕ) → FirstIn terms t p → (m : Token) × (p ≡ m.place) × (m.index ≡ suc most_terms)
term_past t p f = (f.2.0, f.2.2, first_past f.0 f.1.0 f.2.0 f.2.1)

-- ---- 10 IS A RIGHT SIDE'S VARIABLE that the left lacks, by letter and number, at its first byte

pub unknown_is : (t : List ℕ) (p : ℕ) → FirstIn unknown t p
    → (x y : List (List Raw)) × SaysRule t (two x y) × (k : Kind) × (ds pre post : List ℕ) × (t ≡ pre ++ letter k ∷ (ds ++ post)) × (length pre ≡ p)
    × (right_place x ≤ p) × (Has k (value ds) (fields_of x) → ⊥)
unknown_is t p (one x, h, l) = absurd (nothing l.1.0 l.1.2)
  where
    nothing : (us : List Token) → [] ≡ us ++ l.0 ∷ l.1.1 → ⊥
    nothing [] e = nil≢cons e
    nothing (u ∷ us) e = nil≢cons e
unknown_is t p (two x y, h, l) = go m.raw refl l.1.3
  where
    m : Token
    m = l.0

    stood : Stands t m
    stood = pick (Stands t) (right_tokens (two x y)) l.1.0 l.1.1 m (stands_right t (two x y) h.1) l.1.2

    behind : right_place x ≤ m.place
    behind =
        let q = right_place x in
        pick (From q) (right_tokens (two x y)) l.1.0 l.1.1 m (from_t y q q 1 (omega arith)) l.1.2

    go : (r : Raw) → m.raw ≡ r → Lacks (fields_of x) r
        → (x y : List (List Raw)) × SaysRule t (two x y) × (k : Kind) × (ds pre post : List ℕ) × (t ≡ pre ++ letter k ∷ (ds ++ post)) × (length pre ≡ p)
        × (right_place x ≤ p) × (Has k (value ds) (fields_of x) → ⊥)
    go (raw_con r) e b = absurd b
    go (raw_var k ds) e b =
        let place = l.2 in
        let here = stood.there ∙ ap (λ (r : Raw). stood.before ++ (spell r ++ stood.after)) e in
        (x, y, h, k, ds, stood.before, stood.after, here, stood.from ∙ sym place, omega (arith, behind), b)
    go raw_empty e b = absurd b

-- ---- the numbers of each token are those of its term in its side

both_all : {A : Type 0} (P Q R : A → Type 0) → ((a : A) → P a → Q a → R a) → (xs : List A) → All P xs → All Q xs → All R xs
both_all P Q R f [] p q = tt
both_all P Q R f (x ∷ xs) p q = (f x p.0 q.0, both_all P Q R f xs p.1 q.1)

numbered_left : (s : Sides) → All (NumberedIn s) (left_tokens s)
numbered_left (one x) = numbered_t x x [] 0 0 refl refl
numbered_left (two x y) =
    let q = right_place x in
    both_all (Below q) (Numbered x) (NumberedIn (two x y)) (λ m b n. inl (b, n)) (tokens x)
    (below_t x 0 q 1 (omega arith)) (numbered_t x x [] 0 0 refl refl)

numbered_right : (s : Sides) → All (NumberedIn s) (right_tokens s)
numbered_right (one x) = tt
numbered_right (two x y) =
    let q = right_place x in
    both_all (From q) (Numbered y) (NumberedIn (two x y)) (λ m b n. inr (b, n)) (tokens_t q 1 y)
    (from_t y q q 1 (omega arith)) (numbered_t y y [] q 0 refl refl)

numbered_all : (s : Sides) → All (NumberedIn s) (all_tokens s)
numbered_all s = all_append (NumberedIn s) (left_tokens s) (right_tokens s) (numbered_left s) (numbered_right s)

numbered_for : (o : Reason) (s : Sides) → All (NumberedIn s) (tokens_for o s)
numbered_for long s = tt
numbered_for grammar s = tt
numbered_for fields s = numbered_all s
numbered_for terms s = numbered_all s
numbered_for limits s = numbered_all s
numbered_for linear s = numbered_left s
numbered_for variable s = tt
numbered_for unknown s = numbered_right s

-- ---- WHAT STANDS AT THE PLACE of a refusal from 3 to 6, or of 10

lacking_is : (l : OurFields) (r : Raw) → Lacks l r → (k : Kind) × (ds : List ℕ) × (r ≡ raw_var k ds) × (Has k (value ds) l → ⊥)
lacking_is l (raw_con r) h = absurd h
lacking_is l (raw_var k ds) h = (k, ds, refl, h)
lacking_is l raw_empty h = absurd h

stated_in : (o : Reason) (s : Sides) → SidesOk s → (m : Token) → (g : FirstOf (BadIn o s) [] (tokens_for o s) m) → StatedIn o s g.0 m
stated_in long s ok m g = g.3
stated_in grammar s ok m g = g.3
stated_in fields s ok m g = first_fifth s ok m g
stated_in terms s ok m g = first_past s ok m g
stated_in limits s ok m g = g.3
stated_in linear s ok m g = g.3
stated_in variable s ok m g = g.3
stated_in unknown s ok m g = lacking_is (fields_of (left_side s)) m.raw g.3

pub first_in_lem : (o : Reason) (t : List ℕ) (p : ℕ) → FirstIn o t p ↔ FirstBadTerm o t p
first_in_lem o t p = (to, λ h. (h.said, h.says, (h.token, (h.earlier, h.later, h.split, h.bad, h.none_earlier), h.place)))
  where
    to : FirstIn o t p → FirstBadTerm o t p
    to f =
        let s = f.0 in
        let m = f.2.0 in
        let g = f.2.1 in
        record {
          said = s;
          says = f.1;
          token = m;
          earlier = g.0;
          later = g.1;
          split = g.2;
          bad = g.3;
          none_earlier = g.4;
          place = f.2.2;
          stands = bad_stands o t p f;
          leftmost = leftmost_place o t p f;
          numbered = pick (NumberedIn s) (tokens_for o s) g.0 g.1 m (numbered_for o s) g.2;
          stated = stated_in o s f.1.0 m g;
        }
