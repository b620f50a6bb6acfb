-- READING A BOOK: what it answers is what the relation of specs/Reading says.
--     stops-iff, never-zero   at which line it stops, and why; lines are numbered from 1
--     reads-iff               or all lines are accepted, and they are not too many
--     book-read, book-long    the rules read are a book of at most 16, with a rule for each line
use mathlib.Core.Path.{◌≡◌, refl, sym, ◌∙◌, ap, ap₂, subst}
use mathlib.Core.Logic.{◌↔◌, inl, inr}
use mathlib.Core.Bool.{Bool, cond}
use mathlib.Core.Option.{some, none-ne-some, some-injective}
use mathlib.Core.List.{List, [], ◌∷◌, map, nil≢cons, cons≢nil, head-eq_of_cons-eq, tail-eq_of_cons-eq}
use Prim.Native.Nat.{ℕ, zero, suc, ◌+◌, ◌≤◌, ◌<◌}
use native.Mathlib.Omega.{arith}
use native.Mathlib.Decide.{dec_lt}
use lib.ListN.{length, get_elem?, take, length-map}
use borrow.Author.Tests.{lt-ltb, le-ltb}
use Rattle.base_limits.specs.Limits.{most_rules}
use Rattle.text_grammar.specs.Read.{OutcomeOf, refused, accepted}
use Rattle.text_grammar.specs.rules.Read.{OurRule, read_rule}
use Rattle.text_grammar.proofs.rules.Accepted.{rule_read_lem}
use Rattle.book_spec.specs.Books.{IsBook}
use Rattle.book_spec.specs.Reading.{BookRead, stopped, rules, book_full, with_rule, line_read, read_from, read_book, book_of, LineRefused, StopsBehind}

-- ---- the answers, and one line

stopped≢rules : {k n p : ℕ} {xs : List OurRule} → stopped k n p ≡ rules xs → ⊥
stopped≢rules e = let o : ◌≡◌ {A = ℕ} 0 1 = cc in omega arith

stopped_once : {k n p l m q : ℕ} → stopped k n p ≡ stopped l m q → (k ≡ l) × (n ≡ m) × (p ≡ q)
stopped_once e = (cc, cc, cc)

rules_once : {xs ys : List OurRule} → rules xs ≡ rules ys → xs ≡ ys
rules_once e = cc

with_stopped : (x : OurRule) (b : BookRead) (k n p : ℕ) → with_rule x b ≡ stopped k n p → b ≡ stopped k n p
with_stopped x (stopped l m q) k n p e = e
with_stopped x (rules xs) k n p e = absurd (stopped≢rules (sym e))

with_rules : (x : OurRule) (b : BookRead) (xs : List OurRule) → with_rule x b ≡ rules xs → (ys : List OurRule) × (b ≡ rules ys) × (x ∷ ys ≡ xs)
with_rules x (stopped l m q) xs e = absurd (stopped≢rules e)
with_rules x (rules ys) xs e = (ys, refl, rules_once e)

module _ (k : ℕ) (t : List ℕ) (ts : List (List ℕ)) where
  -- a line that there is room for, and one that there is none for
  pub in_room : k < most_rules → read_from k (t ∷ ts) ≡ line_read (suc k) (read_rule t) (read_from (suc k) ts)
  in_room h = ap (λ (b : Bool). cond b (line_read (suc k) (read_rule t) (read_from (suc k) ts)) (stopped (suc k) book_full 0)) (lt-ltb k most_rules h)

  pub no_room : most_rules ≤ k → read_from k (t ∷ ts) ≡ stopped (suc k) book_full 0
  no_room h = ap (λ (b : Bool). cond b (line_read (suc k) (read_rule t) (read_from (suc k) ts)) (stopped (suc k) book_full 0)) (le-ltb k most_rules h)

  pub one_accepted : (x : OurRule) → k < most_rules → read_rule t ≡ accepted x → read_from k (t ∷ ts) ≡ with_rule x (read_from (suc k) ts)
  one_accepted x h e = in_room h ∙ ap (λ (o : OutcomeOf OurRule). line_read (suc k) o (read_from (suc k) ts)) e

-- ---- where it stops: behind i more lines than the k before them

abbrev Accepted : List (List ℕ) → Type 0
Accepted ts = (xs : List OurRule) × (map read_rule ts ≡ map accepted xs)

abbrev RefusedAt : ℕ → List (List ℕ) → ℕ → ℕ → ℕ → Type 0
RefusedAt k ts i n p = (t : List ℕ) × (get_elem? ts i ≡ some t) × LineRefused (k + i) t n p

abbrev Behind : ℕ → List (List ℕ) → ℕ → ℕ → ℕ → Type 0
Behind k ts j n p = (i : ℕ) × (j ≡ suc (k + i)) × Accepted (take i ts) × RefusedAt k ts i n p

stops_to : (ts : List (List ℕ)) (k : ℕ) → k ≤ most_rules → (j n p : ℕ) → read_from k ts ≡ stopped j n p → Behind k ts j n p
stops_to [] k h j n p e = absurd (stopped≢rules (sym e))
stops_to (t ∷ ts) k h j n p e = go (dec_lt k most_rules) (λ l. stops_to ts (suc k) (omega arith) j n p)
  where
    line : (o : OutcomeOf OurRule) → read_rule t ≡ o → k < most_rules → (read_from (suc k) ts ≡ stopped j n p → Behind (suc k) ts j n p)
        → line_read (suc k) o (read_from (suc k) ts) ≡ stopped j n p → Behind k (t ∷ ts) j n p
    line (refused r q) s l rec f =
        let a = stopped_once f in
        let place = a.0 in
        (0, omega arith, ([], refl), (t, refl, inl (omega arith, (r, s ∙ ap (refused r) a.2, a.1))))
    line (accepted x) s l rec f =
        let b = rec (with_stopped x (read_from (suc k) ts) j n p f) in
        let i = b.0 in
        let place = b.1 in
        let q : suc k + i ≡ k + suc i = omega arith in (
          suc i,
          omega arith,
          (x ∷ b.2.0, ap₂ (λ (o : OutcomeOf OurRule) (l : List (OutcomeOf OurRule)). o ∷ l) s b.2.1),
          (b.3.0, b.3.1, subst (λ (m : ℕ). LineRefused m b.3.0 n p) q b.3.2),
        )

    go : Dec (k < most_rules) → (k < most_rules → read_from (suc k) ts ≡ stopped j n p → Behind (suc k) ts j n p) → Behind k (t ∷ ts) j n p
    go (yes l) rec = line (read_rule t) refl l (rec l) (sym (in_room k t ts l) ∙ e)
    go (no g) rec =
        let m : most_rules ≤ k = omega (arith, g) in
        let a = stopped_once (sym (no_room k t ts m) ∙ e) in
        let place = a.0 in
        (0, omega arith, ([], refl), (t, refl, inr (omega arith, sym a.1, sym a.2)))

refused_room : (m : ℕ) (t : List ℕ) (n p : ℕ) → LineRefused m t n p → m ≤ most_rules
refused_room m t n p (inl h) = let l = h.0 in omega arith
refused_room m t n p (inr h) = let e = h.0 in omega arith

stops_from : (ts : List (List ℕ)) (k i n p : ℕ) → Accepted (take i ts) → RefusedAt k ts i n p → read_from k ts ≡ stopped (suc (k + i)) n p
stops_from [] k i n p a h = absurd (none-ne-some h.0 h.1)
stops_from (t ∷ ts) k zero n p a h = go h.2
  where
    here : suc k ≡ suc (k + 0)
    here = omega arith

    go : LineRefused (k + 0) h.0 n p → read_from k (t ∷ ts) ≡ stopped (suc (k + 0)) n p
    go (inl (l, (r, s, m))) =
        in_room k t ts (omega arith)
        ∙ ap (λ (o : OutcomeOf OurRule). line_read (suc k) o (read_from (suc k) ts)) (ap read_rule (some-injective t h.0 h.1) ∙ s)
        ∙ ap₂ (λ (j m : ℕ). stopped j m p) here m
    go (inr (e, m, q)) =
        no_room k t ts (omega arith) ∙ ap₂ (λ (j m : ℕ). stopped j m 0) here (sym m) ∙ ap (λ (q : ℕ). stopped (suc (k + 0)) n q) (sym q)
stops_from (t ∷ ts) k (suc i) n p (xs, a) h = go xs a (λ x. stops_from ts (suc k) i n p x)
  where
    same : suc k + i ≡ k + suc i
    same = omega arith

    go : (xs : List OurRule) → map read_rule (t ∷ take i ts) ≡ map accepted xs
        → (Accepted (take i ts) → RefusedAt (suc k) ts i n p → read_from (suc k) ts ≡ stopped (suc (suc k + i)) n p)
        → read_from k (t ∷ ts) ≡ stopped (suc (k + suc i)) n p
    go [] a rec = absurd (cons≢nil a)
    go (x ∷ xs) a rec =
        let room = refused_room (k + suc i) h.0 n p h.2 in
        let behind = rec (xs, tail-eq_of_cons-eq a) (h.0, h.1, subst (λ (m : ℕ). LineRefused m h.0 n p) (sym same) h.2) in
        one_accepted k t ts x (omega arith) (head-eq_of_cons-eq a) ∙ ap (with_rule x) behind ∙ ap (λ (m : ℕ). stopped (suc m) n p) same

module _ (ts : List (List ℕ)) where
  -- IT STOPS at the first refused line, numbered from 1
  pub stops_iff : (k n p : ℕ) → (read_book ts ≡ stopped (suc k) n p) ↔ StopsBehind ts k n p
  stops_iff k n p = (λ e. to (stops_to ts 0 (omega arith) (suc k) n p e), from)
    where
      to : Behind 0 ts (suc k) n p → StopsBehind ts k n p
      to (i, e, a, h) =
          let q : i ≡ k = omega arith in
          let z : 0 + i ≡ i = omega arith in
          subst (λ (m : ℕ). StopsBehind ts m n p) q (a, (h.0, h.1, subst (λ (m : ℕ). LineRefused m h.0 n p) z h.2))

      from : StopsBehind ts k n p → read_book ts ≡ stopped (suc k) n p
      from (a, h) =
          let z : k ≡ 0 + k = omega arith in
          stops_from ts 0 k n p a (h.0, h.1, subst (λ (m : ℕ). LineRefused m h.0 n p) z h.2) ∙ ap (λ (m : ℕ). stopped (suc m) n p) (sym z)

  pub never_zero : (n p : ℕ) → read_book ts ≡ stopped 0 n p → ⊥
  never_zero n p e = let b = stops_to ts 0 (omega arith) 0 n p e in omega (arith, b.1)

-- ---- where it goes through

reads_from : (ts : List (List ℕ)) (k : ℕ) → k ≤ most_rules → (xs : List OurRule)
    → (read_from k ts ≡ rules xs) ↔ ((k + length ts ≤ most_rules) × (map read_rule ts ≡ map accepted xs))
reads_from [] k h xs = (λ e. (omega arith, ap (map accepted) (rules_once e)), λ a. go xs a.1)
  where
    go : (xs : List OurRule) → [] ≡ map accepted xs → rules [] ≡ rules xs
    go [] a = refl
    go (x ∷ xs) a = absurd (nil≢cons a)
reads_from (t ∷ ts) k h xs = (
  λ e. to (dec_lt k most_rules) (λ l. reads_from ts (suc k) (omega arith)) e,
  λ a. from xs a.0 a.1 (λ l. reads_from ts (suc k) (omega arith)),
)
  where
    Rest : Type 0
    Rest = k < most_rules → (ys : List OurRule) → (read_from (suc k) ts ≡ rules ys) ↔ ((suc k + length ts ≤ most_rules) × (map read_rule ts ≡ map accepted ys))

    line : (o : OutcomeOf OurRule) → read_rule t ≡ o → k < most_rules → Rest → line_read (suc k) o (read_from (suc k) ts) ≡ rules xs
        → (k + length (t ∷ ts) ≤ most_rules) × (map read_rule (t ∷ ts) ≡ map accepted xs)
    line (refused r q) s l rec f = absurd (stopped≢rules f)
    line (accepted x) s l rec f =
        let b = with_rules x (read_from (suc k) ts) xs f in
        let r = (rec l b.0).0 b.1 in
        let room = r.0 in
        (omega arith, ap₂ (λ (o : OutcomeOf OurRule) (l : List (OutcomeOf OurRule)). o ∷ l) s r.1 ∙ ap (map accepted) b.2)

    to : Dec (k < most_rules) → Rest → read_from k (t ∷ ts) ≡ rules xs → (k + length (t ∷ ts) ≤ most_rules) × (map read_rule (t ∷ ts) ≡ map accepted xs)
    to (yes l) rec e = line (read_rule t) refl l rec (sym (in_room k t ts l) ∙ e)
    to (no g) rec e = absurd (stopped≢rules (sym (no_room k t ts (omega (arith, g))) ∙ e))

    from : (xs : List OurRule) → k + length (t ∷ ts) ≤ most_rules → map read_rule (t ∷ ts) ≡ map accepted xs → Rest → read_from k (t ∷ ts) ≡ rules xs
    from [] l a rec = absurd (cons≢nil a)
    from (x ∷ xs) l a rec =
        one_accepted k t ts x (omega arith) (head-eq_of_cons-eq a) ∙ ap (with_rule x) ((rec (omega arith) xs).1 (omega arith, tail-eq_of_cons-eq a))

module _ (ts : List (List ℕ)) (xs : List OurRule) where
  -- ALL LINES are accepted, and there are at most 16
  pub reads_iff : (read_book ts ≡ rules xs) ↔ ((length ts ≤ most_rules) × (map read_rule ts ≡ map accepted xs))
  reads_iff =
      let r = reads_from ts 0 (omega arith) xs in
      (λ e. let h = r.0 e in let l = h.0 in (omega arith, h.1), λ h. let l = h.0 in r.1 (omega arith, h.1))

  pub book_long : read_book ts ≡ rules xs → length (book_of xs) ≡ length ts
  book_long e =
      let h = reads_iff.0 e in
      omega (arith, ap length h.1, length-map ts read_rule, length-map xs accepted, length-map xs (λ (x : OurRule). x.0))

  -- a book, each of whose rules is one that reading returns
  pub book_read : read_book ts ≡ rules xs → IsBook (book_of xs) × (length (book_of xs) ≤ most_rules)
  book_read e = let h = reads_iff.0 e in let l = h.0 in (go ts xs h.1, omega (arith, book_long e))
    where
      go : (us : List (List ℕ)) (ys : List OurRule) → map read_rule us ≡ map accepted ys → IsBook (book_of ys)
      go us [] a = tt
      go [] (y ∷ ys) a = absurd (nil≢cons a)
      go (u ∷ us) (y ∷ ys) a = (inr (rule_read_lem u y (head-eq_of_cons-eq a)).0, go us ys (tail-eq_of_cons-eq a))
