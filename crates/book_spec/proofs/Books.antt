-- WHETHER THE ORDER IN A BOOK MATTERS: exactly where some pair of different positions overlaps.
--     gives-iff         a rule gives a slip: it has fields and matches it
--     overlap-iff       two rules overlap: some slip that can be read is given by both
--     empty-symmetric   so whether two rules overlap does not depend on which stands left
--     order-free        no pair overlaps: every two orders pick the same for every slip
--     order-matters     a pair overlaps: a slip that can be read, and two orders that pick the one and the other
--     order-iff         the two in one sentence
--     pick_is, pick-matches, pick-none   the pick is the first that matches, or none does
--     old-position    a pick in the reordered book, by its old position
use mathlib.Core.Path.{◌≡◌, refl, sym, ◌∙◌, ap, subst}
use mathlib.Core.Logic.{◌↔◌, inl, inr}
use mathlib.Core.Bool.{Bool, true, false, cond, false≢true}
use mathlib.Core.Option.{Option, none, some, map, IsSome, none-ne-some, some-injective}
use mathlib.Core.List.{List, [], ◌∷◌, Memᴰ, cons≢nil}
use Prim.Native.Nat.{ℕ, zero, suc, ◌<◌}
use native.Mathlib.Omega.{arith}
use lib.ListN.{length, get_or, get_elem?}
use Rattle.base_lists.specs.Seqs.{IsCons}
use Rattle.base_lists.specs.Truths.{false_is}
use Rattle.text_grammar.specs.Terms.{OurFields, SlipFields}
use Rattle.text_grammar.specs.Limits.{IsLeft}
use Rattle.text_grammar.specs.constants.Matching.{Matches, matcher}
use Rattle.text_grammar.proofs.constants.Matching.{match_iff}
use Rattle.overlap_spec.specs.Lines.{Line}
use Rattle.overlap_spec.specs.Variables.{numbers_from}
use Rattle.overlap_spec.specs.Overlaps.{lines_of}
use Rattle.overlap_spec.proofs.Exact.{no_right, lines_exact}
use Rattle.overlap_spec.proofs.Variables.{numbers_mem}
use Rattle.apply_spec.specs.Rules.{Readable}
use Rattle.book_spec.specs.Picks.{pick_in, IsOrder}
use Rattle.book_spec.specs.Books.{Book, Counted, IsBook, rule_at, is_some, gives, pick_by, reordered, pick, Apart}
use Rattle.book_spec.proofs.Picks.{pick_lowest, none_passes, pick_behind, orders_free, orders_matter}
use Rattle.book_spec.proofs.Witness.{line_slip}

-- a list is empty or not
pub none_there : {X : Type 0} (l : List X) → ((l ≡ [] → ⊥) → ⊥) → l ≡ []
none_there [] h = refl
none_there (x ∷ l) h = absurd (h (λ e. cons≢nil e))

-- ---- what it says that a rule gives a slip

is_some_lem : {X : Type 0} (o : Option X) → (is_some o ≡ true) ↔ IsSome o
is_some_lem none = (λ e. false≢true e, λ h. absurd h)
is_some_lem (some x) = (λ e. tt, λ h. refl)

pub gives_iff : (r : OurFields) → Counted r → (w : SlipFields) → (gives r w ≡ true) ↔ (IsCons r × Matches r w)
gives_iff [] c w = (λ e. absurd (false≢true e), λ h. absurd h.0)
gives_iff (f ∷ r) (inl n) w = absurd n
gives_iff (f ∷ r) (inr is) w =
    let m = match_iff (f ∷ r) is.1 w in
    (λ e. (tt, m.1 ((is_some_lem (matcher (f ∷ r) w)).0 e)), λ h. (is_some_lem (matcher (f ∷ r) w)).1 (m.0 h.1))

-- a counted rule that has fields is one that reading returns
left_of_lem : (r : OurFields) → Counted r → IsCons r → IsLeft r
left_of_lem [] c h = absurd h
left_of_lem (f ∷ r) (inl n) h = absurd n
left_of_lem (f ∷ r) (inr is) h = is

-- ---- overlaps and shared slips

left_has : (r s : OurFields) → (lines_of r s ≡ [] → ⊥) → IsCons r
left_has [] s n = absurd (n refl)
left_has (f ∷ r) s n = tt

right_has : (r s : OurFields) → (lines_of r s ≡ [] → ⊥) → IsCons s
right_has [] s n = absurd (n refl)
right_has (f ∷ r) [] n = absurd (n (no_right (f ∷ r)))
right_has (f ∷ r) (g ∷ s) n = tt

module _ (r s : OurFields) (c : Counted r) (d : Counted s) where
  -- a slip that both give is a slip of an entry, so there is one
  pub slip_overlaps : (w : SlipFields) → gives r w ≡ true → gives s w ≡ true → lines_of r s ≡ [] → ⊥
  slip_overlaps w p q n =
      let a = (gives_iff r c w).0 p in
      let b = (gives_iff s d w).0 q in
      let e = (lines_exact r s (left_of_lem r c a.0) (left_of_lem s d b.0) w).0 (a.1, b.1) in
      none-ne-some e.1 (subst (λ (ls : List Line). get_elem? ls e.0 ≡ some e.1) n e.2)

  -- an entry has a slip that can be read, and both give it
  pub overlap_slip : (lines_of r s ≡ [] → ⊥) → (w : SlipFields) × Readable w × (gives r w ≡ true) × (gives s w ≡ true)
  overlap_slip n =
      let is = left_of_lem r c (left_has r s n) in
      let js = left_of_lem s d (right_has r s n) in
      let w = line_slip r s is js first.0 first.1 in
      (w.0, w.1, (gives_iff r c w.0).1 (is.0.0, w.2), (gives_iff s d w.0).1 (js.0.0, w.3))
    where
      first : (l : Line) × Memᴰ l (lines_of r s)
      first = go (lines_of r s) n
        where
          go : (ls : List Line) → (ls ≡ [] → ⊥) → (l : Line) × Memᴰ l ls
          go [] n = absurd (n refl)
          go (l ∷ ls) n = (l, Memᴰ.head refl)

  pub overlap_iff : (lines_of r s ≡ [] → ⊥) ↔ ((w : SlipFields) × Readable w × (gives r w ≡ true) × (gives s w ≡ true))
  overlap_iff = (overlap_slip, λ h. slip_overlaps h.0 h.2 h.3)

empty_turned : (r s : OurFields) → Counted r → Counted s → lines_of r s ≡ [] → lines_of s r ≡ []
empty_turned r s c d n = none_there (lines_of s r) (λ k. let w = overlap_slip s r d c k in slip_overlaps r s c d w.0 w.3 w.2 n)

-- SYMMETRIC: two rules overlap whichever stands left
pub empty_symmetric : (r s : OurFields) → Counted r → Counted s → (lines_of r s ≡ []) ↔ (lines_of s r ≡ [])
empty_symmetric r s c d = (empty_turned r s c d, empty_turned s r d c)

-- ---- books

pub rule_counted : (B : Book) → IsBook B → (i : ℕ) → Counted (rule_at B i)
rule_counted [] h i = inl tt
rule_counted (r ∷ B) h zero = h.0
rule_counted (r ∷ B) h (suc i) = rule_counted B h.1 i

module _ (B : Book) (book : IsBook B) where
  at : (i : ℕ) → Counted (rule_at B i)
  at i = rule_counted B book i

  -- ORDER-FREE: where all pairs of different positions have empty overlap lists, every two orders pick the same for every slip, of any length
  pub order_free : Apart B → (p q : List ℕ) → IsOrder (length B) p → IsOrder (length B) q → (w : SlipFields) → pick_by B p w ≡ pick_by B q w
  order_free apart = orders_free (length B) (λ i w. gives (rule_at B i) w) (λ i j. lines_of (rule_at B i) (rule_at B j) ≡ [] → ⊥)
      (λ i j li lj d m. m (apart i j li lj d)) (λ i j w a b. slip_overlaps (rule_at B i) (rule_at B j) (at i) (at j) w a b)

  -- ORDER MATTERS: where two different positions overlap, a slip that can be read and two orders that pick the one and the other
  pub order_matters : (i j : ℕ) → i < length B → j < length B → (i ≡ j → ⊥) → (lines_of (rule_at B i) (rule_at B j) ≡ [] → ⊥)
      → (w : SlipFields) × Readable w
      × ((p q : List ℕ) × IsOrder (length B) p × IsOrder (length B) q × (pick_by B p w ≡ some i) × (pick_by B q w ≡ some j))
  order_matters i j li lj d n =
      let w = overlap_slip (rule_at B i) (rule_at B j) (at i) (at j) n in
      (w.0, w.1, orders_matter (length B) (λ k v. gives (rule_at B k) v) i j li lj w.0 w.2 w.3)

  -- ONE SENTENCE FOR THE SHOP: the order is indifferent for all slips that can be read exactly when no pair of different positions overlaps
  pub order_iff : Apart B
      ↔ ((p q : List ℕ) → IsOrder (length B) p → IsOrder (length B) q → (w : SlipFields) → Readable w → pick_by B p w ≡ pick_by B q w)
  order_iff = (λ a p q op oq w r. order_free a p q op oq w, λ h i j li lj d. none_there (lines_of (rule_at B i) (rule_at B j)) (λ n. differ h i j li lj d n))
    where
      differ : ((p q : List ℕ) → IsOrder (length B) p → IsOrder (length B) q → (w : SlipFields) → Readable w → pick_by B p w ≡ pick_by B q w)
          → (i j : ℕ) → i < length B → j < length B → (i ≡ j → ⊥) → (lines_of (rule_at B i) (rule_at B j) ≡ [] → ⊥) → ⊥
      differ h i j li lj d n =
          let m = order_matters i j li lj d n in
          let o = m.2 in
          d (some-injective i j (sym o.4 ∙ h o.0 o.1 o.2 o.3 m.0 m.1 ∙ o.5))

-- ---- THE PICK

module _ (B : Book) where
  -- the first in the book that gives the slip
  pub pick_is : (w : SlipFields) (i : ℕ)
      → (pick B w ≡ some i) ↔ ((i < length B) × (gives (rule_at B i) w ≡ true) × ((j : ℕ) → j < i → gives (rule_at B j) w ≡ false))
  pick_is w i =
      let l = pick_lowest (λ k. gives (rule_at B k) w) (length B) 0 i in (
        λ e. let h = l.0 e in let u = h.1 in (omega arith, h.2, λ j k. h.3 j (omega arith) k),
        λ h. let u = h.0 in l.1 (omega arith, omega arith, h.1, λ j z k. h.2 j k),
      )

  -- none where no rule gives it
  pub pick_none : (w : SlipFields) → (pick B w ≡ none) ↔ ((i : ℕ) → i < length B → gives (rule_at B i) w ≡ false)
  pick_none w =
      let n = none_passes (λ k. gives (rule_at B k) w) (numbers_from (length B) 0) in (
        λ e i l. n.0 e i ((numbers_mem (length B) 0 i).1 (omega arith, omega arith)),
        λ h. n.1 (λ i m. let b = (numbers_mem (length B) 0 i).0 m in h i (let u = b.1 in omega arith)),
      )

  module _ (book : IsBook B) where
    gives_not : (w : SlipFields) (j : ℕ) → (gives (rule_at B j) w ≡ false) ↔ (IsCons (rule_at B j) × Matches (rule_at B j) w → ⊥)
    gives_not w j =
        let g = gives_iff (rule_at B j) (rule_counted B book j) w in
        let f = false_is (gives (rule_at B j) w) in
        (λ e m. f.0 e (g.1 m), λ h. f.1 (λ t. h (g.0 t)))

    -- "A slip's rule is the first in the book that matches it"
    pub pick_matches : (w : SlipFields) (i : ℕ) → (pick B w ≡ some i)
        ↔ ((i < length B) × (IsCons (rule_at B i) × Matches (rule_at B i) w) × ((j : ℕ) → j < i → IsCons (rule_at B j) × Matches (rule_at B j) w → ⊥))
    pick_matches w i =
        let p = pick_is w i in
        let g = gives_iff (rule_at B i) (rule_counted B book i) w in (
          λ e. let h = p.0 e in (h.0, g.0 h.1, λ j l. (gives_not w j).0 (h.2 j l)),
          λ h. p.1 (h.0, g.1 h.1, λ j l. (gives_not w j).1 (h.2 j l)),
        )

    pub none_matches : (w : SlipFields) → (pick B w ≡ none) ↔ ((i : ℕ) → i < length B → IsCons (rule_at B i) × Matches (rule_at B i) w → ⊥)
    none_matches w = let p = pick_none w in (λ e i l. (gives_not w i).0 (p.0 e i l), λ h. p.1 (λ i l. (gives_not w i).1 (h i l)))

-- ---- A REORDERED BOOK: what is picked in it, by the position that it had before

-- the rest of an order, by the positions in the whole
behind : (i : ℕ) (p : List ℕ) (o : Option ℕ) → map (λ k. get_or (i ∷ p) k 0) (map suc o) ≡ map (λ k. get_or p k 0) o
behind i p none = refl
behind i p (some k) = refl

pub old_position : (B : Book) (p : List ℕ) (w : SlipFields) → pick_by B p w ≡ map (λ k. get_or p k 0) (pick (reordered B p) w)
old_position B [] w = refl
old_position B (i ∷ p) w = go (gives (rule_at B i) w) (old_position B p w)
  where
    rest : Option ℕ
    rest = pick_in (λ k. gives (rule_at (reordered B (i ∷ p)) k) w) (numbers_from (length (reordered B p)) 1)

    go : (b : Bool) → pick_by B p w ≡ map (λ k. get_or p k 0) (pick (reordered B p) w)
        → cond b (some i) (pick_by B p w) ≡ map (λ k. get_or (i ∷ p) k 0) (cond b (some 0) rest)
    go true rec = refl
    go false rec =
        rec
        ∙ sym (behind i p (pick (reordered B p) w))
        ∙ ap (map (λ k. get_or (i ∷ p) k 0))
        (sym (pick_behind (λ k. gives (rule_at (reordered B (i ∷ p)) k) w) (length (reordered B p)) 0))
