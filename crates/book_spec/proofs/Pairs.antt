-- The overlapping pairs of a book, and the text of them.
--     in_pairs, pairs-rising, pairs-distinct   exactly the pairs that overlap, sorted as numbers, each once
--     apart-pairs, pairs-iff                   none exactly where all pairs are apart, so where the order is indifferent
--     text-none, text-rows, text-short         the text: empty where there are no pairs, row by row, and how long at most
use mathlib.Core.Path.{◌≡◌, refl, sym, ◌∙◌, ap, subst}
use mathlib.Core.Logic.{◌↔◌, ◌⊎◌, inl, inr}
use mathlib.Core.List.Memᴰ
use mathlib.Core.List.{List, [], ◌∷◌, ◌++◌, Memᴰ}
use Prim.Native.Nat.{ℕ, zero, suc, ◌+◌, ◌-◌, ◌*◌, ◌≤◌, ◌<◌}
use native.Mathlib.Omega.{arith}
use native.Mathlib.Decide.{dec_lt}
use lib.ListN.{length, length-append, length-map}
use Rattle.base_limits.specs.Limits.{most_rules}
use Rattle.base_lists.specs.Seqs.{All, all_append, all_of, all_map, all_mapped, cons_true}
use Rattle.math_terms.specs.Seqs.{concat_map, Distinct}
use Rattle.math_terms.proofs.Seqs.{concat_map_twice}
use Rattle.text_grammar.specs.Terms.{SlipFields}
use Rattle.text_grammar.specs.Ascii.{ascii, newline}
use Rattle.text_grammar.specs.Numbers.{digits_of}
use Rattle.text_grammar.proofs.Numbers.{digits_most}
use Rattle.overlap_spec.specs.Variables.{numbers_from, keep, Rising}
use Rattle.overlap_spec.specs.Overlaps.{lines_of}
use Rattle.overlap_spec.proofs.Rising.{keep_short, keep_concat, rising_append, rising_distinct, keep_rising, keep_mem, rising_under}
use Rattle.overlap_spec.proofs.Variables.{numbers_rising, numbers_mem}
use Rattle.apply_spec.specs.Rules.{Readable}
use Rattle.book_spec.specs.Picks.{IsOrder}
use Rattle.book_spec.specs.Books.{Book, IsBook, rule_at, pick_by, Apart, pairs_with, pairs_below, Sorted, meet, pairs_of}
use Rattle.book_spec.specs.Books.{pair_text, book_text, longest_pair, longest_book_text}
use Rattle.book_spec.proofs.Picks.{numbers_long}
use Rattle.book_spec.proofs.Books.{none_there, empty_symmetric, rule_counted, order_iff}

-- ---- lists

module _ {X Y : Type 0} (f : X → List Y) where
  in_concat : (y : Y) (l : List X) → Memᴰ y (concat_map f l) ↔ ((x : X) × Memᴰ x l × Memᴰ y (f x))
  in_concat y [] = (λ m. absurd (Memᴰ.not-nil m), λ h. absurd (Memᴰ.not-nil h.1))
  in_concat y (x ∷ l) = go (in_concat y l)
    where
      go : (Memᴰ y (concat_map f l) ↔ ((x : X) × Memᴰ x l × Memᴰ y (f x)))
          → Memᴰ y (concat_map f (x ∷ l)) ↔ ((z : X) × Memᴰ z (x ∷ l) × Memᴰ y (f z))
      go rec = (λ m. to (Memᴰ.append_cases (f x) m), λ h. from h.0 (Memᴰ.cases_cons h.1) h.2)
        where
          to : Memᴰ y (f x) ⊎ Memᴰ y (concat_map f l) → (z : X) × Memᴰ z (x ∷ l) × Memᴰ y (f z)
          to (inl m) = (x, Memᴰ.head refl, m)
          to (inr m) = let r = rec.0 m in (r.0, Memᴰ.tail r.1, r.2)

          from : (z : X) → (z ≡ x) ⊎ Memᴰ z l → Memᴰ y (f z) → Memᴰ y (concat_map f (x ∷ l))
          from z (inl e) m = Memᴰ.append_left (concat_map f l) (subst (λ (u : X). Memᴰ y (f u)) e m)
          from z (inr k) m = Memᴰ.append_right (f x) (rec.1 (z, k, m))

-- ---- all pairs of positions, the lower first

pub in_below : (n i j : ℕ) → Memᴰ (i, j) (pairs_below n) ↔ ((i < j) × (j < n))
in_below n i j = (to, from)
  where
    to : Memᴰ (i, j) (pairs_below n) → (i < j) × (j < n)
    to m =
        let a = (in_concat (pairs_with n) (i, j) (numbers_from n 0)).0 m in
        let b = Memᴰ.of_map (λ (k : ℕ). (a.0, k)) (numbers_from (n - suc a.0) (suc a.0)) a.2 in
        let c = (numbers_mem (n - suc a.0) (suc a.0) b.0).0 b.1 in
        let e : a.0 ≡ i = ap (λ (v : ℕ × ℕ). v.0) b.2 in
        let d : b.0 ≡ j = ap (λ (v : ℕ × ℕ). v.1) b.2 in
        let l = c.0 in
        let u = c.1 in
        (omega arith, omega arith)

    from : (i < j) × (j < n) → Memᴰ (i, j) (pairs_below n)
    from h =
        let l = h.0 in
        let u = h.1 in
        (in_concat (pairs_with n) (i, j) (numbers_from n 0)).1
        (i, (numbers_mem n 0 i).1 (omega arith, omega arith), Memᴰ.map (λ (k : ℕ). (i, k)) ((numbers_mem (n - suc i) (suc i) j).1 (omega arith, omega arith)))

-- all of row a have a for their first
in_row : (n a : ℕ) (P : ℕ × ℕ → Type 0) → ((j : ℕ) → P (a, j)) → All P (pairs_with n a)
in_row n a P h =
    let js = numbers_from (n - suc a) (suc a) in
    all_mapped P (λ (j : ℕ). (a, j)) js (all_of (λ j. P (a, j)) h js)

firsts_above : (n m a b : ℕ) → b < a → All (λ (v : ℕ × ℕ). b < v.0) (concat_map (pairs_with n) (numbers_from m a))
firsts_above n zero a b h = tt
firsts_above n (suc m) a b h =
    all_append (λ (v : ℕ × ℕ). b < v.0) (pairs_with n a) (concat_map (pairs_with n) (numbers_from m (suc a))) (in_row n a (λ v. b < v.0) (λ j. h))
    (firsts_above n m (suc a) b (omega arith))

rows_rising : (n m a : ℕ) → Rising Sorted (concat_map (pairs_with n) (numbers_from m a))
rows_rising n zero a = tt
rows_rising n (suc m) a =
    let rest = concat_map (pairs_with n) (numbers_from m (suc a)) in
    rising_append Sorted (pairs_with n a) rest
    (rising_under ◌<◌ Sorted (λ (j : ℕ). (a, j)) (λ x y l. inr (refl, l)) (numbers_from (n - suc a) (suc a)) (numbers_rising (n - suc a) (suc a)))
    (rows_rising n m (suc a))
    (in_row n a (λ v. All (Sorted v) rest)
    (λ j. all_map (λ (v : ℕ × ℕ). a < v.0) (Sorted (a, j)) (λ v l. inl l) rest (firsts_above n m (suc a) a (omega arith))))

-- how many there are: below m, as many as m - 1, m - 2, .. and 0 together
abbrev triangle : ℕ → ℕ
triangle zero = 0
triangle (suc m) = m + triangle m

rows_count : (n m a : ℕ) → a + m ≡ n → length (concat_map (pairs_with n) (numbers_from m a)) ≡ triangle m
rows_count n zero a e = refl
rows_count n (suc m) a e =
    let row = length-map {B = ℕ × ℕ} (numbers_from (n - suc a) (suc a)) (λ j. (a, j)) in
    length-append (pairs_with n a) (concat_map (pairs_with n) (numbers_from m (suc a)))
    ∙ omega (arith, row, numbers_long (n - suc a) (suc a), rows_count n m (suc a) (omega arith))

triangle_most : (m k : ℕ) → m ≤ k → triangle m ≤ triangle k
triangle_most zero k h = omega arith
triangle_most (suc m) zero h = absurd (omega arith)
triangle_most (suc m) (suc k) h = omega (arith, triangle_most m k (omega arith))

below_count : (n : ℕ) → n ≤ most_rules → length (pairs_below n) ≤ triangle most_rules
below_count n h = omega (arith, triangle_most n most_rules h, rows_count n n 0 (omega arith))

-- ---- the overlapping pairs

module _ (B : Book) where
  -- exactly the pairs of positions with an entry, the lower first
  pub in_pairs : (i j : ℕ) → Memᴰ (i, j) (pairs_of B) ↔ ((i < j) × (j < length B) × (lines_of (rule_at B i) (rule_at B j) ≡ [] → ⊥))
  in_pairs i j =
      let k = keep_mem (meet B) (i, j) (pairs_below (length B)) in
      let b = in_below (length B) i j in
      let n = cons_true (lines_of (rule_at B i) (rule_at B j)) in
      (λ m. let h = k.0 m in let c = b.0 h.0 in (c.0, c.1, n.0 h.1), λ h. k.1 (b.1 (h.0, h.1), n.1 h.2))

  pub pairs_rising : Rising Sorted (pairs_of B)
  pairs_rising = keep_rising Sorted (meet B) (pairs_below (length B)) (rows_rising (length B) (length B) 0)

  -- each once
  pub pairs_distinct : Distinct (pairs_of B)
  pairs_distinct = rising_distinct Sorted itself (pairs_of B) pairs_rising
    where
      itself : (v : ℕ × ℕ) → Sorted v v → ⊥
      itself v (inl h) = omega arith
      itself v (inr h) = let l = h.1 in omega arith

  module _ (book : IsBook B) where
    -- NO PAIR exactly where all pairs of different positions have empty overlap lists
    pub apart_pairs : (pairs_of B ≡ []) ↔ Apart B
    apart_pairs = (to, from)
      where
        lower : pairs_of B ≡ [] → (i j : ℕ) → i < j → j < length B → lines_of (rule_at B i) (rule_at B j) ≡ []
        lower e i j l u = none_there (lines_of (rule_at B i) (rule_at B j))
            (λ n. Memᴰ.not-nil (subst (λ (k : List (ℕ × ℕ)). Memᴰ (i, j) k) e ((in_pairs i j).1 (l, u, n))))

        to : pairs_of B ≡ [] → Apart B
        to e i j li lj d = go (dec_lt i j)
          where
            go : Dec (i < j) → lines_of (rule_at B i) (rule_at B j) ≡ []
            go (yes l) = lower e i j l lj
            go (no n) = (empty_symmetric (rule_at B j) (rule_at B i) (rule_counted B book j) (rule_counted B book i)).0 (lower e j i (omega (arith, n, d)) li)

        from : Apart B → pairs_of B ≡ []
        from a = go (pairs_of B) refl
          where
            go : (ps : List (ℕ × ℕ)) → pairs_of B ≡ ps → ps ≡ []
            go [] q = refl
            go (v ∷ ps) q =
                let m = (in_pairs v.0 v.1).0 (subst (λ (k : List (ℕ × ℕ)). Memᴰ v k) (sym q) (Memᴰ.head refl)) in
                let l = m.0 in
                let u = m.1 in
                absurd (m.2 (a v.0 v.1 (omega arith) m.1 (λ e. omega arith)))

    -- THE ANSWER: no pair exactly when the order in the book is indifferent for all slips that can be read
    pub pairs_iff : (pairs_of B ≡ [])
        ↔ ((p q : List ℕ) → IsOrder (length B) p → IsOrder (length B) q → (w : SlipFields) → Readable w → pick_by B p w ≡ pick_by B q w)
    pairs_iff = let o = order_iff B book in (λ e. o.0 (apart_pairs.0 e), λ h. apart_pairs.1 (o.1 h))

-- ---- THE TEXT

pair_length : (v : ℕ × ℕ) → length (pair_text v) ≡ length (digits_of (suc v.0)) + length (digits_of (suc v.1)) + 2
pair_length v =
    let a = digits_of (suc v.0) in
    let b = digits_of (suc v.1) in
    length-append (a ++ ascii " " ++ b) newline ∙ omega (arith, length-append (a ++ ascii " ") b, length-append a (ascii " "))

-- positions below 16 are shown as numbers of two digits at most
pub pair_short : (v : ℕ × ℕ) → v.0 < most_rules → v.1 < most_rules → length (pair_text v) ≤ longest_pair
pair_short v a b = omega (arith, pair_length v, digits_most 1 (suc v.0) (omega arith), digits_most 1 (suc v.1) (omega arith))

pairs_short : (ps : List (ℕ × ℕ)) → ((v : ℕ × ℕ) → Memᴰ v ps → length (pair_text v) ≤ longest_pair)
    → length (concat_map pair_text ps) ≤ length ps * longest_pair
pairs_short [] h = omega arith
pairs_short (v ∷ ps) h =
    omega (arith, length-append (pair_text v) (concat_map pair_text ps), h v (Memᴰ.head refl), pairs_short ps (λ u m. h u (Memᴰ.tail m)))

module _ (B : Book) where
  -- NOTHING IS PRINTED exactly where no pair overlaps
  pub text_none : (book_text B ≡ []) ↔ (pairs_of B ≡ [])
  text_none = (λ e. go (pairs_of B) e, λ e. ap (concat_map pair_text) e)
    where
      go : (ps : List (ℕ × ℕ)) → concat_map pair_text ps ≡ [] → ps ≡ []
      go [] e = refl
      go (v ∷ ps) e = absurd (omega (arith, ap length e, length-append (pair_text v) (concat_map pair_text ps), pair_length v))

  -- the rows one behind the other, each with the pairs of one position
  pub text_rows : book_text B
      ≡ concat_map (λ i. concat_map pair_text (keep (meet B) (pairs_with (length B) i))) (numbers_from (length B) 0)
  text_rows =
      let n = length B in
      ap (concat_map pair_text) (keep_concat (meet B) (pairs_with n) (numbers_from n 0))
      ∙ concat_map_twice pair_text (λ i. keep (meet B) (pairs_with n i)) (numbers_from n 0)

  pub text_short : length B ≤ most_rules → length (book_text B) ≤ longest_book_text
  text_short h =
      omega (arith, pairs_short (pairs_of B) each, keep_short (meet B) (pairs_below (length B)), below_count (length B) h)
    where
      each : (v : ℕ × ℕ) → Memᴰ v (pairs_of B) → length (pair_text v) ≤ longest_pair
      each v m = let b = (in_pairs B v.0 v.1).0 m in let l = b.0 in let u = b.1 in pair_short v (omega arith) (omega arith)
