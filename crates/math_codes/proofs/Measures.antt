-- No entry has more than 124 items, so the size of a line is the sum; and a bound on any line.
use mathlib.Core.Path.{◌≡◌, refl, sym, ap, ◌∙◌, subst}
use mathlib.Core.Logic.{ite}
use mathlib.Core.Bool.{Bool, true, false, cond}
use mathlib.Core.Option.{Option, none, some}
use mathlib.Core.List.{List, [], ◌∷◌, foldl, Memᴰ}
use Prim.Native.Nat.{ℕ, zero, suc, ◌+◌, ◌-◌, ◌*◌, ◌≤◌, ◌<◌, max}
use native.Mathlib.Nat.{suc-mul, mul-le-mul_right}
use native.Mathlib.Omega.{arith}
use native.Mathlib.Decide.{ℕ_discrete}
use lib.Dec.{ltb}
use borrow.Author.Tests.{lt-ltb}
use lib.ListN.{length, get_or, take, drop, length-append, length-take, length-drop}
use Rattle.base_limits.specs.Limits.{most_fields, most_terms, kind_count, atom_kind_count, entry_terms, numbers_of_side, atom_places, field_places, rule_places}
use Rattle.base_limits.specs.Limits.{pair_places, pair_items, longest_term, entry_places, run_bound, entry_line}
use Rattle.base_lists.specs.Seqs.{All, tabulate, tabulate_long}
use Rattle.math_types.specs.Order.{Full, basic, list}
use Rattle.math_terms.specs.Terms.{Term, con, var}
use Rattle.text_grammar.specs.Letters.{letter_at}
use Rattle.text_grammar.specs.Numbers.{digits_of}
use Rattle.text_grammar.specs.Limits.{IsLeft}
use Rattle.text_grammar.specs.Terms.{OurTerm}
use Rattle.math_overlaps.specs.Candidates.{Cand, exact, long, range, cands}
use Rattle.math_overlaps.specs.Entries.{span}
use Rattle.math_overlaps.proofs.Pairs.{room_of, reach_of, no_long₁, no_long₂}
use Rattle.math_overlaps.proofs.Candidates.{range_length}
use Rattle.math_codes.specs.Tables.{Table}
use Rattle.math_codes.specs.Names.{no_names, name_fields}
use Rattle.math_codes.specs.Lines.{item_text, colons_size, items_size, bars_size, fields_size}
use Rattle.math_codes.specs.Spots.{Spot, shape_from, spot_shape, scan_at, scan_term}
use Rattle.math_codes.specs.Walks.{span_on, item_at, field_items}
use Rattle.math_codes.specs.Whole.{spots_of, items_from, run_in, run_on}
use Rattle.math_codes.specs.Makers.{item_size, sum_of, bound_size, ranked_size, rank_sizes, values_size, size_items, size_line, largest_byte}
use Rattle.math_codes.specs.Index.{slot_at, has_at, value_at, indexed_values, indexed_items, indexed_line}
use Rattle.math_codes.proofs.Spots.{spot_cands_lem}
use Rattle.math_codes.proofs.Makers.{at_most, item_count, names_few, digits_size_lem, item_size_lem, values_size_lem, line_size, zeros}
use Rattle.math_codes.proofs.Whole.{Chosen}

-- ---- how many items

-- the terms of a field
abbrev pub terms_from : {L : Type 0} → ℕ → ℕ → Option L → ℕ
terms_from h t none = h + t
terms_from h t (some l) = suc (h + t)

abbrev pub spot_terms : {L : Type 0} → Spot L → ℕ
spot_terms s = terms_from s.head s.tail s.name

module _ {C K A : Type 0} where
  scan_terms : (b h t : ℕ) (o : Option A) (u : Term C (Full K) A) → spot_terms (scan_at b h t o u) ≡ suc (terms_from h t o)
  scan_terms b h t (some l) u = omega arith
  scan_terms b h t none (con c) = omega arith
  scan_terms b h t none (var (basic k) a) = omega arith
  scan_terms b h t none (var list a) = refl

  scans_terms : (f : List (Term C (Full K) A)) (s : Spot A) → spot_terms (foldl scan_term s f) ≡ spot_terms s + length f
  scans_terms [] s = omega arith
  scans_terms (u ∷ f) s = scans_terms f (scan_term s u) ∙ (let e = scan_terms s.base s.head s.tail s.name u in omega (arith, e))

  pub spots_few : (w b : ℕ) (r : List (List (Term C (Full K) A))) → All (λ f. length f ≤ most_terms) r → All (λ s. spot_terms s ≤ most_terms) (spots_of w b r)
  spots_few w b [] h = tt
  spots_few w b (f ∷ r) h = (
    let e = scans_terms f (record { base = b; head = 0; tail = 0; name = none }) in omega (arith, e, h.0),
    spots_few w (b + w) r
        h.1,
  )

  spots_long : (w b : ℕ) (r : List (List (Term C (Full K) A))) → length (spots_of w b r) ≡ length r
  spots_long w b [] = refl
  spots_long w b (f ∷ r) = ap suc (spots_long w (b + w) r)

module _ {L M : Type 0} where
  -- a candidate of two fields of at most 16 terms
  few_from : (b h t : ℕ) (o : Option L) (b' h' t' : ℕ) (o' : Option M) → terms_from h t o ≤ most_terms → terms_from h' t' o' ≤ most_terms
      → (c : Cand) → Memᴰ c (cands (shape_from b h t o) (shape_from b' h' t' o')) → span (shape_from b h t o) (shape_from b' h' t' o') c ≤ 30
  few_from b h t none b' h' t' o' k k' c i =
      let r = (room_of {L = L} {M = M} (shape_from b h t none) (shape_from b' h' t' o') c i).0 in omega (arith, r, range_length b h)
  few_from b h t (some l) b' h' t' none k k' c i =
      let r = (room_of {L = L} {M = M} (shape_from b h t (some l)) (shape_from b' h' t' none) c i).1 in omega (arith, r, range_length b' h')
  few_from b h t (some l) b' h' t' (some m) k k' c i =
      let r = reach_of (shape_from b h t (some l)) (shape_from b' h' t' (some m)) c i in
      omega (arith, r, range_length b h, range_length b' h', range_length (suc (b + h)) t, range_length (suc (b' + h')) t')

  long_from : (b h t : ℕ) (o : Option L) (b' h' t' : ℕ) (o' : Option M) → terms_from h t o ≤ most_terms → terms_from h' t' o' ≤ most_terms
      → Memᴰ long (cands (shape_from b h t o) (shape_from b' h' t' o')) → max h h' + max t t' ≤ 30
  long_from b h t none b' h' t' o' k k' i = absurd (no_long₁ ℕ L M (range b h) (shape_from b' h' t' o') i)
  long_from b h t (some l) b' h' t' none k k' i = absurd (no_long₂ ℕ L M (range b h) l (range (suc (b + h)) t) (range b' h') i)
  long_from b h t (some l) b' h' t' (some m) k k' i = omega arith

  field_few : (atoms : List ℕ) (P : Spot L) (Q : Spot M) (n g : ℕ) → spot_terms P ≤ most_terms → spot_terms Q ≤ most_terms → (c : Cand)
      → Memᴰ c (cands (spot_shape P) (spot_shape Q))
      → length (field_items atoms P Q n g c) ≤ entry_terms
  field_few atoms P Q n g k k' (exact m) i =
      let r = few_from P.base P.head P.tail P.name Q.base Q.head Q.tail Q.name k k' (exact m) i in
      omega (arith, r, tabulate_long m (item_at atoms P Q m))
  field_few atoms P Q n g k k' long i =
      let r = long_from P.base P.head P.tail P.name Q.base Q.head Q.tail Q.name k k' i in
      let front = tabulate (max P.head Q.head) (item_at atoms P Q (span_on P Q long)) in
      let back = tabulate (max P.tail Q.tail) (λ p. item_at atoms P Q (span_on P Q long) (max P.head Q.head + p)) in
      omega (
        arith,
        r,
        length-append front ((n + g) ∷ back),
        tabulate_long (max P.head Q.head) (item_at atoms P Q (span_on P Q long)),
        tabulate_long (max P.tail Q.tail) (λ p. item_at atoms P Q (span_on P Q long) (max P.head Q.head + p)),
      )

  -- at most 31 items a field
  pub items_few : (atoms : List ℕ) (n g : ℕ) (Ps : List (Spot L)) (Qs : List (Spot M)) (cs : List Cand) → Chosen Ps Qs cs
      → All (λ s. spot_terms s ≤ most_terms) Ps
      → All (λ s. spot_terms s ≤ most_terms) Qs
      → item_count (items_from atoms n g Ps Qs cs) ≤ length Ps * entry_terms
  items_few atoms n g [] Qs cs h k k' = omega arith
  items_few atoms n g (P ∷ Ps) [] cs h k k' = omega arith
  items_few atoms n g (P ∷ Ps) (Q ∷ Qs) [] h k k' = omega arith
  items_few atoms n g (P ∷ Ps) (Q ∷ Qs) (c ∷ cs) h k k' =
      let a = field_few atoms P Q n g k.0 k'.0 c (subst (λ (l : List Cand). Memᴰ c l) (sym (spot_cands_lem P Q)) h.0) in
      let b = items_few atoms n (suc g) Ps Qs cs h.1 k.1 k'.1 in
      omega (arith, suc-mul (length Ps) entry_terms)

-- at most 124 items an entry
pub rules_few : (r₁ r₂ : List (List OurTerm)) → IsLeft r₁ → IsLeft r₂ → (cs : List Cand) (atoms : List ℕ)
    → Chosen (spots_of field_places 0 r₁) (spots_of field_places rule_places r₂) cs
    → item_count (items_from atoms pair_places 0 (spots_of field_places 0 r₁) (spots_of field_places rule_places r₂) cs) ≤ entry_places
rules_few r₁ r₂ ok₁ ok₂ cs atoms h =
    let z = items_few atoms pair_places 0 (spots_of field_places 0 r₁) (spots_of field_places rule_places r₂) cs h (spots_few field_places 0 r₁ ok₁.0.2)
    (spots_few field_places rule_places r₂ ok₂.0.2) in
    omega (arith, spots_long field_places 0 r₁, ok₁.0.1)

-- ---- a line's size

module _ (T : Table) (texts : ℕ → List ℕ) (sizes : ℕ → ℕ) (sz : (c : ℕ) → sizes c ≡ length (texts c)) (x₁ t₁ x₂ t₂ : ℕ → ℕ) where
  items_line : (Ps Qs : List (Spot ℕ)) (atoms : List ℕ) (is : List (List ℕ)) → item_count is ≤ 1000
      → length (indexed_items T texts x₁ t₁ x₂ t₂ Ps Qs atoms is (name_fields T (no_names pair_items 4) is).numbers)
      ≡ size_items (item_size T sizes (name_fields T (no_names pair_items 4) is).numbers) x₁ t₁ x₂ t₂ Ps Qs atoms is
  items_line Ps Qs atoms is k =
      let ns = (name_fields T (no_names pair_items 4) is).numbers in
      let few = (names_few T is 0 (no_names pair_items 4) (zeros 0 4, zeros 0 pair_items)).1 in
      line_size T texts ns (item_size T sizes ns)
      (λ c. item_size_lem T texts sizes ns c (sz c) (let z = at_most (0 + item_count is) ns few c in omega arith))
      x₁ t₁ x₂ t₂ Ps Qs atoms is

  -- THE SIZE OF A LINE, where the entry has at most 1000 items
  pub line_long : (Ps Qs : List (Spot ℕ)) (cs : List Cand) (atoms : List ℕ) → item_count (items_from atoms pair_places 0 Ps Qs cs) ≤ 1000
      → length (indexed_line T texts x₁ t₁ x₂ t₂ Ps Qs cs atoms) ≡ size_line T sizes x₁ t₁ x₂ t₂ Ps Qs cs atoms
  line_long Ps Qs cs atoms k = items_line Ps Qs atoms (items_from atoms pair_places 0 Ps Qs cs) k

  -- and it has at most 124, in a choice of two rules
  pub choice_long : (r₁ r₂ : List (List OurTerm)) → IsLeft r₁ → IsLeft r₂ → (cs : List Cand) (atoms : List ℕ)
      → Chosen (spots_of field_places 0 r₁) (spots_of field_places rule_places r₂) cs
      → length (indexed_line T texts x₁ t₁ x₂ t₂ (spots_of field_places 0 r₁) (spots_of field_places rule_places r₂) cs atoms)
      ≡ size_line T sizes x₁ t₁ x₂ t₂ (spots_of field_places 0 r₁) (spots_of field_places rule_places r₂) cs atoms
  choice_long r₁ r₂ ok₁ ok₂ cs atoms h =
      line_long (spots_of field_places 0 r₁) (spots_of field_places rule_places r₂) cs atoms
      (let z = rules_few r₁ r₂ ok₁ ok₂ cs atoms h in omega arith)

-- ---- a bound on any line, of any tables

-- a run is no longer than all items
run_in_short : (o : Option ℕ) (h t : ℕ) (f : List ℕ) (l : ℕ) (rest : List ℕ) (m : ℕ) → length rest ≤ m → length (run_in o h t f l rest) ≤ length f + m
run_in_short none h t f l rest m k = omega arith
run_in_short (some n) h t f l rest m k = go (ℕ_discrete l n)
  where
    go : (d : Dec (l ≡ n)) → length (ite d (take (length f - (h + t)) (drop h f)) rest) ≤ length f + m
    go (yes e) = omega (arith, length-take (length f - (h + t)) (drop h f), length-drop h f)
    go (no e) = omega arith

run_short : (Ps : List (Spot ℕ)) (is : List (List ℕ)) (l : ℕ) → length (run_on Ps is l) ≤ item_count is
run_short [] is l = omega arith
run_short (P ∷ Ps) [] l = omega arith
run_short (P ∷ Ps) (f ∷ is) l = run_in_short P.name P.head P.tail f l (run_on Ps is l) (item_count is) (run_short Ps is l)

-- a number has at most three digits here
digits_short : (n : ℕ) → n ≤ largest_byte → length (digits_of n) ≤ 3
digits_short n h = go (ltb n 10) (ltb n 100) (digits_size_lem n (omega arith))
  where
    go : (b c : Bool) → length (digits_of n) ≡ cond b 1 (cond c 2 3) → length (digits_of n) ≤ 3
    go true c e = omega (arith, e)
    go false true e = omega (arith, e)
    go false false e = omega (arith, e)

sum_short : (f : ℕ → ℕ) (b a t : ℕ) → ((n : ℕ) → n < a + t → f n ≤ b) → sum_of f (range a t) ≤ t * b
sum_short f b a zero h = omega arith
sum_short f b a (suc t) h = omega (arith, h a (omega arith), sum_short f b (suc a) t (λ n l. h n (omega arith)))

module _ (size : ℕ → ℕ) (w : ℕ) (few : (c : ℕ) → size c ≤ w + 4) where
  colons_short : (cs : List ℕ) → colons_size size cs ≤ length cs * (w + 5)
  colons_short [] = omega arith
  colons_short (c ∷ cs) = omega (arith, few c, colons_short cs)

  items_short : (cs : List ℕ) → items_size size cs ≤ length cs * (w + 5) + 5
  items_short [] = omega arith
  items_short (c ∷ cs) = omega (arith, few c, colons_short cs)

  bars_short : (is : List (List ℕ)) → bars_size size is ≤ item_count is * (w + 5) + length is * 6
  bars_short [] = omega arith
  bars_short (f ∷ is) = omega (arith, items_short f, bars_short is)

  fields_short : (is : List (List ℕ)) → fields_size size is ≤ item_count is * (w + 5) + length is * 6
  fields_short [] = omega arith
  fields_short (f ∷ is) = omega (arith, items_short f, bars_short is)

  module _ (m : ℕ) (one : 1 ≤ m) (x tops : ℕ → ℕ) (low : (k : ℕ) → k < kind_count → tops k ≤ largest_byte) (atoms : List ℕ)
      (runs : ℕ → List ℕ) (most : (n : ℕ) → length (runs n) ≤ m) where
    value_short : (k n : ℕ) → length (value_at x atoms runs k n) ≤ m
    value_short k n = go (ltb k 3)
      where
        go : (b : Bool) → length (cond b (get_or atoms (x (slot_at k n) - 1) 0 ∷ []) (runs n)) ≤ m
        go true = one
        go false = most n

    ranked_short : (k n : ℕ) → n ≤ largest_byte → ranked_size size x atoms runs k n ≤ m * (w + 5) + 12
    ranked_short k n h = go (has_at x k n)
      where
        go : (b : Bool) → cond b (bound_size size n (value_at x atoms runs k n)) 0 ≤ m * (w + 5) + 12
        go true =
            let cs = value_at x atoms runs k n in
            omega (arith, digits_short n h, items_short cs, mul-le-mul_right (w + 5) (value_short k n))
        go false = omega arith

    rank_short : (k : ℕ) → k < kind_count → rank_sizes size x tops atoms runs k ≤ largest_byte * (m * (w + 5) + 12)
    rank_short k l =
        let s = sum_short (ranked_size size x atoms runs k) (m * (w + 5) + 12) 0 (tops k) (λ n h. ranked_short k n (omega (arith, low k l))) in
        omega (arith, s, mul-le-mul_right (m * (w + 5) + 12) (low k l))

    values_short : values_size size x tops atoms runs ≤ kind_count * largest_byte * (m * (w + 5) + 12)
    values_short = omega (arith, rank_short 0 (omega arith), rank_short 1 (omega arith), rank_short 2 (omega arith), rank_short 3 (omega arith))

-- a text of at most w bytes, or a letter and three digits
item_short : (T : Table) (texts : ℕ → List ℕ) (w : ℕ) → ((c : ℕ) → length (texts c) ≤ w) → (numbers : List ℕ) → ((c : ℕ) → get_or numbers c 0 ≤ largest_byte)
    → (c : ℕ) → length (item_text T texts numbers c) ≤ w + 4
item_short T texts w short numbers low c = go (T.variable c)
  where
    go : (b : Bool) → length (cond b (letter_at (T.kind c) ∷ digits_of (get_or numbers c 0 - 1)) (texts c)) ≤ w + 4
    go true = let l = low c in omega (arith, digits_short (get_or numbers c 0 - 1) (omega arith))
    go false = omega (arith, short c)

-- THE VALUES of a rule, of at most m items each
pub values_bounded : (T : Table) (texts : ℕ → List ℕ) (w : ℕ) → ((c : ℕ) → length (texts c) ≤ w) → (numbers : List ℕ)
    → ((c : ℕ) → get_or numbers c 0 ≤ largest_byte) → (tag : ℕ) (x t : ℕ → ℕ) → ((k : ℕ) → k < kind_count → t k ≤ largest_byte)
    → (atoms : List ℕ) (runs : ℕ → List ℕ) (m : ℕ)
    → 1 ≤ m → ((n : ℕ) → length (runs n) ≤ m)
    → length (indexed_values T texts numbers tag x t atoms runs) ≤ kind_count * largest_byte * (m * (w + 5) + 12)
values_bounded T texts w short numbers low tag x t few atoms runs m one most =
    let size : ℕ → ℕ = λ c. length (item_text T texts numbers c) in
    omega (
      arith,
      values_size_lem T texts numbers size (λ c. refl) tag x t atoms runs,
      values_short size w (item_short T texts w short numbers low) m one x t few atoms runs most,
    )

-- A LINE of at most m items in at most m fields; the fields are counted too, for one without items is written `empty`
pub line_bounded : (T : Table) (texts : ℕ → List ℕ) (w : ℕ) → ((c : ℕ) → length (texts c) ≤ w) → (numbers : List ℕ)
    → ((c : ℕ) → get_or numbers c 0 ≤ largest_byte) → (x₁ t₁ x₂ t₂ : ℕ → ℕ) → ((k : ℕ) → k < kind_count → t₁ k ≤ largest_byte)
    → ((k : ℕ) → k < kind_count → t₂ k ≤ largest_byte)
    → (Ps Qs : List (Spot ℕ)) (atoms : List ℕ) (is : List (List ℕ)) (m : ℕ) → 1 ≤ m → item_count is ≤ m → length is ≤ m
    → length (indexed_items T texts x₁ t₁ x₂ t₂ Ps Qs atoms is numbers) ≤ 4000 * ((w + 5) * (m + 1) + 10)
line_bounded T texts w short numbers low x₁ t₁ x₂ t₂ low₁ low₂ Ps Qs atoms is m one most wide =
    let size : ℕ → ℕ = λ c. length (item_text T texts numbers c) in
    let few = item_short T texts w short numbers low in
    omega (
      arith,
      line_size T texts numbers size (λ c. refl) x₁ t₁ x₂ t₂ Ps Qs atoms is,
      fields_short size w few is,
      mul-le-mul_right (w + 5) most,
      values_short size w few m one x₁ t₁ low₁ atoms (run_on Ps is) (λ n. omega (arith, run_short Ps is n)),
      values_short size w few m one x₂ t₂ low₂ atoms (run_on Qs is) (λ n. omega (arith, run_short Qs is n)),
    )

-- ---- a sharp bound, where the tables have what those of two rules have

-- a number below 100 has at most two digits
two_short : (n : ℕ) → n < 100 → length (digits_of n) ≤ 2
two_short n h = go (ltb n 10) (subst (λ (c : Bool). length (digits_of n) ≡ cond (ltb n 10) 1 (cond c 2 3)) (lt-ltb n 100 h) (digits_size_lem n (omega arith)))
  where
    go : (b : Bool) → length (digits_of n) ≡ cond b 1 2 → length (digits_of n) ≤ 2
    go true e = omega (arith, e)
    go false e = omega (arith, e)

-- a run is no longer than the longest field
run_in_field : (o : Option ℕ) (h t : ℕ) (f : List ℕ) (l : ℕ) (rest : List ℕ) (m : ℕ) → length f ≤ m → length rest ≤ m → length (run_in o h t f l rest) ≤ m
run_in_field none h t f l rest m p q = q
run_in_field (some n) h t f l rest m p q = go (ℕ_discrete l n)
  where
    go : (d : Dec (l ≡ n)) → length (ite d (take (length f - (h + t)) (drop h f)) rest) ≤ m
    go (yes e) = omega (arith, length-take (length f - (h + t)) (drop h f), length-drop h f)
    go (no e) = q

run_field : (m : ℕ) (Ps : List (Spot ℕ)) (is : List (List ℕ)) (l : ℕ) → All (λ f. length f ≤ m) is → length (run_on Ps is l) ≤ m
run_field m [] is l a = omega arith
run_field m (P ∷ Ps) [] l a = omega arith
run_field m (P ∷ Ps) (f ∷ is) l a = run_in_field P.name P.head P.tail f l (run_on Ps is l) m a.0 (run_field m Ps is l a.1)

-- items of at most 17 bytes, fields of at most 31 items
module _ (size : ℕ → ℕ) (few : (c : ℕ) → size c ≤ longest_term) where
  field_size : (cs : List ℕ) → length cs ≤ entry_terms → items_size size cs ≤ run_bound - 1
  field_size [] h = omega arith
  field_size (c ∷ cs) h = omega (arith, few c, colons_short size 13 few cs)

  all_bars : (is : List (List ℕ)) → All (λ f. length f ≤ entry_terms) is → bars_size size is ≤ length is * run_bound
  all_bars [] a = omega arith
  all_bars (f ∷ is) a = omega (arith, field_size f a.0, all_bars is a.1)

  all_fields : (is : List (List ℕ)) → All (λ f. length f ≤ entry_terms) is → fields_size size is ≤ length is * run_bound
  all_fields [] a = omega arith
  all_fields (f ∷ is) a = omega (arith, field_size f a.0, all_bars is a.1)

  module _ (x tops : ℕ → ℕ) (low : (k : ℕ) → k < kind_count → tops k ≤ numbers_of_side) (atoms : List ℕ) (runs : ℕ → List ℕ)
      (most : (n : ℕ) → length (runs n) ≤ entry_terms) where
    -- a variable's part: a blank, a tag, a letter, two digits and `=`, and a value
    ranked_within : (k n b : ℕ) → n < numbers_of_side → items_size size (value_at x atoms runs k n) ≤ b → ranked_size size x atoms runs k n ≤ 6 + b
    ranked_within k n b l h = go (has_at x k n)
      where
        go : (c : Bool) → cond c (bound_size size n (value_at x atoms runs k n)) 0 ≤ 6 + b
        go true = omega (arith, two_short n (omega arith))
        go false = omega arith

    -- an atom variable's value is one item
    atom_value_lem : (k n : ℕ) → k < atom_kind_count → items_size size (value_at x atoms runs k n) ≤ longest_term
    atom_value_lem k n l =
        rw (lt-ltb k 3 l) (let f = few (get_or atoms (x (slot_at k n) - 1) 0) in omega arith)

    -- a list variable's has at most 31
    list_value : (n : ℕ) → items_size size (value_at x atoms runs 3 n) ≤ run_bound - 1
    list_value n = field_size (runs n) (most n)

    rank_within : (k b : ℕ) → k < kind_count → ((n : ℕ) → items_size size (value_at x atoms runs k n) ≤ b)
        → rank_sizes size x tops atoms runs k ≤ numbers_of_side * (6 + b)
    rank_within k b l h =
        let s = sum_short (ranked_size size x atoms runs k) (6 + b) 0 (tops k) (λ n p. ranked_within k n b (omega (arith, low k l)) (h n)) in
        omega (arith, s, mul-le-mul_right (6 + b) (low k l))

    values_within : values_size size x tops atoms runs ≤ atom_places * (6 + longest_term) + numbers_of_side * (5 + run_bound)
    values_within =
        omega (
          arith,
          rank_within 0 longest_term (omega arith) (λ n. atom_value_lem 0 n (omega arith)),
          rank_within 1 longest_term (omega arith) (λ n. atom_value_lem 1 n (omega arith)),
          rank_within 2 longest_term (omega arith) (λ n. atom_value_lem 2 n (omega arith)),
          rank_within 3 (run_bound - 1) (omega arith) list_value,
        )

-- A LINE of four fields of at most 31 items each, constants of at most 17 bytes, and 16 variables of each type
pub line_short : (T : Table) (texts : ℕ → List ℕ) → ((c : ℕ) → length (texts c) ≤ longest_term) → (numbers : List ℕ) → ((c : ℕ) → get_or numbers c 0 ≤ entry_places)
    → (x₁ t₁ x₂ t₂ : ℕ → ℕ) → ((k : ℕ) → k < kind_count → t₁ k ≤ numbers_of_side) → ((k : ℕ) → k < kind_count → t₂ k ≤ numbers_of_side)
    → (Ps Qs : List (Spot ℕ)) (atoms : List ℕ) (is : List (List ℕ))
    → length is ≤ most_fields → All (λ f. length f ≤ entry_terms) is
    → length (indexed_items T texts x₁ t₁ x₂ t₂ Ps Qs atoms is numbers) ≤ entry_line
line_short T texts short numbers low x₁ t₁ x₂ t₂ low₁ low₂ Ps Qs atoms is four a =
    omega (
      arith,
      line_size T texts numbers size (λ c. refl) x₁ t₁ x₂ t₂ Ps Qs atoms is,
      all_fields size few is a,
      values_within size few x₁ t₁ low₁ atoms (run_on Ps is) (λ n. run_field entry_terms Ps is n a),
      values_within size few x₂ t₂ low₂ atoms (run_on Qs is) (λ n. run_field entry_terms Qs is n a),
    )
  where
    size : ℕ → ℕ
    size c = length (item_text T texts numbers c)

    few : (c : ℕ) → size c ≤ longest_term
    few c = go (T.variable c)
      where
        go : (b : Bool) → length (cond b (letter_at (T.kind c) ∷ digits_of (get_or numbers c 0 - 1)) (texts c)) ≤ longest_term
        go true = let l = low c in omega (arith, digits_short (get_or numbers c 0 - 1) (omega arith))
        go false = short c
