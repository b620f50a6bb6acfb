-- The candidates and the items of two fields by their numbers are the mathematics' own.
use mathlib.Core.Path.{◌≡◌, refl, sym, ◌∙◌, ap, ap₂}
use mathlib.Core.Bool.{Bool, true, false, cond}
use mathlib.Core.Option.{Option, none, some}
use mathlib.Core.List.{List, [], ◌∷◌, ◌++◌, map}
use Prim.Native.Nat.{ℕ, zero, suc, ◌+◌, ◌-◌, ◌<◌, ◌≤◌, max}
use native.Mathlib.Omega.{arith}
use lib.Dec.{eqb, leb, ltb}
use borrow.Author.Tests.{eqb-true, eq-eqb, ne_eqb, lt-ltb, le-ltb}
use Rattle.base_limits.specs.Limits.{most_terms}
use Rattle.base_lists.specs.Seqs.{tabulate, tabulate_same}
use Rattle.math_overlaps.specs.Candidates.{Cand, exact, long, range}
use Rattle.math_codes.specs.Spots.{Spot, cands_from, spot_cands}
use Rattle.math_codes.specs.Walks.{span_on, field_items}
use Rattle.overlap_entries.specs.Entries.{only, span_from, span_of, cand_of, cand_at, code_at, item_count, item_at}

-- ---- candidates

only_are : (n : ℕ) (fits : Bool) → cond fits (exact n ∷ []) [] ≡ tabulate (only n fits).count (cand_at (only n fits))
only_are n true = ap (λ (k : ℕ). exact k ∷ []) (omega arith)
only_are n false = refl

-- from candidate j on
range_are : (least k j : ℕ) → map exact (range (least + j) k) ++ long ∷ []
    ≡ tabulate (suc k) (λ i. cand_at (record { least = least; count = j + k + 1; long = true }) (j + i))
range_are least zero j = ap (λ (b : Bool). cand_of (least + (j + 0)) b ∷ []) (sym (eq-eqb (suc (j + 0)) (j + 0 + 1) (omega arith)))
range_are least (suc k) j =
    ap₂ (λ (c : Cand) (r : List Cand). c ∷ r)
    (ap exact (let e : least + j ≡ least + (j + 0) = omega arith in e)
    ∙ ap (cand_of (least + (j + 0))) (sym (ne_eqb (suc (j + 0)) (j + suc k + 1) (λ e. omega (arith, e)))))
    (ap (λ (m : ℕ). map exact (range m k) ++ long ∷ []) (let e : suc (least + j) ≡ least + suc j = omega arith in e)
    ∙ range_are least k (suc j)
    ∙ tabulate_same (suc k) (λ i. cand_at (record { least = least; count = suc j + k + 1; long = true }) (suc j + i))
    (λ i. cand_at (record { least = least; count = j + suc k + 1; long = true }) (j + suc i))
    (λ i h. ap₂ (λ (m q : ℕ). cand_at (record { least = least; count = m; long = true }) q) (let e : suc j + k + 1 ≡ j + suc k + 1 = omega arith in e)
    (let e : suc j + i ≡ j + suc i = omega arith in e)))

cands_from_lem : (h t : ℕ) (x : Option ℕ) (h' t' : ℕ) (y : Option ℕ)
    → cands_from h t x h' t' y ≡ tabulate (span_from h t x h' t' y).count (cand_at (span_from h t x h' t' y))
cands_from_lem h t none h' t' none = only_are h (eqb h' h)
cands_from_lem h t none h' t' (some m) = only_are h (leb (h' + t') h)
cands_from_lem h t (some l) h' t' none = only_are h' (leb (h + t) h')
cands_from_lem h t (some l) h' t' (some m) = open_are (max (h + t) (h' + t')) (max h h' + max t t' - max (h + t) (h' + t'))
  where
    open_are : (least k : ℕ) → map exact (range least k) ++ long ∷ [] ≡ tabulate (k + 1) (cand_at (record { least = least; count = k + 1; long = true }))
    open_are least k =
        ap (λ (m : ℕ). map exact (range m k) ++ long ∷ []) (let e : least ≡ least + 0 = omega arith in e)
        ∙ range_are least k 0
        ∙ tabulate_same (suc k) (λ i. cand_at (record { least = least; count = 0 + k + 1; long = true }) (0 + i))
        (cand_at (record { least = least; count = k + 1; long = true }))
        (λ i h. ap₂ (λ (m q : ℕ). cand_at (record { least = least; count = m; long = true }) q) (let e : 0 + k + 1 ≡ k + 1 = omega arith in e)
        (let e : 0 + i ≡ i = omega arith in e))
        ∙ ap (λ (m : ℕ). tabulate m (cand_at (record { least = least; count = k + 1; long = true }))) (let e : suc k ≡ k + 1 = omega arith in e)

-- the candidates, in their order
pub cands_are : (s s' : Spot ℕ) → spot_cands s s' ≡ tabulate (span_of s s').count (cand_at (span_of s s'))
cands_are s s' = cands_from_lem s.head s.tail s.name s'.head s'.tail s'.name

-- each has one atom more than the one before it
pub span_is : (s s' : Spot ℕ) (i : ℕ) → i < (span_of s s').count → span_on s s' (cand_at (span_of s s') i) ≡ (span_of s s').least + i
span_is s s' i h = go s.name s'.name h
  where
    go : (x y : Option ℕ) → i < (span_from s.head s.tail x s'.head s'.tail y).count
        → span_on s s' (cand_at (span_from s.head s.tail x s'.head s'.tail y) i)
        ≡ (span_from s.head s.tail x s'.head s'.tail y).least + i
    go none none k = refl
    go none (some m) k = refl
    go (some l) none k = refl
    go (some l) (some m) k = by (eqb (suc i) count) refl
      where
        least : ℕ
        least = max (s.head + s.tail) (s'.head + s'.tail)

        count : ℕ
        count = max s.head s'.head + max s.tail s'.tail - least + 1

        by : (b : Bool) → b ≡ eqb (suc i) count → span_on s s' (cand_of (least + i) b) ≡ least + i
        by true e = let q : suc i ≡ count = eqb-true (suc i) count (sym e) in omega (arith, q)
        by false e = refl

-- fields of at most 16 terms give few candidates, and these few items
pub span_few : (s s' : Spot ℕ) → s.head + s.tail ≤ most_terms → s'.head + s'.tail ≤ most_terms
    → ((span_of s s').least + (span_of s s').count ≤ suc (most_terms + most_terms)) × ((span_of s s').count ≤ suc most_terms)
span_few s s' p q = go s.name s'.name
  where
    fewest : (n : ℕ) (fits : Bool) → n ≤ most_terms
        → ((only n fits).least + (only n fits).count ≤ suc (most_terms + most_terms)) × ((only n fits).count ≤ suc most_terms)
    fewest n true h = (omega arith, omega arith)
    fewest n false h = (omega arith, omega arith)

    go : (x y : Option ℕ)
        → ((span_from s.head s.tail x s'.head s'.tail y).least + (span_from s.head s.tail x s'.head s'.tail y).count ≤ suc
        (most_terms + most_terms))
        × ((span_from s.head s.tail x s'.head s'.tail y).count ≤ suc most_terms)
    go none none = fewest s.head (eqb s'.head s.head) (omega arith)
    go none (some m) = fewest s.head (leb (s'.head + s'.tail) s.head) (omega arith)
    go (some l) none = fewest s'.head (leb (s.head + s.tail) s'.head) (omega arith)
    go (some l) (some m) = (omega arith, omega arith)

-- ---- items

append_tabulate : {A : Type 0} (h t : ℕ) (f : ℕ → A) → tabulate h f ++ tabulate t (λ i. f (h + i)) ≡ tabulate (h + t) f
append_tabulate zero t f =
    tabulate_same t (λ i. f (0 + i)) f (λ i l. ap f (omega arith)) ∙ ap (λ (n : ℕ). tabulate n f) (let e : t ≡ 0 + t = omega arith in e)
append_tabulate {A} (suc h) t f =
    ap (λ (l : List A). f 0 ∷ l)
    (ap (λ (l : List A). tabulate h (λ i. f (suc i)) ++ l)
    (tabulate_same t (λ i. f (suc h + i)) (λ i. f (suc (h + i))) (λ i l. ap f (omega arith)))
    ∙ append_tabulate h t (λ i. f (suc i)))
    ∙ ap (λ (n : ℕ). tabulate n f) (let e : suc (h + t) ≡ suc h + t = omega arith in e)

-- an item put in behind the first h
with_list_lem : (h t : ℕ) (f : ℕ → ℕ) (x : ℕ) → tabulate h f ++ x ∷ tabulate t (λ p. f (h + p))
    ≡ tabulate (h + t + 1) (λ i. cond (ltb i h) (f i) (cond (eqb i h) x (f (i - 1))))
with_list_lem h t f x =
    ap₂ (λ (u v : List ℕ). u ++ v)
    (tabulate_same h f g (λ i p. front i p))
    (ap₂ (λ (y : ℕ) (r : List ℕ). y ∷ r) middle (tabulate_same t (λ p. f (h + p)) (λ p. g (h + suc p)) (λ i p. back i)))
    ∙ append_tabulate h (suc t) g
    ∙ ap (λ (n : ℕ). tabulate n g) (let e : h + suc t ≡ h + t + 1 = omega arith in e)
  where
    g : ℕ → ℕ
    g i = cond (ltb i h) (f i) (cond (eqb i h) x (f (i - 1)))

    front : (i : ℕ) → i < h → f i ≡ g i
    front i p = rw (lt-ltb i h p)

    middle : x ≡ g (h + 0)
    middle = rw (le-ltb (h + 0) h (omega arith), eq-eqb (h + 0) h (omega arith))

    back : (i : ℕ) → f (h + i) ≡ g (h + suc i)
    back i = rw (le-ltb (h + suc i) h (omega arith), ne_eqb (h + suc i) h (λ e. omega (arith, e))) (ap f (omega arith))

-- the items of an entry's field, in their order
pub items_are : (atoms : List ℕ) (s s' : Spot ℕ) (m g n : ℕ) (l : Bool) → n ≡ span_on s s' (cand_of n l)
    → field_items atoms s s' m g (cand_of n l) ≡ tabulate (item_count n l) (item_at atoms s s' n l (m + g))
items_are atoms s s' m g n false e = refl
items_are atoms s s' m g n true e =
    with_list_lem (max s.head s'.head) (max s.tail s'.tail) (code_at atoms s s' (max s.head s'.head + max s.tail s'.tail)) (m + g)
    ∙ ap (λ (k : ℕ). tabulate (item_count k true) (item_at atoms s s' k true (m + g))) (sym e)
