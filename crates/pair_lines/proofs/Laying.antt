-- The items in one row: each field stands where its number says, a list variable's run is a part of it, and no number is above 124.
use mathlib.Core.Path.{◌≡◌, refl, sym, ◌∙◌, ap, ap₂}
use mathlib.Core.Logic.{ite}
use mathlib.Core.Bool.{Bool, true, false, cond}
use mathlib.Core.Option.{none, some}
use mathlib.Core.List.{List, [], ◌∷◌, ◌++◌}
use Prim.Native.Nat.{ℕ, zero, suc, ◌+◌, ◌-◌, ◌*◌, ◌≤◌, ◌<◌}
use native.Mathlib.Omega.{arith}
use native.Mathlib.Decide.{ℕ_discrete, dec_lt}
use lib.Dec.{leb}
use lib.ListN.{length, length-append, get_or, set, length-set, take, drop, replicate, length-replicate, get_or-replicate}
use lib.Seq.{sets, length-sets, sets-eq, slice, slice_empty, take-set-le, drop-drop, take-take, take_at, drop_at, length-take-le}
use lib.Seq.{get_or-set_same, get_or-set_other}
use borrow.Author.Tests.{leb-true, le-ltb, lt-ltb}
use Rattle.base_limits.specs.Limits.{entry_terms, numbers_of_side, pair_places, pair_items, entry_places}
use Rattle.base_lists.specs.Truths.{both_is}
use Rattle.base_lists.specs.Seqs.{tabulate, tabulate_long}
use Rattle.base_lists.specs.Arrays.{part_of}
use Rattle.math_codes.specs.Spots.{Spot}
use Rattle.math_codes.specs.Names.{no_names}
use Rattle.math_codes.specs.Whole as whole
use Rattle.math_codes.proofs.Makers as makers
use Rattle.pair_row.specs.Row.{table_in, shape_in, spot_in}
use Rattle.overlap_entries.specs.declared.Choice.{Choice}
use Rattle.overlap_entries.specs.Entries.{chosen_in, item_at}
use Rattle.pair_lines.specs.Lines.{Few, count_at, fits_from, fits, field_in, items_in, names_in, laid_from, laid_in, spots_in, run_places}
use Rattle.pair_lines.specs.Lines.{run_at, runs_over, no_runs, run_by}

-- ---- a choice that fits

pub fields_fit : (n : ℕ) (c : Choice) → fits n c ≡ true → n ≤ 4
fields_fit n c e = leb-true n 4 ((both_is (leb n 4) (fits_from c 0 n)).0 e).0

from_fits : (c : Choice) (n j : ℕ) → fits_from c j n ≡ true → (i : ℕ) → i < n → count_at c (j + i) ≤ entry_terms
from_fits c zero j e i h = absurd (omega arith)
from_fits c (suc n) j e zero h =
    rw (let z : j + 0 ≡ j = omega arith in z) (leb-true (count_at c j) entry_terms ((both_is (leb (count_at c j) entry_terms) (fits_from c (suc j) n)).0 e).0)
from_fits c (suc n) j e (suc i) h =
    rw (let z : j + suc i ≡ suc j + i = omega arith in z)
    (from_fits c n (suc j) ((both_is (leb (count_at c j) entry_terms) (fits_from c (suc j) n)).0 e).1 i (omega arith))

-- no field has more than 31 items
pub count_fits : (n : ℕ) (c : Choice) → fits n c ≡ true → (j : ℕ) → j < n → count_at c j ≤ entry_terms
count_fits n c e j h = rw (let z : j ≡ 0 + j = omega arith in z) (from_fits c n 0 ((both_is (leb n 4) (fits_from c 0 n)).0 e).1 j h)

-- ---- parts of a row

module _ {A : Type 0} where
  -- a part of a part
  pub part_in : (h m n : ℕ) (l : List A) → h + m ≤ n → take m (drop h (take n l)) ≡ take m (drop h l)
  part_in h m n l le = part_of h m (take n l) ∙ ap (drop h) (take-take (h + m) n l le) ∙ sym (part_of h m l)

  sets_before : (n i : ℕ) (vs l : List A) → n ≤ i → take n (sets l i vs) ≡ take n l
  sets_before n i [] l h = refl
  sets_before n i (v ∷ vs) l h = sets_before n (suc i) vs (set l i v) (omega arith) ∙ take-set-le n l i v h

  -- what was stored stands there
  pub stored : (i : ℕ) (vs l : List A) → i + length vs ≤ length l → take (length vs) (drop i (sets l i vs)) ≡ vs
  stored i vs l h =
      part_of i (length vs) (sets l i vs)
      ∙ ap (λ (s : List A). drop i (take (i + length vs) s)) (sets-eq vs l i h)
      ∙ ap (drop i) (take_at (take i l ++ vs) (drop (i + length vs) l) (i + length vs) long)
      ∙ drop_at (take i l) vs i (length-take-le i l (omega arith))
    where
      long : length (take i l ++ vs) ≡ i + length vs
      long = length-append (take i l) vs ∙ ap (λ (k : ℕ). k + length vs) (length-take-le i l (omega arith))

-- ---- fields in a row

pub laid_keeps : (fs : List (List ℕ)) (at : ℕ) (items : List ℕ) → length (laid_from at fs items) ≡ length items
laid_keeps [] at items = refl
laid_keeps (f ∷ fs) at items = laid_keeps fs (at + entry_terms) (sets items at f) ∙ length-sets items at f

-- the fields stand behind their first place
laid_before : (fs : List (List ℕ)) (at n : ℕ) (items : List ℕ) → n ≤ at → take n (laid_from at fs items) ≡ take n items
laid_before [] at n items h = refl
laid_before (f ∷ fs) at n items h = laid_before fs (at + entry_terms) n (sets items at f) (omega arith) ∙ sets_before n at f items h

laid_at : (n : ℕ) (f : ℕ → List ℕ) → ((j : ℕ) → j < n → length (f j) ≤ entry_terms) → (at : ℕ) (items : List ℕ) → at + entry_terms * n ≤ length items → (j : ℕ)
    → j < n
    → take (length (f j)) (drop (at + entry_terms * j) (laid_from at (tabulate n f) items)) ≡ f j
laid_at zero f few at items room j h = absurd (omega arith)
laid_at (suc n) f few at items room zero h =
    let k = length (f 0) in
    let s = sets items at (f 0) in
    let r = laid_from (at + entry_terms) (tabulate n (λ i. f (suc i))) s in
    let le = few 0 h in
    ap (λ (m : ℕ). take k (drop m r)) (let e : at + entry_terms * 0 ≡ at = omega arith in e)
    ∙ part_of at k r
    ∙ ap (drop at) (laid_before (tabulate n (λ i. f (suc i))) (at + entry_terms) (at + k) s (omega arith))
    ∙ sym (part_of at k s)
    ∙ stored at (f 0) items (omega arith)
laid_at (suc n) f few at items room (suc j) h =
    let s = sets items at (f 0) in
    let r = laid_from (at + entry_terms) (tabulate n (λ i. f (suc i))) s in
    ap (λ (m : ℕ). take (length (f (suc j))) (drop m r)) (let e : at + entry_terms * suc j ≡ at + entry_terms + entry_terms * j = omega arith in e)
    ∙ laid_at n (λ i. f (suc i)) (λ i p. few (suc i) (omega arith)) (at + entry_terms) s (let e = length-sets items at (f 0) in omega (arith, e)) j (omega arith)

pub field_long : (row : List ℕ) (c : Choice) (atoms : List ℕ) (j : ℕ) → length (field_in row c atoms j) ≡ count_at c j
field_long row c atoms j =
    tabulate_long (count_at c j) (item_at atoms (spot_in row false j) (spot_in row true j) (chosen_in c j).items (chosen_in c j).long (pair_places + j))

module _ (row : List ℕ) (n : ℕ) (c : Choice) (atoms : List ℕ) where
  -- there are 124 places
  pub laid_long : length (laid_in row n c atoms) ≡ entry_places
  laid_long = laid_keeps (items_in row n c atoms) 0 (replicate entry_places 0) ∙ length-replicate {A = ℕ} entry_places 0

  module _ (ok : fits n c ≡ true) where
    pub laid_field : (j : ℕ) → j < n → take (count_at c j) (drop (entry_terms * j) (laid_in row n c atoms)) ≡ field_in row c atoms j
    laid_field j h =
        let few : (i : ℕ) → i < n → length (field_in row c atoms i) ≤ entry_terms = λ i p. omega (arith, field_long row c atoms i, count_fits n c ok i p) in
        let le = fields_fit n c ok in
        let e = length-replicate {A = ℕ} entry_places 0 in
        ap₂ (λ (k m : ℕ). take k (drop m (laid_in row n c atoms))) (sym (field_long row c atoms j))
        (let z : entry_terms * j ≡ 0 + entry_terms * j = omega arith in z)
        ∙ laid_at n (field_in row c atoms) few 0 (replicate entry_places 0) (omega (arith, e, le)) j h

    pub laid_room : (j : ℕ) → j < n → entry_terms * j + count_at c j ≤ entry_places
    laid_room j h = omega (arith, count_fits n c ok j h, fields_fit n c ok)

-- ---- runs

no_items : (m : ℕ) (l : List ℕ) → m ≡ 0 → take m l ≡ []
no_items m l e = ap (λ (k : ℕ). take k l) e

-- the items of a field between its first h and its last t
run_part : (from count h t : ℕ) (l w : List ℕ) → take count (drop from l) ≡ w → length w ≡ count
    → slice (run_at from count h t).from (run_at from count h t).to l ≡ take (length w - (h + t)) (drop h w)
run_part from count h t l w e long = go (dec_lt count (h + t))
  where
    go : Dec (count < h + t) → slice (run_at from count h t).from (run_at from count h t).to l ≡ take (length w - (h + t)) (drop h w)
    go (yes p) =
        rw (lt-ltb count (h + t) p)
        (slice_empty from l ∙ sym (no_items (length w - (h + t)) (drop h w) (omega (arith, long))))
    go (no p) =
        let m = length w - (h + t) in
        rw (le-ltb count (h + t) (omega arith))
        (ap (λ (k : ℕ). slice (from + h) k l) (let z : from + (count - t) ≡ from + h + m = omega (arith, long) in z)
        ∙ sym (part_of (from + h) m l)
        ∙ ap (take m) (sym (drop-drop h from l))
        ∙ sym (part_in h m count (drop from l) (omega (arith, long)))
        ∙ ap (λ (s : List ℕ). take m (drop h s)) e)

-- what a table has for l, with the run of m noted
module _ (runs : List ℕ) (long : length runs ≡ run_places) (l m a b : ℕ) where
  abbrev noted : List ℕ
  noted = set (set runs (2 * m) a) (2 * m + 1) b

  noted_same : l < numbers_of_side → l ≡ m → (get_or noted (2 * l) 0 ≡ a) × (get_or noted (2 * l + 1) 0 ≡ b)
  noted_same h e = (
    ap (λ (i : ℕ). get_or noted i 0) (let z : 2 * l ≡ 2 * m = omega arith in z)
        ∙ get_or-set_other (set runs (2 * m) a) (2 * m + 1) (2 * m) b 0 (λ z. omega arith)
        ∙ get_or-set_same runs (2 * m) a 0 (omega (arith, long)),
    ap (λ (i : ℕ). get_or noted i 0) (let z : 2 * l + 1 ≡ 2 * m + 1 = omega arith in z)
        ∙ get_or-set_same (set runs (2 * m) a) (2 * m + 1) b 0 (omega (arith, long, length-set runs (2 * m) a)),
  )

  noted_other : (l ≡ m → ⊥) → (get_or noted (2 * l) 0 ≡ get_or runs (2 * l) 0) × (get_or noted (2 * l + 1) 0 ≡ get_or runs (2 * l + 1) 0)
  noted_other n = (
    get_or-set_other (set runs (2 * m) a) (2 * m + 1) (2 * l) b 0 (λ z. omega arith)
        ∙ get_or-set_other runs (2 * m) (2 * l) a 0 (λ z. n (omega arith)),
    get_or-set_other (set runs (2 * m) a) (2 * m + 1) (2 * l + 1) b 0 (λ z. n (omega arith))
        ∙ get_or-set_other runs (2 * m) (2 * l + 1) a 0 (λ z. omega arith),
  )

-- a field that has the list variable l has its run; of another the rest has it
run_one : (gapped : Bool) (m l h t from count : ℕ) (items w runs rest : List ℕ) → l < numbers_of_side → length runs ≡ run_places
    → take count (drop from items) ≡ w → length w ≡ count → run_by runs items l ≡ rest
    → run_by (cond gapped (set (set runs (2 * m) (run_at from count h t).from) (2 * m + 1) (run_at from count h t).to) runs) items l
    ≡ whole.run_in (cond gapped (some m) none) h t w l rest
run_one false m l h t from count items w runs rest small room e long q = q
run_one true m l h t from count items w runs rest small room e long q = go (ℕ_discrete l m)
  where
    a : ℕ
    a = (run_at from count h t).from

    b : ℕ
    b = (run_at from count h t).to

    go : (d : Dec (l ≡ m)) → run_by (set (set runs (2 * m) a) (2 * m + 1) b) items l ≡ ite d (take (length w - (h + t)) (drop h w)) rest
    go (yes p) =
        let z = noted_same runs room l m a b small p in
        ap₂ (λ (i j : ℕ). slice i j items) z.0 z.1 ∙ run_part from count h t items w e long
    go (no p) = let z = noted_other runs room l m a b p in ap₂ (λ (i j : ℕ). slice i j items) z.0 z.1 ∙ q

note_long : (gapped : Bool) (m a b : ℕ) (runs : List ℕ) → length (cond gapped (set (set runs (2 * m) a) (2 * m + 1) b) runs) ≡ length runs
note_long true m a b runs = length-set (set runs (2 * m) a) (2 * m + 1) b ∙ length-set runs (2 * m) a
note_long false m a b runs = refl

pub runs_long : (row : List ℕ) (right : Bool) (c : Choice) (old : List ℕ) (j k : ℕ) → length (runs_over row right c old j k) ≡ length old
runs_long row right c old j zero = refl
runs_long row right c old j (suc k) =
    let s = shape_in row right j in
    let r = run_at (entry_terms * j) (count_at c j) s.head s.tail in
    note_long s.gapped s.list r.from r.to (runs_over row right c old (suc j) k) ∙ runs_long row right c old (suc j) k

module _ (row : List ℕ) (right : Bool) (n l : ℕ) (c : Choice) (atoms : List ℕ) (ok : fits n c ≡ true) (small : l < numbers_of_side) where
  -- k fields from field j on
  run_from : (k j : ℕ) (P : ℕ → Spot ℕ) (f : ℕ → List ℕ) → j + k ≤ n → ((i : ℕ) → i < k → P i ≡ spot_in row right (j + i))
      → ((i : ℕ) → i < k → f i ≡ field_in row c atoms (j + i))
      → run_by (runs_over row right c no_runs j k) (laid_in row n c atoms) l ≡ whole.run_on (tabulate k P) (tabulate k f) l
  run_from zero j P f h p q =
      ap₂ (λ (a b : ℕ). slice a b (laid_in row n c atoms)) (get_or-replicate run_places (2 * l) 0 0 (omega arith))
      (get_or-replicate run_places (2 * l + 1) 0 0 (omega arith))
  run_from (suc k) j P f h p q =
      let s = shape_in row right j in
      let rest = whole.run_on (tabulate k (λ i. P (suc i))) (tabulate k (λ i. f (suc i))) l in
      run_one s.gapped s.list l s.head s.tail (entry_terms * j) (count_at c j) (laid_in row n c atoms) (field_in row c atoms j)
      (runs_over row right c no_runs (suc j) k) rest small (runs_long row right c no_runs (suc j) k ∙ length-replicate {A = ℕ} run_places 0)
      (laid_field row n c atoms ok j (omega arith)) (field_long row c atoms j)
      (run_from k (suc j) (λ i. P (suc i)) (λ i. f (suc i)) (omega arith)
      (λ i z. p (suc i) (omega arith) ∙ ap (spot_in row right) (let e : j + suc i ≡ suc j + i = omega arith in e))
      (λ i z. q (suc i) (omega arith) ∙ ap (field_in row c atoms) (let e : j + suc i ≡ suc j + i = omega arith in e)))
      ∙ ap₂ (λ (S : Spot ℕ) (w : List ℕ). whole.run_in S.name S.head S.tail w l rest)
      (sym (p 0 (omega arith) ∙ ap (spot_in row right) (let e : j + 0 ≡ j = omega arith in e)))
      (sym (q 0 (omega arith) ∙ ap (field_in row c atoms) (let e : j + 0 ≡ j = omega arith in e)))

  -- THE RUN of a list variable
  pub run_is : run_by (runs_over row right c no_runs 0 n) (laid_in row n c atoms) l ≡ whole.run_on (spots_in row right n) (items_in row n c atoms) l
  run_is =
      run_from n 0 (spot_in row right) (field_in row c atoms) (omega arith) (λ i h. ap (spot_in row right) (let e : i ≡ 0 + i = omega arith in e))
      (λ i h. ap (field_in row c atoms) (let e : i ≡ 0 + i = omega arith in e))

-- ---- few items, and few numbers

few_items : (n : ℕ) (f : ℕ → List ℕ) → ((j : ℕ) → j < n → length (f j) ≤ entry_terms) → makers.item_count (tabulate n f) ≤ entry_terms * n
few_items zero f h = omega arith
few_items (suc n) f h = omega (arith, h 0 (omega arith), few_items n (λ i. f (suc i)) (λ i p. h (suc i) (omega arith)))

module _ (row : List ℕ) (n : ℕ) (c : Choice) (atoms : List ℕ) where
  pub items_long : length (items_in row n c atoms) ≡ n
  items_long = tabulate_long n (field_in row c atoms)

  module _ (ok : fits n c ≡ true) where
    pub items_small : makers.item_count (items_in row n c atoms) ≤ entry_places
    items_small =
        let few : (i : ℕ) → i < n → length (field_in row c atoms i) ≤ entry_terms = λ i p. omega (arith, field_long row c atoms i, count_fits n c ok i p) in
        omega (arith, few_items n (field_in row c atoms) few, fields_fit n c ok)

    pub names_small : Few entry_places (names_in row n c atoms).numbers
    names_small i =
        let few = (makers.names_few (table_in row) (items_in row n c atoms) 0 (no_names pair_items 4) (makers.zeros 0 4, makers.zeros 0 pair_items)).1 in
        omega (arith, makers.at_most (0 + makers.item_count (items_in row n c atoms)) (names_in row n c atoms).numbers few i, items_small)
