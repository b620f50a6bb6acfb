-- The values of an answer: their items get few numbers, the text of the line, and its size. Assumes nothing.
use mathlib.Core.Path.{◌≡◌, refl, sym, ap, ◌∙◌}
use mathlib.Core.Bool.{Bool, true, false, cond, ◌&&◌}
use mathlib.Core.List.{List, [], ◌∷◌, ◌++◌, foldl-append}
use Prim.Native.Nat.{ℕ, zero, suc, ◌+◌, ◌*◌, ◌≤◌, ◌<◌}
use native.Mathlib.Omega.{arith}
use native.Mathlib.Decide.{ℕ_discrete, dec_lt}
use lib.Dec.{eqb, ltb}
use lib.ListN.{length, get_or, set, take, drop, take-append-drop}
use Rattle.std.specs.Bool.{MatchBool}
use Rattle.std.specs.List.{AllWithin, HoldsAt}
use lib.Seq.{get_or-set_same, get_or-set_other, set_out, take-suc}
use borrow.Author.Tests.{lt-ltb, le-ltb, le-leb}
use Rattle.base_limits.specs.Limits.{entry_terms, numbers_of_side, pair_items}
use Rattle.math_terms.specs.Seqs.{concat_map}
use Rattle.math_overlaps.specs.Candidates.{range}
use Rattle.math_codes.specs.Tables.{Table}
use Rattle.math_codes.specs.Names.{Names, counted, name_code, name_codes, name_fields}
use Rattle.math_codes.proofs.Index.{there}
use Rattle.pair_row.specs.Row.{index_in}
use Rattle.pair_lines.specs.Lines.{Few}
use Rattle.pair_lines.specs.Answers.{are_items, value_fits, value_with, listed_at}
use Rattle.pair_lines.proofs.Values.{texts_one, texts_split}

module _ (T : Table) where
  -- ---- counts only grow

  set_grows : (l : List ℕ) (i v k : ℕ) → get_or l i 0 ≤ v → get_or l k 0 ≤ get_or (set l i v) k 0
  set_grows l i v k h = go (ℕ_discrete k i) (dec_lt i (length l))
    where
      go : Dec (k ≡ i) → Dec (i < length l) → get_or l k 0 ≤ get_or (set l i v) k 0
      go (yes e) (yes p) = rw e (omega (arith, get_or-set_same l i v 0 p))
      go (yes e) (no p) = rw (set_out l i v (omega arith)) (omega arith)
      go (no n) q = omega (arith, get_or-set_other l i k v 0 n)

  name_grows : (x : Names) (c k : ℕ) → get_or x.counts k 0 ≤ get_or (name_code T x c).counts k 0
  name_grows x c k = go (T.variable c) (eqb (get_or x.numbers c 0) 0)
    where
      go : (a b : Bool) → get_or x.counts k 0 ≤ get_or (cond a (cond b (counted T x c) x) x).counts k 0
      go true true = set_grows x.counts (T.kind c) (get_or x.counts (T.kind c) 0 + 1) k (omega arith)
      go true false = omega arith
      go false b = omega arith

  codes_grow : (cs : List ℕ) (x : Names) (k : ℕ) → get_or x.counts k 0 ≤ get_or (name_codes T x cs).counts k 0
  codes_grow [] x k = omega arith
  codes_grow (c ∷ cs) x k = omega (arith, name_grows x c k, codes_grow cs (name_code T x c) k)

  fields_grow : (vs : List (List ℕ)) (x : Names) (k : ℕ) → get_or x.counts k 0 ≤ get_or (name_fields T x vs).counts k 0
  fields_grow [] x k = omega arith
  fields_grow (v ∷ vs) x k = omega (arith, codes_grow v x k, fields_grow vs (name_codes T x v) k)

  -- few in the end were few at first
  pub few_first : (m : ℕ) (cs : List ℕ) (x : Names) → Few m (name_codes T x cs).counts → Few m x.counts
  few_first m cs x h k = omega (arith, h k, codes_grow cs x k)

  few_front : (m : ℕ) (a b : List (List ℕ)) (x : Names) → Few m (name_fields T x (a ++ b)).counts → Few m (name_fields T x a).counts
  few_front m a b x h k =
      let e = ap (λ (y : Names). get_or y.counts k 0) (foldl-append (name_codes T) x a b) in
      omega (arith, h k, e, fields_grow b (name_fields T x a) k)

  -- ---- items, from the left: the first i have their numbers

  module _ (x : Names) (items : List ℕ) where
    pub items_few : (m i : ℕ) (y : Names) → y ≡ name_codes T x (take i items) → Few m (name_codes T x items).counts → Few m y.counts
    items_few m i y e h =
        let w : name_codes T y (drop i items) ≡ name_codes T x items =
        ap (λ (z : Names). name_codes T z (drop i items)) e ∙ sym (foldl-append (name_code T) x (take i items) (drop i items))
        ∙ ap (name_codes T x) (take-append-drop i items) in
        few_first m (drop i items) y (rw w h)

    pub items_one : (i : ℕ) (y z : Names) → y ≡ name_codes T x (take i items) → i < length items → z ≡ name_code T y (get_or items i 0)
        → z ≡ name_codes T x (take (i + 1) items)
    items_one i y z e h n =
        let c = get_or items i 0 in
        n
        ∙ ap (λ (w : Names). name_code T w c) e
        ∙ sym (foldl-append (name_code T) x (take i items) (c ∷ []))
        ∙ ap (name_codes T x) (sym (take-suc items i 0 h))
        ∙ ap (λ (k : ℕ). name_codes T x (take k items)) (let e : suc i ≡ i + 1 = omega arith in e)

  -- ---- values, one list of them for each number

  module _ (x : Names) (f : ℕ → List (List ℕ)) where
    abbrev pub up_to : ℕ → Names
    up_to n = name_fields T x (concat_map f (range 0 n))

    pub values_one : (n : ℕ) (y z : Names) → y ≡ up_to n → z ≡ name_fields T y (f n) → z ≡ up_to (n + 1)
    values_one n y z e h =
        h
        ∙ ap (λ (w : Names). name_fields T w (f n)) e
        ∙ sym (foldl-append (name_codes T) x (concat_map f (range 0 n)) (f n))
        ∙ ap (name_fields T x) (texts_one f n)

    -- those of number n are few where all are
    pub values_few : (m n k : ℕ) (y : Names) → y ≡ up_to n → n < k → Few m (up_to k).counts → Few m (name_fields T y (f n)).counts
    values_few m n k y e h few =
        let s = texts_split f (n + 1) k 0 (omega arith) in
        let all : Few m (up_to (n + 1)).counts = few_front m (concat_map f (range 0 (n + 1))) s.0 x (rw s.1 few) in
        rw (e, ← foldl-append (name_codes T) x (concat_map f (range 0 n)) (f n), texts_one f n) all

-- ---- a value that an answer has

all_items : (cs : List ℕ) → ((i d : ℕ) → i < length cs → get_or cs i d < pair_items) → are_items cs ≡ true
all_items [] h = refl
all_items (c ∷ cs) h =
    rw (lt-ltb c pair_items (h 0 0 (omega arith))) (all_items cs (λ i d l. h (suc i) d (omega arith)))

no_item : (cs : List ℕ) (i : ℕ) → i < length cs → pair_items ≤ get_or cs i 0 → are_items cs ≡ false
no_item [] i l b = absurd (omega arith)
no_item (c ∷ cs) zero l b = ap (λ (t : Bool). t && are_items cs) (le-ltb c pair_items b)
no_item (c ∷ cs) (suc i) l b = ap (λ (t : Bool). ltb c pair_items && t) (no_item cs i (omega arith) b) ∙ neither (ltb c pair_items)
  where
    neither : (t : Bool) → (t && false) ≡ false
    neither true = refl
    neither false = refl

-- what a look at all items says
pub value_all : (items : List ℕ) → length items ≤ entry_terms → (r : Bool)
    → MatchBool r (AllWithin (λ c. c < pair_items) items 0 (length items)) ((i : ℕ) × (i < length items) × HoldsAt (λ c. pair_items ≤ c) items i)
    → r ≡ value_fits items
value_all items short true h = sym (rw (le-leb (length items) entry_terms short) (all_items items (λ i d l. h i d (omega arith) l)))
value_all items short false h = sym (rw (le-leb (length items) entry_terms short) (no_item items h.0 h.1 (h.2 0)))

-- ---- what is listed of a variable

module _ (row : List ℕ) (right : Bool) (atoms items : List ℕ) (k n : ℕ) where
  pub listed_there : (index_in row right (numbers_of_side * k + n) ≡ 0 → ⊥) → value_with row right atoms items k n ∷ [] ≡ listed_at row right atoms items k n
  listed_there h = rw (there (index_in row right (numbers_of_side * k + n)) h)

  pub listed_not : index_in row right (numbers_of_side * k + n) ≡ 0 → [] ≡ listed_at row right atoms items k n
  listed_not h = rw h
