-- The items of an answer's values get few numbers: an atom counts where it is met, and a side's list of items only once. Assumes nothing.
use mathlib.Core.Path.{◌≡◌, refl, sym, ap, ◌∙◌, subst}
use mathlib.Core.Logic.{◌⊎◌, inl, inr}
use mathlib.Core.Bool.{Bool, true, false, cond}
use mathlib.Core.List.{List, [], ◌∷◌, ◌++◌, foldl-append}
use Prim.Native.Nat.{ℕ, zero, suc, ◌+◌, ◌≤◌, ◌<◌}
use native.Mathlib.Omega.{arith}
use native.Mathlib.Decide.{ℕ_discrete, dec_lt}
use lib.Dec.{eqb, leb, ltb}
use lib.ListN.{length, get_or, set}
use lib.Seq.{get_or-set_same, get_or-set_other, set_out}
use borrow.Author.Tests.{lt-ltb, ltb-true, leb-true, eq-eqb, ne_eqb}
use Rattle.base_limits.specs.Limits.{atom_kind_count, entry_terms, numbers_of_side, pair_items}
use Rattle.base_lists.specs.Truths.{both_is}
use Rattle.base_lists.specs.Seqs.{All, all_map, all_append}
use Rattle.math_terms.specs.Seqs.{concat_map}
use Rattle.math_overlaps.specs.Candidates.{range}
use Rattle.math_codes.specs.Tables.{Table}
use Rattle.math_codes.specs.Names.{Names, no_names, counted, name_code, name_codes, name_fields}
use Rattle.math_codes.specs.Index.{has_at}
use Rattle.math_codes.proofs.Makers.{AtMost, item_count, names_few, zeros}
use Rattle.pair_row.specs.Row.{table_in, index_in, top_in}
use Rattle.pair_lines.specs.Lines.{side_few}
use Rattle.pair_lines.specs.Answers.{are_items, value_fits, value_with, listed_at, listed_rank, listed_in}
use Rattle.pair_lines.proofs.Bounds.{tops_few}
use Rattle.pair_lines.proofs.Naming.{name_long}
use Rattle.pair_lines.proofs.Loops.{names_long, all_named}

-- no count and no number is above m
abbrev pub Bound : ℕ → Names → Type 0
Bound m x = AtMost m x.counts × AtMost m x.numbers

pub bound_more : (m n : ℕ) (x : Names) → m ≤ n → Bound m x → Bound n x
bound_more m n x h b = (
  all_map (λ c. c ≤ m) (λ c. c ≤ n) (λ c p. omega arith) x.counts b.0,
  all_map (λ c. c ≤ m) (λ c. c ≤ n) (λ c p. omega arith) x.numbers b.1,
)

module _ (T : Table) where
  -- ---- items that have their numbers

  -- c is no variable, or has a number
  abbrev Done : Names → ℕ → Type 0
  Done x c = T.variable c ≡ true → 0 < get_or x.numbers c 0

  set_keeps : (l : List ℕ) (i v k : ℕ) → 0 < v → 0 < get_or l k 0 → 0 < get_or (set l i v) k 0
  set_keeps l i v k h p = go (ℕ_discrete k i) (dec_lt i (length l))
    where
      go : Dec (k ≡ i) → Dec (i < length l) → 0 < get_or (set l i v) k 0
      go (yes e) (yes q) = rw e (omega (arith, get_or-set_same l i v 0 q))
      go (yes e) (no q) = rw (set_out l i v (omega arith)) p
      go (no n) q = omega (arith, get_or-set_other l i k v 0 n)

  name_keeps : (x : Names) (c d : ℕ) → Done x d → Done (name_code T x c) d
  name_keeps x c d h v = go (T.variable c) (eqb (get_or x.numbers c 0) 0)
    where
      go : (a b : Bool) → 0 < get_or (cond a (cond b (counted T x c) x) x).numbers d 0
      go true true = set_keeps x.numbers c (get_or x.counts (T.kind c) 0 + 1) d (omega arith) (h v)
      go true false = h v
      go false b = h v

  codes_keep : (cs : List ℕ) (x : Names) (d : ℕ) → Done x d → Done (name_codes T x cs) d
  codes_keep [] x d h = h
  codes_keep (c ∷ cs) x d h = codes_keep cs (name_code T x c) d (name_keeps x c d h)

  name_done : (x : Names) (c : ℕ) → c < length x.numbers → Done (name_code T x c) c
  name_done x c h v = rw v (go (ℕ_discrete (get_or x.numbers c 0) 0))
    where
      next : ℕ
      next = get_or x.counts (T.kind c) 0 + 1

      go : Dec (get_or x.numbers c 0 ≡ 0) → 0 < get_or (cond (eqb (get_or x.numbers c 0) 0) (counted T x c) x).numbers c 0
      go (yes e) = rw (eq-eqb (get_or x.numbers c 0) 0 e) (omega (arith, get_or-set_same x.numbers c next 0 h))
      go (no n) = rw (ne_eqb (get_or x.numbers c 0) 0 n) (omega arith)

  settled : (cs : List ℕ) (x : Names) → All (λ c. c < length x.numbers) cs → All (Done (name_codes T x cs)) cs
  settled [] x h = tt
  settled (c ∷ cs) x h =
      let e = (name_long T x c).1 in (
        codes_keep cs (name_code T x c) c (name_done x c h.0),
        settled cs (name_code T x c) (all_map (λ d. d < length x.numbers) (λ d. d < length (name_code T x c).numbers) (λ d p. omega (arith, e)) cs h.1),
      )

  name_same : (x : Names) (c : ℕ) → Done x c → name_code T x c ≡ x
  name_same x c h = go (T.variable c) refl
    where
      go : (b : Bool) → T.variable c ≡ b → cond b (cond (eqb (get_or x.numbers c 0) 0) (counted T x c) x) x ≡ x
      go true e = let p = h e in rw (ne_eqb (get_or x.numbers c 0) 0 (λ z. omega arith))
      go false e = refl

  -- to name them again changes nothing
  settled_same : (cs : List ℕ) (x : Names) → All (Done x) cs → name_codes T x cs ≡ x
  settled_same [] x h = refl
  settled_same (c ∷ cs) x h = ap (λ (y : Names). name_codes T y cs) (name_same x c h.0) ∙ settled_same cs x h.1

  -- ---- one list of items, named again and again

  module _ (items : List ℕ) (short : length items ≤ entry_terms) (m : ℕ) where
    abbrev Spare : Names → Type 0
    Spare x = Bound m x ⊎ (Bound (m + entry_terms) x × All (Done x) items)

    same_few : (vs : List (List ℕ)) → All (λ v. v ≡ items) vs → (x : Names) → All (λ c. c < length x.numbers) items → Spare x
        → Bound (m + entry_terms) (name_fields T x vs)
    same_few [] h x r (inl b) = bound_more m (m + entry_terms) x (omega arith) b
    same_few [] h x r (inr b) = b.0
    same_few (v ∷ vs) h x r (inl b) =
        let next = name_codes T x items in
        let e = (names_long T items x).1 in
        subst (λ (w : List ℕ). Bound (m + entry_terms) (name_fields T (name_codes T x w) vs)) (sym h.0)
        (same_few vs h.1 next
        (all_map (λ c. c < length x.numbers) (λ c. c < length next.numbers) (λ c p. omega (arith, e)) items r)
        (inr (bound_more (m + (length items + 0)) (m + entry_terms) next (omega arith) (names_few T (items ∷ []) m x b), settled items x r)))
    same_few (v ∷ vs) h x r (inr b) =
        subst (λ (w : List ℕ). Bound (m + entry_terms) (name_fields T (name_codes T x w) vs)) (sym h.0)
        (rw (settled_same items x b.1) (same_few vs h.1 x r (inr b)))

-- ---- the values of a rule

count_append : (a b : List (List ℕ)) → item_count (a ++ b) ≡ item_count a + item_count b
count_append [] b = omega arith
count_append (v ∷ a) b = omega (arith, count_append a b)

ones_few : (f : ℕ → List (List ℕ)) → ((n : ℕ) → item_count (f n) ≤ 1) → (a k : ℕ) → item_count (concat_map f (range a k)) ≤ k
ones_few f h a zero = omega arith
ones_few f h a (suc k) = omega (arith, h a, ones_few f h (suc a) k, count_append (f a) (concat_map f (range (suc a) k)))

are_items_lem : (items : List ℕ) → are_items items ≡ true → All (λ c. c < pair_items) items
are_items_lem [] e = tt
are_items_lem (c ∷ cs) e = let h = (both_is (ltb c pair_items) (are_items cs)).0 e in (ltb-true c pair_items h.0, are_items_lem cs h.1)

module _ (row : List ℕ) (right : Bool) (atoms items : List ℕ) where
  one_item : (k n : ℕ) → k < atom_kind_count → item_count (listed_at row right atoms items k n) ≤ 1
  one_item k n h = go (has_at (index_in row right) k n)
    where
      one : length (value_with row right atoms items k n) ≡ 1
      one = rw (lt-ltb k 3 h)

      go : (b : Bool) → item_count (cond b (value_with row right atoms items k n ∷ []) []) ≤ 1
      go true = omega (arith, one)
      go false = omega arith

  all_items_lem : (ns : List ℕ) → All (λ v. v ≡ items) (concat_map (listed_at row right atoms items 3) ns)
  all_items_lem [] = tt
  all_items_lem (n ∷ ns) =
      all_append (λ v. v ≡ items) (listed_at row right atoms items 3 n) (concat_map (listed_at row right atoms items 3) ns)
      (go (has_at (index_in row right) 3 n)) (all_items_lem ns)
    where
      go : (b : Bool) → All (λ v. v ≡ items) (cond b (items ∷ []) [])
      go true = (refl, tt)
      go false = tt

  module _ (few : side_few row right ≡ true) (fits : value_fits items ≡ true) where
    abbrev T : Table
    T = table_in row

    abbrev rank : ℕ → List (List ℕ)
    rank k = listed_rank row right atoms items k

    rank_few : (m k : ℕ) (x : Names) → k < atom_kind_count → Bound m x → Bound (m + numbers_of_side) (name_fields T x (rank k))
    rank_few m k x h b =
        let o = ones_few (listed_at row right atoms items k) (λ n. one_item k n h) 0 (top_in row right k) in
        let t = tops_few row right few k (omega arith) in
        bound_more (m + item_count (rank k)) (m + numbers_of_side) (name_fields T x (rank k)) (omega arith) (names_few T (rank k) m x b)

    -- THE NUMBERS of a rule's values
    pub side_numbers : (m : ℕ) (x : Names) → length x.numbers ≡ pair_items → Bound m x → Bound (m + 79) (name_fields T x (listed_in row right atoms items))
    side_numbers m x long b =
        subst (Bound (m + 79)) (sym parts)
        (bound_more (m + numbers_of_side + numbers_of_side + numbers_of_side + entry_terms) (m + 79) (name_fields T x₃ (rank 3)) (omega arith) last)
      where
        x₁ : Names
        x₁ = name_fields T x (rank 0)

        x₂ : Names
        x₂ = name_fields T x₁ (rank 1)

        x₃ : Names
        x₃ = name_fields T x₂ (rank 2)

        parts : name_fields T x (listed_in row right atoms items) ≡ name_fields T x₃ (rank 3)
        parts =
            foldl-append (name_codes T) x (rank 0) (rank 1 ++ (rank 2 ++ (rank 3 ++ [])))
            ∙ foldl-append (name_codes T) x₁ (rank 1) (rank 2 ++ (rank 3 ++ []))
            ∙ foldl-append (name_codes T) x₂ (rank 2) (rank 3 ++ [])
            ∙ foldl-append (name_codes T) x₃ (rank 3) []

        long₃ : length x₃.numbers ≡ pair_items
        long₃ = (all_named T (rank 2) x₂).1 ∙ (all_named T (rank 1) x₁).1 ∙ (all_named T (rank 0) x).1 ∙ long

        fit : (leb (length items) entry_terms ≡ true) × (are_items items ≡ true)
        fit = (both_is (leb (length items) entry_terms) (are_items items)).0 fits

        low : All (λ c. c < length x₃.numbers) items
        low = all_map (λ c. c < pair_items) (λ c. c < length x₃.numbers) (λ c p. omega (arith, long₃)) items (are_items_lem items fit.1)

        last : Bound (m + numbers_of_side + numbers_of_side + numbers_of_side + entry_terms) (name_fields T x₃ (rank 3))
        last =
            same_few T items (leb-true (length items) entry_terms fit.0) (m + numbers_of_side + numbers_of_side + numbers_of_side) (rank 3)
            (all_items_lem (range 0 (top_in row right 3))) x₃ low
            (inl (rank_few (m + numbers_of_side + numbers_of_side) 2 x₂ (omega arith)
            (rank_few (m + numbers_of_side) 1 x₁ (omega arith) (rank_few m 0 x (omega arith) b))))

pub no_numbers : Bound 0 (no_names pair_items 4)
no_numbers = (zeros 0 4, zeros 0 pair_items)
