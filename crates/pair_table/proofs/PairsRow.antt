-- What each write to the row changes, and that it leaves the rest as it was.
use mathlib.Core.Path.{◌≡◌, refl, sym, ap, ◌∙◌}
use mathlib.Core.Logic.{◌≢◌}
use mathlib.Core.Bool.{Bool, true, false, cond}
use mathlib.Core.Option.{Option, none, some}
use mathlib.Core.List.{List, [], ◌∷◌, foldl}
use Prim.Native.Nat.{ℕ, suc, ◌+◌, ◌-◌, ◌*◌, ◌≤◌, ◌<◌}
use native.Mathlib.Omega.{arith}
use lib.Dec.{eqb, leb, ltb}
use lib.ListN.{length, get_or, set, length-set}
use lib.Seq.{get_or-set_same, get_or-set_other}
use borrow.Author.Tests.{lt-ltb, eq-eqb, ne_eqb, lt-leb, leb-true, leb-false}
use Rattle.base_limits.specs.Limits.{most_terms, largest_number, numbers_of_side, field_places, pair_places, pair_fields}
use Rattle.math_types.specs.Order.{basic, list}
use Rattle.math_types.specs.Types.{is_list}
use Rattle.math_terms.specs.Terms.{con, var}
use Rattle.text_grammar.specs.Terms.{OurTerm}
use Rattle.math_codes.specs.Spots.{Spot, scan_at, scan_term, spot_of}
use Rattle.pair_row.specs.Row.{kinds_at, variables_at, shapes_at, count_at, members_at, row_bytes, is_set}
use Rattle.pair_table.specs.Notes.{classed, joined_member, indexed, topped, more, shape_noted, terms_in}

-- ---- a place's type

module _ (p k v : ℕ) (row : List ℕ) where
  pub classed_long : length (classed p k v row) ≡ length row
  classed_long = length-set (set row (kinds_at + p) k) (variables_at + p) v ∙ length-set row (kinds_at + p) k

  pub classed_other : (j : ℕ) → j ≢ kinds_at + p → j ≢ variables_at + p → get_or (classed p k v row) j 0 ≡ get_or row j 0
  classed_other j a b = get_or-set_other (set row (kinds_at + p) k) (variables_at + p) j v 0 b ∙ get_or-set_other row (kinds_at + p) j k 0 a

  pub classed_kind : kinds_at + p < length row → get_or (classed p k v row) (kinds_at + p) 0 ≡ k
  classed_kind h = get_or-set_other (set row (kinds_at + p) k) (variables_at + p) (kinds_at + p) v 0 (λ e. omega arith) ∙ get_or-set_same row (kinds_at + p) k 0 h

  pub classed_variable : variables_at + p < length row → get_or (classed p k v row) (variables_at + p) 0 ≡ v
  classed_variable h = get_or-set_same (set row (kinds_at + p) k) (variables_at + p) v 0 (omega (arith, length-set row (kinds_at + p) k))

-- ---- members

module _ (p : ℕ) (row : List ℕ) where
  abbrev count : ℕ
  count = get_or row count_at 0

  pub joined_long : length (joined_member p row) ≡ length row
  joined_long = go (ltb count pair_places)
    where
      go : (b : Bool) → length (cond b (set (set row (members_at + count) p) count_at (count + 1)) row) ≡ length row
      go true = length-set (set row (members_at + count) p) count_at (count + 1) ∙ length-set row (members_at + count) p
      go false = refl

  pub joined_other : (j : ℕ) → j ≢ count_at → j ≢ members_at + count → get_or (joined_member p row) j 0 ≡ get_or row j 0
  joined_other j a b = go (ltb count pair_places)
    where
      go : (c : Bool) → get_or (cond c (set (set row (members_at + count) p) count_at (count + 1)) row) j 0 ≡ get_or row j 0
      go true = get_or-set_other (set row (members_at + count) p) count_at j (count + 1) 0 a ∙ get_or-set_other row (members_at + count) j p 0 b
      go false = refl

  module _ (few : count < pair_places) (long : length row ≡ row_bytes) where
    joined_is : joined_member p row ≡ set (set row (members_at + count) p) count_at (count + 1)
    joined_is = ap (λ (b : Bool). cond b (set (set row (members_at + count) p) count_at (count + 1)) row) (lt-ltb count pair_places few)

    pub joined_count : get_or (joined_member p row) count_at 0 ≡ suc count
    joined_count =
        ap (λ (l : List ℕ). get_or l count_at 0) joined_is
        ∙ get_or-set_same (set row (members_at + count) p) count_at (count + 1) 0 (omega (arith, long, length-set row (members_at + count) p))
        ∙ (let e : count + 1 ≡ suc count = omega arith in e)

    pub joined_new : get_or (joined_member p row) (members_at + count) 0 ≡ p
    joined_new =
        ap (λ (l : List ℕ). get_or l (members_at + count) 0) joined_is
        ∙ get_or-set_other (set row (members_at + count) p) count_at (members_at + count) (count + 1) 0 (λ e. omega arith)
        ∙ get_or-set_same row (members_at + count) p 0 (omega (arith, long, few))

-- ---- variables

module _ (i p : ℕ) (row : List ℕ) where
  pub indexed_long : length (indexed i p row) ≡ length row
  indexed_long = go (eqb (get_or row i 0) 0)
    where
      go : (b : Bool) → length (cond b (set (set row i (p + 1)) p p) (set row p (get_or row i 0 - 1))) ≡ length row
      go true = length-set (set row i (p + 1)) p p ∙ length-set row i (p + 1)
      go false = length-set row p (get_or row i 0 - 1)

  pub indexed_other : (j : ℕ) → j ≢ i → j ≢ p → get_or (indexed i p row) j 0 ≡ get_or row j 0
  indexed_other j a b = go (eqb (get_or row i 0) 0)
    where
      go : (c : Bool) → get_or (cond c (set (set row i (p + 1)) p p) (set row p (get_or row i 0 - 1))) j 0 ≡ get_or row j 0
      go true = get_or-set_other (set row i (p + 1)) p j p 0 b ∙ get_or-set_other row i j (p + 1) 0 a
      go false = get_or-set_other row p j (get_or row i 0 - 1) 0 b

  -- met first: it gets its place
  module _ (new : get_or row i 0 ≡ 0) (apart : i ≢ p) where
    indexed_first : indexed i p row ≡ set (set row i (p + 1)) p p
    indexed_first = ap (λ (b : Bool). cond b (set (set row i (p + 1)) p p) (set row p (get_or row i 0 - 1))) (eq-eqb (get_or row i 0) 0 new)

    pub first_index : i < length row → get_or (indexed i p row) i 0 ≡ suc p
    first_index h =
        ap (λ (l : List ℕ). get_or l i 0) indexed_first
        ∙ get_or-set_other (set row i (p + 1)) p i p 0 apart
        ∙ get_or-set_same row i (p + 1) 0 h
        ∙ (let e : p + 1 ≡ suc p = omega arith in e)

    pub first_code : p < length row → get_or (indexed i p row) p 0 ≡ p
    first_code h =
        ap (λ (l : List ℕ). get_or l p 0) indexed_first ∙ get_or-set_same (set row i (p + 1)) p p 0 (omega (arith, length-set row i (p + 1)))

  -- met again: it has a code
  module _ (c : ℕ) (old : get_or row i 0 ≡ suc c) (apart : i ≢ p) where
    indexed_again : indexed i p row ≡ set row p (get_or row i 0 - 1)
    indexed_again =
        ap (λ (b : Bool). cond b (set (set row i (p + 1)) p p) (set row p (get_or row i 0 - 1))) (ne_eqb (get_or row i 0) 0 (λ e. omega arith))

    pub again_index : get_or (indexed i p row) i 0 ≡ suc c
    again_index = ap (λ (l : List ℕ). get_or l i 0) indexed_again ∙ get_or-set_other row p i (get_or row i 0 - 1) 0 apart ∙ old

    pub again_code : p < length row → get_or (indexed i p row) p 0 ≡ c
    again_code h =
        ap (λ (l : List ℕ). get_or l p 0) indexed_again
        ∙ get_or-set_same row p (get_or row i 0 - 1) 0 h
        ∙ (let e : get_or row i 0 - 1 ≡ c = omega arith in e)

module _ (t n : ℕ) (row : List ℕ) where
  pub topped_long : length (topped t n row) ≡ length row
  topped_long = go (leb (get_or row t 0) n)
    where
      go : (b : Bool) → length (cond b (set row t (n + 1)) row) ≡ length row
      go true = length-set row t (n + 1)
      go false = refl

  pub topped_other : (j : ℕ) → j ≢ t → get_or (topped t n row) j 0 ≡ get_or row j 0
  topped_other j a = go (leb (get_or row t 0) n)
    where
      go : (b : Bool) → get_or (cond b (set row t (n + 1)) row) j 0 ≡ get_or row j 0
      go true = get_or-set_other row t j (n + 1) 0 a
      go false = refl

  module _ (h : t < length row) where
    abbrev top_is : (b : Bool) → leb (get_or row t 0) n ≡ b
        → (n < get_or (cond b (set row t (n + 1)) row) t 0) × (get_or row t 0 ≤ get_or (cond b (set row t (n + 1)) row) t 0)
        × (n ≤ largest_number → get_or row t 0 ≤ numbers_of_side → get_or (cond b (set row t (n + 1)) row) t 0 ≤ numbers_of_side)
    top_is true e =
        let s = get_or-set_same row t (n + 1) 0 h in
        let l = leb-true (get_or row t 0) n e in
        (omega (arith, s), omega (arith, s, l), λ a b. omega (arith, s, a))
    top_is false e = let l = leb-false (get_or row t 0) n e in (l, omega arith, λ a b. b)

    -- the top is above n and not below the one before
    pub topped_at : (n < get_or (topped t n row) t 0) × (get_or row t 0 ≤ get_or (topped t n row) t 0)
        × (n ≤ largest_number → get_or row t 0 ≤ numbers_of_side → get_or (topped t n row) t 0 ≤ numbers_of_side)
    topped_at = top_is (leb (get_or row t 0) n) refl

-- ---- shapes

-- where a field's numbers begin
abbrev pub shape_at : ℕ → ℕ
shape_at f = shapes_at + 4 * f

-- a field's numbers as they stand in the row
abbrev pub spot_from : ℕ → ℕ → ℕ → Bool → ℕ → Spot ℕ
spot_from b h t g l = record { base = b; head = h; tail = t; name = cond g (some l) none }

abbrev pub spot_at : List ℕ → ℕ → Spot ℕ
spot_at row f =
    spot_from (field_places * f) (get_or row (shape_at f) 0) (get_or row (shape_at f + 1) 0) (is_set (get_or row (shape_at f + 3) 0)) (get_or row (shape_at f + 2) 0)

-- how a term is noted in a shape
abbrev pub is_list_term : OurTerm → Bool
is_list_term (con c) = false
is_list_term (var k n) = is_list k

abbrev pub number_of : OurTerm → ℕ
number_of (con c) = 0
number_of (var k n) = n

pub spot_is : (row : List ℕ) (f h t : ℕ) (g : Bool) (l : ℕ) → get_or row (shape_at f) 0 ≡ h → get_or row (shape_at f + 1) 0 ≡ t
    → is_set (get_or row (shape_at f + 3) 0) ≡ g → get_or row (shape_at f + 2) 0 ≡ l → spot_at row f ≡ spot_from (field_places * f) h t g l
spot_is row f h t g l a b c d =
    ap (λ (x : ℕ). spot_from (field_places * f) x (get_or row (shape_at f + 1) 0) (is_set (get_or row (shape_at f + 3) 0)) (get_or row (shape_at f + 2) 0)) a
    ∙ ap (λ (x : ℕ). spot_from (field_places * f) h x (is_set (get_or row (shape_at f + 3) 0)) (get_or row (shape_at f + 2) 0)) b
    ∙ ap (λ (x : Bool). spot_from (field_places * f) h t x (get_or row (shape_at f + 2) 0)) c
    ∙ ap (λ (x : ℕ). spot_from (field_places * f) h t g x) d

-- shapes that read the same
pub spot_same : (row row' : List ℕ) (f : ℕ) → ((j : ℕ) → shape_at f ≤ j → j < shape_at f + 4 → get_or row' j 0 ≡ get_or row j 0) → spot_at row' f ≡ spot_at row f
spot_same row row' f h =
    spot_is row' f (get_or row (shape_at f) 0) (get_or row (shape_at f + 1) 0) (is_set (get_or row (shape_at f + 3) 0)) (get_or row (shape_at f + 2) 0)
    (h (shape_at f) (omega arith) (omega arith)) (h (shape_at f + 1) (omega arith) (omega arith))
    (ap is_set (h (shape_at f + 3) (omega arith) (omega arith))) (h (shape_at f + 2) (omega arith) (omega arith))

-- how many terms they count
abbrev name_count : Option ℕ → ℕ
name_count none = 0
name_count (some l) = 1

abbrev pub spot_count : Spot ℕ → ℕ
spot_count s = s.head + s.tail + name_count s.name

pub terms_count : (row : List ℕ) (f : ℕ) → terms_in row f ≡ spot_count (spot_at row f)
terms_count row f = go (is_set (get_or row (shape_at f + 3) 0))
  where
    go : (b : Bool) → get_or row (shape_at f) 0 + get_or row (shape_at f + 1) 0 + cond b 1 0
        ≡ get_or row (shape_at f) 0 + get_or row (shape_at f + 1) 0 + name_count (cond b (some (get_or row (shape_at f + 2) 0)) none)
    go true = refl
    go false = refl

scan_count : (s : Spot ℕ) (u : OurTerm) → spot_count (scan_term s u) ≡ suc (spot_count s)
scan_count s u = go s.name u
  where
    go : (o : Option ℕ) (u : OurTerm) → spot_count (scan_at s.base s.head s.tail o u) ≡ suc (s.head + s.tail + name_count o)
    go (some l) u = omega arith
    go none (con c) = omega arith
    go none (var (basic k) a) = omega arith
    go none (var list a) = omega arith

fold_count : (fs : List OurTerm) (s : Spot ℕ) → spot_count (foldl scan_term s fs) ≡ spot_count s + length fs
fold_count [] s = omega arith
fold_count (u ∷ fs) s = fold_count fs (scan_term s u) ∙ omega (arith, scan_count s u)

pub spot_count_lem : (b : ℕ) (fs : List OurTerm) → spot_count (spot_of b fs) ≡ length fs
spot_count_lem b fs = fold_count fs (record { base = b; head = 0; tail = 0; name = none }) ∙ omega arith

more_is : (n : ℕ) → n < most_terms → more n ≡ suc n
more_is n h = ap (λ (b : Bool). cond b most_terms (n + 1)) (lt-leb most_terms n h) ∙ (let e : n + 1 ≡ suc n = omega arith in e)

module _ (f : ℕ) (isL : Bool) (n : ℕ) (row : List ℕ) where
  abbrev h₀ : ℕ
  h₀ = get_or row (shape_at f) 0

  abbrev t₀ : ℕ
  t₀ = get_or row (shape_at f + 1) 0

  abbrev tailed : List ℕ
  tailed = set row (shape_at f + 1) (more t₀)

  abbrev listed : List ℕ
  listed = set (set row (shape_at f + 2) n) (shape_at f + 3) 1

  abbrev headed : List ℕ
  headed = set row (shape_at f) (more h₀)

  pub shape_long : length (shape_noted f isL n row) ≡ length row
  shape_long = go (is_set (get_or row (shape_at f + 3) 0)) isL
    where
      go : (b c : Bool) → length (cond b tailed (cond c listed headed)) ≡ length row
      go true c = length-set row (shape_at f + 1) (more t₀)
      go false true = length-set (set row (shape_at f + 2) n) (shape_at f + 3) 1 ∙ length-set row (shape_at f + 2) n
      go false false = length-set row (shape_at f) (more h₀)

  pub shape_other : (j : ℕ) → (shape_at f ≤ j → j < shape_at f + 4 → ⊥) → get_or (shape_noted f isL n row) j 0 ≡ get_or row j 0
  shape_other j o = go (is_set (get_or row (shape_at f + 3) 0)) isL
    where
      go : (b c : Bool) → get_or (cond b tailed (cond c listed headed)) j 0 ≡ get_or row j 0
      go true c = get_or-set_other row (shape_at f + 1) j (more t₀) 0 (λ e. o (omega arith) (omega arith))
      go false true = get_or-set_other (set row (shape_at f + 2) n) (shape_at f + 3) j 1 0 (λ e. o (omega arith) (omega arith))
          ∙ get_or-set_other row (shape_at f + 2) j n 0 (λ e. o (omega arith) (omega arith))
      go false false = get_or-set_other row (shape_at f) j (more h₀) 0 (λ e. o (omega arith) (omega arith))

-- ONE TERM MORE in a field's shape
module _ (f : ℕ) (row : List ℕ) (long : length row ≡ row_bytes) (few : f < pair_fields) (room : terms_in row f < most_terms) where
  abbrev l₀ : ℕ
  l₀ = get_or row (shape_at f + 2) 0

  heads : h₀ f false 0 row < most_terms
  heads = omega (arith, room)

  tails : t₀ f false 0 row < most_terms
  tails = omega (arith, room)

  pub spot_step : (u : OurTerm) → spot_at (shape_noted f (is_list_term u) (number_of u) row) f ≡ scan_term (spot_at row f) u
  spot_step u = go (is_set (get_or row (shape_at f + 3) 0)) refl
    where
      h : ℕ
      h = get_or row (shape_at f) 0

      t : ℕ
      t = get_or row (shape_at f + 1) 0

      other : (i j a : ℕ) → j ≢ i → get_or (set row i a) j 0 ≡ get_or row j 0
      other i j a d = get_or-set_other row i j a 0 d

      behind : is_set (get_or row (shape_at f + 3) 0) ≡ true
          → spot_at (set row (shape_at f + 1) (more t)) f ≡ spot_from (field_places * f) h (suc t) true l₀
      behind e =
          spot_is (set row (shape_at f + 1) (more t)) f h (suc t) true l₀ (other (shape_at f + 1) (shape_at f) (more t) (λ q. omega arith))
          (get_or-set_same row (shape_at f + 1) (more t) 0 (omega (arith, long, few)) ∙ more_is t tails)
          (ap is_set (other (shape_at f + 1) (shape_at f + 3) (more t) (λ q. omega arith)) ∙ e)
          (other (shape_at f + 1) (shape_at f + 2) (more t) (λ q. omega arith))

      before : is_set (get_or row (shape_at f + 3) 0) ≡ false
          → spot_at (set row (shape_at f) (more h)) f ≡ spot_from (field_places * f) (suc h) t false l₀
      before e =
          spot_is (set row (shape_at f) (more h)) f (suc h) t false l₀
          (get_or-set_same row (shape_at f) (more h) 0 (omega (arith, long, few)) ∙ more_is h heads)
          (other (shape_at f) (shape_at f + 1) (more h) (λ q. omega arith))
          (ap is_set (other (shape_at f) (shape_at f + 3) (more h) (λ q. omega arith)) ∙ e)
          (other (shape_at f) (shape_at f + 2) (more h) (λ q. omega arith))

      at_list : (n : ℕ) → spot_at (set (set row (shape_at f + 2) n) (shape_at f + 3) 1) f ≡ spot_from (field_places * f) h t true n
      at_list n =
          let r = set row (shape_at f + 2) n in
          spot_is (set (set row (shape_at f + 2) n) (shape_at f + 3) 1) f h t true n
          (get_or-set_other r (shape_at f + 3) (shape_at f) 1 0 (λ q. omega arith) ∙ other (shape_at f + 2) (shape_at f) n (λ q. omega arith))
          (get_or-set_other r (shape_at f + 3) (shape_at f + 1) 1 0 (λ q. omega arith) ∙ other (shape_at f + 2) (shape_at f + 1) n (λ q. omega arith))
          (ap is_set (get_or-set_same r (shape_at f + 3) 1 0 (omega (arith, long, few, length-set row (shape_at f + 2) n))))
          (get_or-set_other r (shape_at f + 3) (shape_at f + 2) 1 0 (λ q. omega arith)
          ∙ get_or-set_same row (shape_at f + 2) n 0 (omega (arith, long, few)))

      new : (b : Bool) (u : OurTerm) → List ℕ
      new b u = cond b (set row (shape_at f + 1) (more t)) (cond (is_list_term u) (set (set row (shape_at f + 2) (number_of u)) (shape_at f + 3) 1)
          (set row (shape_at f) (more h)))

      first : is_set (get_or row (shape_at f + 3) 0) ≡ false → (u : OurTerm) → spot_at (new false u) f ≡ scan_term (spot_from (field_places * f) h t false l₀) u
      first e (con c) = before e
      first e (var (basic k) a) = before e
      first e (var list a) = at_list a

      go : (b : Bool) → is_set (get_or row (shape_at f + 3) 0) ≡ b → spot_at (shape_noted f (is_list_term u) (number_of u) row) f ≡ scan_term (spot_at row f) u
      go true e =
          ap (λ (b : Bool). spot_at (new b u) f) e ∙ behind e ∙ sym (ap (λ (b : Bool). scan_term (spot_from (field_places * f) h t b l₀) u) e)
      go false e =
          ap (λ (b : Bool). spot_at (new b u) f) e ∙ first e u ∙ sym (ap (λ (b : Bool). scan_term (spot_from (field_places * f) h t b l₀) u) e)
