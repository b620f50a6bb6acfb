-- The values of a rule's variables, piece by piece. Assumes nothing.
use mathlib.Core.Path.{◌≡◌, refl, sym, ap, ap₂, ◌∙◌}
use mathlib.Core.Bool.{Bool, true, false, cond}
use mathlib.Core.List.{List, [], ◌∷◌, ◌++◌, append_assoc, append-nil}
use Prim.Native.Nat.{ℕ, zero, suc, ◌+◌, ◌-◌, ◌*◌, ◌≤◌, ◌<◌, min}
use native.Mathlib.Omega.{arith}
use native.Mathlib.Decide.{dec_lt}
use lib.ListN.{length, take, drop, length-append, length-take, drop_of_length-le}
use lib.Seq.{slice, take_all}
use borrow.Author.Tests.{le-ltb}
use Rattle.base_limits.specs.Limits.{numbers_of_side}
use Rattle.base_lists.specs.Arrays.{part_of}
use Rattle.text_grammar.specs.Numbers.{digits_of}
use Rattle.math_terms.specs.Seqs.{concat_map}
use Rattle.math_terms.proofs.Seqs.{concat_map_append}
use Rattle.math_overlaps.specs.Candidates.{range}
use Rattle.math_codes.specs.Lines.{items_text}
use Rattle.math_codes.specs.Index.{has_at, name_at, bound_text, ranked_value}
use Rattle.math_codes.proofs.Index.{there}
use Rattle.pair_row.specs.Row.{table_in, text_in, index_in, top_in}
use Rattle.pair_lines.specs.Lines.{tag_of, value_in, rank_in, values_in}
use Rattle.pair_lines.proofs.Puts.{Led, led_append}

-- ---- a value

module _ (row : List ℕ) (right : Bool) (atoms : List ℕ) (runs : ℕ → List ℕ) (k v : ℕ) where
  -- a run
  pub value_run : 3 ≤ k → runs v ≡ value_in row right atoms runs k v
  value_run h = rw (le-ltb k 3 h)

-- a part of a row whose ends are brought within it
module _ (l : List ℕ) (a b : ℕ) where
  abbrev pub end_in : ℕ
  end_in = min b (length l)

  end_in_lem : take end_in l ≡ take b l
  end_in_lem = go (dec_lt (length l) b)
    where
      go : Dec (length l < b) → take end_in l ≡ take b l
      go (yes h) = take_all end_in l (omega arith) ∙ sym (take_all b l (omega arith))
      go (no h) = ap (λ (k : ℕ). take k l) (let e : end_in ≡ b = omega arith in e)

  begin_in : drop (min a end_in) (take b l) ≡ drop a (take b l)
  begin_in = go (dec_lt end_in a)
    where
      go : Dec (end_in < a) → drop (min a end_in) (take b l) ≡ drop a (take b l)
      go (yes h) =
          let e = length-take b l in
          drop_of_length-le (take b l) {i = min a end_in} (omega arith) ∙ sym (drop_of_length-le (take b l) {i = a} (omega arith))
      go (no h) = ap (λ (k : ℕ). drop k (take b l)) (let e : min a end_in ≡ a = omega arith in e)

  pub part_within : take (end_in - min a end_in) (drop (min a end_in) l) ≡ slice a b l
  part_within =
      part_of (min a end_in) (end_in - min a end_in) l
      ∙ ap (λ (k : ℕ). drop (min a end_in) (take k l)) (let e : min a end_in + (end_in - min a end_in) ≡ end_in = omega arith in e)
      ∙ ap (drop (min a end_in)) end_in_lem ∙ begin_in

-- what is written of a variable
abbrev pub shown_in : List ℕ → List ℕ → List ℕ → Bool → List ℕ → (ℕ → List ℕ) → ℕ → ℕ → List ℕ
shown_in row texts numbers right atoms runs k v =
    ranked_value (table_in row) (text_in row texts) numbers (tag_of right) (index_in row right) atoms runs k v

-- its name
abbrev pub name_in : Bool → ℕ → ℕ → List ℕ
name_in right k v = 32 ∷ (tag_of right ∷ (name_at k v ++ 61 ∷ []))

pub name_long : (right : Bool) (k v : ℕ) → length (name_in right k v) ≡ 4 + length (digits_of v)
name_long right k v = omega (arith, length-append (digits_of v) (61 ∷ []))

module _ (row texts numbers : List ℕ) (right : Bool) (atoms : List ℕ) (runs : ℕ → List ℕ) (k v : ℕ) where
  pub shown_there : (index_in row right (numbers_of_side * k + v) ≡ 0 → ⊥)
      → name_in right k v ++ items_text (table_in row) (text_in row texts) numbers (value_in row right atoms runs k v)
      ≡ shown_in row texts numbers right atoms runs k v
  shown_there h =
      ap (λ (t : List ℕ). 32 ∷ (tag_of right ∷ t))
      (append_assoc (name_at k v) (61 ∷ []) (items_text (table_in row) (text_in row texts) numbers (value_in row right atoms runs k v)))
      ∙ rw (there (index_in row right (numbers_of_side * k + v)) h)

  pub shown_not : index_in row right (numbers_of_side * k + v) ≡ 0 → [] ≡ shown_in row texts numbers right atoms runs k v
  shown_not h = rw h

  -- its name and its value fill it
  pub shown_long : (index_in row right (numbers_of_side * k + v) ≡ 0 → ⊥)
      → 4 + length (digits_of v) + length (items_text (table_in row) (text_in row texts) numbers (value_in row right atoms runs k v))
      ≡ length (shown_in row texts numbers right atoms runs k v)
  shown_long h =
      let t = items_text (table_in row) (text_in row texts) numbers (value_in row right atoms runs k v) in
      omega (arith, ap length (shown_there h), length-append (name_in right k v) t, name_long right k v)

  -- a blank stands before it
  pub shown_led : Led (shown_in row texts numbers right atoms runs k v)
  shown_led = go (has_at (index_in row right) k v)
    where
      go : (b : Bool) → Led (cond b (bound_text (table_in row) (text_in row texts) numbers (tag_of right) k v (value_in row right atoms runs k v)) [])
      go true = tt
      go false = tt

-- before each of many
pub all_led : (f : ℕ → List ℕ) → ((n : ℕ) → Led (f n)) → (ns : List ℕ) → Led (concat_map f ns)
all_led f h [] = tt
all_led f h (n ∷ ns) = led_append (f n) (concat_map f ns) (h n) (all_led f h ns)

pub rank_led : (row texts numbers : List ℕ) (right : Bool) (atoms : List ℕ) (runs : ℕ → List ℕ) (k : ℕ)
    → Led (rank_in row texts numbers right atoms runs k)
rank_led row texts numbers right atoms runs k =
    all_led (shown_in row texts numbers right atoms runs k) (shown_led row texts numbers right atoms runs k) (range 0 (top_in row right k))

pub values_led : (row texts numbers : List ℕ) (right : Bool) (atoms : List ℕ) (runs : ℕ → List ℕ) → Led (values_in row texts numbers right atoms runs)
values_led row texts numbers right atoms runs =
    all_led (rank_in row texts numbers right atoms runs) (rank_led row texts numbers right atoms runs) (range 0 4)

-- ---- runs that agree on the numbers below 16

texts_agree : (f g : ℕ → List ℕ) (a k : ℕ) → ((n : ℕ) → n < a + k → f n ≡ g n) → concat_map f (range a k) ≡ concat_map g (range a k)
texts_agree f g a zero h = refl
texts_agree f g a (suc k) h =
    ap₂ (λ (t u : List ℕ). t ++ u) (h a (omega arith)) (texts_agree f g (suc a) k (λ n l. h n (omega arith)))

module _ (row texts numbers : List ℕ) (right : Bool) (atoms : List ℕ) (few : top_in row right 3 ≤ numbers_of_side) where
  pub values_agree : (runs runs' : ℕ → List ℕ) → ((n : ℕ) → n < numbers_of_side → runs n ≡ runs' n)
      → values_in row texts numbers right atoms runs ≡ values_in row texts numbers right atoms runs'
  values_agree runs runs' h =
      ap (λ (t : List ℕ). rank_in row texts numbers right atoms runs 0
      ++ (rank_in row texts numbers right atoms runs 1 ++ (rank_in row texts numbers right atoms runs 2 ++ (t ++ []))))
      (texts_agree (shown_in row texts numbers right atoms runs 3) (shown_in row texts numbers right atoms runs' 3) 0 (top_in row right 3)
      (λ n l. ap (λ (w : List ℕ). cond (has_at (index_in row right) 3 n)
      (bound_text (table_in row) (text_in row texts) numbers (tag_of right) 3 n w) []) (h n (omega arith))))

-- ---- a list for each number, one behind the other

range_one : (a k : ℕ) → range a k ++ (a + k) ∷ [] ≡ range a (k + 1)
range_one a zero = ap (λ (n : ℕ). n ∷ []) (let e : a + 0 ≡ a = omega arith in e)
range_one a (suc k) =
    ap (λ (n : ℕ). range a (suc k) ++ n ∷ []) (let e : a + suc k ≡ suc a + k = omega arith in e)
    ∙ ap (λ (l : List ℕ). a ∷ l) (range_one (suc a) k)
    ∙ ap (range a) (let e : suc (k + 1) ≡ suc k + 1 = omega arith in e)

module _ {A : Type 0} (f : ℕ → List A) where
  pub texts_one : (k : ℕ) → concat_map f (range 0 k) ++ f k ≡ concat_map f (range 0 (k + 1))
  texts_one k =
      ap (λ (t : List A). concat_map f (range 0 k) ++ t) (sym (append-nil (f k)) ∙ ap (λ (n : ℕ). f n ++ []) (let e : k ≡ 0 + k = omega arith in e))
      ∙ sym (concat_map_append f (range 0 k) ((0 + k) ∷ []))
      ∙ ap (concat_map f) (range_one 0 k)

  -- the first k are a front of more
  pub texts_split : (k m a : ℕ) → k ≤ m → (rest : List A) × (concat_map f (range a k) ++ rest ≡ concat_map f (range a m))
  texts_split zero m a h = (concat_map f (range a m), refl)
  texts_split (suc k) zero a h = absurd (omega arith)
  texts_split (suc k) (suc m) a h =
      let r = texts_split k m (suc a) (omega arith) in
      (r.0, append_assoc (f a) (concat_map f (range (suc a) k)) r.0 ∙ ap (λ (t : List A). f a ++ t) r.1)

  -- all have room for one more
  pub texts_room : (k m : ℕ) → k < m → length (concat_map f (range 0 k)) + length (f k) ≤ length (concat_map f (range 0 m))
  texts_room k m h =
      let s = texts_split (k + 1) m 0 (omega arith) in
      let a = concat_map f (range 0 (k + 1)) in
      omega (arith, ap length s.1, length-append a s.0, ap length (texts_one k), length-append (concat_map f (range 0 k)) (f k))
