-- The texts of an entry, piece by piece: of an item, of items and of fields. Assumes nothing.
use mathlib.Core.Path.{◌≡◌, refl, sym, ap, ◌∙◌}
use mathlib.Core.Bool.{Bool, true, false, cond, false≢true}
use mathlib.Core.List.{List, [], ◌∷◌, ◌++◌, append_assoc, append-nil}
use Prim.Native.Nat.{ℕ, zero, suc, ◌+◌, ◌≤◌, ◌<◌}
use native.Mathlib.Omega.{arith}
use lib.Dec.{leb}
use lib.ListN.{length, get_or, take, drop, length-append, take-append-drop}
use lib.Seq.{take-suc}
use Rattle.base_limits.specs.Limits.{pair_places}
use Rattle.base_lists.specs.Seqs.{tabulate, tabulate_long, tabulate_at}
use borrow.Author.Tests.{eq-eqb}
use Rattle.math_types.specs.Order.{list}
use Rattle.math_types.specs.Types.{rank}
use Rattle.math_codes.specs.Tables.{Table}
use Rattle.math_codes.specs.Lines.{item_text, colon_texts, items_text, bar_texts, fields_text}
use Rattle.pair_row.specs.Row.{kinds_at, variables_at, is_set, table_in, bytes_in, text_in}

-- ---- an item

module _ (row texts numbers : List ℕ) (c : ℕ) where
  -- what is no variable has a place
  place_kind : (table_in row).variable c ≡ false → (table_in row).kind c ≡ get_or row (kinds_at + c) 0
  place_kind h = go (leb pair_places c) h
    where
      go : (b : Bool) → cond b true (is_set (get_or row (variables_at + c) 0)) ≡ false
          → cond b (rank list) (get_or row (kinds_at + c) 0) ≡ get_or row (kinds_at + c) 0
      go true e = absurd (false≢true (sym e))
      go false e = refl

  pub item_string : (table_in row).variable c ≡ false → (table_in row).kind c ≡ 1
      → 34 ∷ (bytes_in texts c ++ 34 ∷ []) ≡ item_text (table_in row) (text_in row texts) numbers c
  item_string h k = rw (h, eq-eqb (get_or row (kinds_at + c) 0) 1 (sym (place_kind h) ∙ k))

-- ---- items and fields, each with one more

-- between fields a bar
abbrev pub bar_before : ℕ → List ℕ
bar_before zero = []
bar_before (suc j) = 124 ∷ []

module _ (T : Table) (texts : ℕ → List ℕ) (numbers : List ℕ) where
  colons_append : (a b : List ℕ) → colon_texts T texts numbers (a ++ b) ≡ colon_texts T texts numbers a ++ colon_texts T texts numbers b
  colons_append [] b = refl
  colons_append (c ∷ a) b =
      ap (λ (t : List ℕ). 58 ∷ (item_text T texts numbers c ++ t)) (colons_append a b)
      ∙ ap (λ (t : List ℕ). 58 ∷ t) (sym (append_assoc (item_text T texts numbers c) (colon_texts T texts numbers a) (colon_texts T texts numbers b)))

  -- item i of those behind the first, behind those before it
  pub colons_one : (cs : List ℕ) (i : ℕ) → i < length cs
      → colon_texts T texts numbers (take i cs) ++ 58 ∷ item_text T texts numbers (get_or cs i 0) ≡ colon_texts T texts numbers (take (i + 1) cs)
  colons_one cs i h =
      ap (λ (t : List ℕ). colon_texts T texts numbers (take i cs) ++ 58 ∷ t) (sym (append-nil (item_text T texts numbers (get_or cs i 0))))
      ∙ sym (colons_append (take i cs) (get_or cs i 0 ∷ []))
      ∙ ap (colon_texts T texts numbers) (sym (take-suc cs i 0 h))
      ∙ ap (λ (n : ℕ). colon_texts T texts numbers (take n cs)) (let e : suc i ≡ i + 1 = omega arith in e)

  colons_front : (cs : List ℕ) (i : ℕ) → length (colon_texts T texts numbers (take i cs)) ≤ length (colon_texts T texts numbers cs)
  colons_front cs i =
      let a = colon_texts T texts numbers (take i cs) in
      let b = colon_texts T texts numbers (drop i cs) in
      let e : colon_texts T texts numbers cs ≡ a ++ b =
      ap (colon_texts T texts numbers) (sym (take-append-drop i cs)) ∙ colons_append (take i cs) (drop i cs) in
      omega (arith, ap length e, length-append a b)

  -- which the whole has room for
  pub colons_room : (run : List ℕ) (c : ℕ) (cs : List ℕ) → run ≡ c ∷ cs → (i : ℕ) → i < length cs
      → length (item_text T texts numbers c) + (length (colon_texts T texts numbers (take i cs)) + (1 + length (item_text T texts numbers (get_or cs i 0))))
      ≤ length (items_text T texts numbers run)
  colons_room run c cs e i h =
      let last : List ℕ = 58 ∷ item_text T texts numbers (get_or cs i 0) in
      omega (
        arith,
        colons_front cs (i + 1),
        ap length (colons_one cs i h),
        length-append (colon_texts T texts numbers (take i cs)) last,
        ap (λ (l : List ℕ). length (items_text T texts numbers l)) e,
        length-append (item_text T texts numbers c) (colon_texts T texts numbers cs),
      )

  bars_append : (a b : List (List ℕ)) → bar_texts T texts numbers (a ++ b) ≡ bar_texts T texts numbers a ++ bar_texts T texts numbers b
  bars_append [] b = refl
  bars_append (f ∷ a) b =
      ap (λ (t : List ℕ). 124 ∷ (items_text T texts numbers f ++ t)) (bars_append a b)
      ∙ ap (λ (t : List ℕ). 124 ∷ t) (sym (append_assoc (items_text T texts numbers f) (bar_texts T texts numbers a) (bar_texts T texts numbers b)))

  fields_one : (is : List (List ℕ)) (i : ℕ) → i < length is
      → fields_text T texts numbers (take i is) ++ bar_before i ++ items_text T texts numbers (get_or is i []) ≡ fields_text T texts numbers (take (i + 1) is)
  fields_one [] i k = absurd (omega arith)
  fields_one (f ∷ is) zero k = sym (append-nil (items_text T texts numbers f))
  fields_one (f ∷ is) (suc i) k =
      let one = items_text T texts numbers f in
      let last = items_text T texts numbers (get_or is i []) in
      let front = bar_texts T texts numbers (take i is) in
      append_assoc (one ++ front) (124 ∷ []) last
      ∙ append_assoc one front (124 ∷ last)
      ∙ ap (λ (t : List ℕ). one ++ (front ++ 124 ∷ t)) (sym (append-nil last))
      ∙ ap (λ (t : List ℕ). one ++ t) (sym (bars_append (take i is) (get_or is i [] ∷ [])))
      ∙ ap (λ (t : List (List ℕ)). one ++ bar_texts T texts numbers t) (sym (take-suc is i [] (omega arith)))
      ∙ ap (λ (n : ℕ). fields_text T texts numbers (take n (f ∷ is))) (let e : suc (suc i) ≡ suc i + 1 = omega arith in e)

  fields_front : (is : List (List ℕ)) (i : ℕ) → length (fields_text T texts numbers (take i is)) ≤ length (fields_text T texts numbers is)
  fields_front [] zero = omega arith
  fields_front [] (suc i) = omega arith
  fields_front (f ∷ is) zero = omega arith
  fields_front (f ∷ is) (suc i) =
      let one = items_text T texts numbers f in
      let a = bar_texts T texts numbers (take i is) in
      let b = bar_texts T texts numbers (drop i is) in
      let e : bar_texts T texts numbers is ≡ a ++ b = ap (bar_texts T texts numbers) (sym (take-append-drop i is)) ∙ bars_append (take i is) (drop i is) in
      omega (arith, length-append one a, length-append one (bar_texts T texts numbers is), ap length e, length-append a b)

-- field i of n, which a function gives
module _ (T : Table) (texts : ℕ → List ℕ) (numbers : List ℕ) (n : ℕ) (field : ℕ → List ℕ) (i : ℕ) (h : i < n) where
  pub fields_next : fields_text T texts numbers (take i (tabulate n field)) ++ bar_before i ++ items_text T texts numbers (field i)
      ≡ fields_text T texts numbers (take (i + 1) (tabulate n field))
  fields_next =
      ap (λ (f : List ℕ). fields_text T texts numbers (take i (tabulate n field)) ++ bar_before i ++ items_text T texts numbers f)
      (sym (tabulate_at n field i [] h))
      ∙ fields_one T texts numbers (tabulate n field) i (omega (arith, tabulate_long n field))

  -- which the whole has room for
  pub fields_room : length (fields_text T texts numbers (take i (tabulate n field))) + (length (bar_before i) + length (items_text T texts numbers (field i)))
      ≤ length (fields_text T texts numbers (tabulate n field))
  fields_room =
      let a = fields_text T texts numbers (take i (tabulate n field)) in
      omega (
        arith,
        fields_front T texts numbers (tabulate n field) (i + 1),
        ap length fields_next,
        length-append (a ++ bar_before i) (items_text T texts numbers (field i)),
        length-append a (bar_before i),
      )
