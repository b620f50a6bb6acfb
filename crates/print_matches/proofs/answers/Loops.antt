-- The loops over the items of a run and over the numbers of variables. Assumes nothing.
use mathlib.Core.Path.{◌≡◌, sym, ap, ◌∙◌, subst}
use mathlib.Core.Bool.{Bool, true, false, cond}
use mathlib.Core.List.{List, [], ◌∷◌, ◌++◌, map}
use Prim.Native.Nat.{ℕ, suc, ◌+◌, ◌-◌, ◌<◌, ◌≤◌, min}
use native.Mathlib.Numerals.{add-one}
use native.Mathlib.Omega.{arith}
use native.Mathlib.Decide.{dec_le}
use lib.ListN.{length, get_or, take, drop, length-take, length-drop, drop_of_length-le}
use lib.Seq.{take_all, take-take, drop-cons}
use Rattle.math_types.specs.Order.{list}
use Rattle.math_types.specs.Types.{Kind, kinds, atom_kinds, rank_kinds, kind_at, basic_at}
use Rattle.base_limits.specs.Limits.{most_items, numbers_of_side, variable_places}
use Rattle.base_lists.specs.Arrays.{entry_any, here, part_of}
use Rattle.math_terms.specs.Seqs.{concat_map}
use Rattle.text_grammar.specs.Grammar.{colons}
use Rattle.text_grammar.specs.Plain.{raw_of, term_text, field_text}
use Rattle.text_values.specs.declared.Term.{Term}
use Rattle.text_values.specs.Values.{SlipField}
use Rattle.text_values.specs.Values.{blank_term, view_term}
use Rattle.match_fields.specs.declared.bindings.Filling.{Filling}
use Rattle.match_fields.specs.declared.bindings.Run.{Run}
use Rattle.match_fields.specs.declared.bindings.Values.{Values}
use Rattle.match_fields.specs.bindings.Values.{slot, blank_run}
use Rattle.overlap_spec.specs.Variables.{numbers_from}
use Rattle.text_write.specs.declared.pieces.Page.{Page}
use Rattle.text_write.specs.pieces.Placed.{PlacedOn}
use Rattle.text_write.proofs.pieces.Pieces.{Left, left_next, rest_as, none_left, on_next, on_as}
use Rattle.print_matches.specs.answers.Values.{items_from, run_text, atom_text, list_text, said_value, name_text, noted_text}

-- ---- what a loop has left to put on a page

-- the rest, put on the page, makes the whole text put where the page was at `start`
pub record LeftOn (whole : List ℕ) (start : Page) (rest : List ℕ) (page : Page) : Type 0 where
  pub same_bytes : page.bytes.ghost_name ≡ start.bytes.ghost_name
  pub left : Left whole start.at start.bytes.now rest page.at page.bytes.now

module _ {whole : List ℕ} {start page : Page} where
  pub none_left_on : LeftOn whole start [] page → PlacedOn whole start page
  none_left_on h = record { same_bytes = h.same_bytes; placed = none_left whole start.at start.bytes.now h.left }

  pub rest_on_as : {a b : List ℕ} → a ≡ b → LeftOn whole start a page → LeftOn whole start b page
  rest_on_as e h = record { same_bytes = h.same_bytes; left = rest_as whole start.at start.bytes.now page.at page.bytes.now e h.left }

  pub left_on_next : (a b : List ℕ) {q : Page} → LeftOn whole start (a ++ b) page → PlacedOn a page q → LeftOn whole start b q
  left_on_next a b h k =
      record { same_bytes = k.same_bytes ∙ h.same_bytes; left = left_next whole start.at start.bytes.now a b h.left k.placed }

-- ---- the items of a run

-- each with its `:` in front
abbrev pub row_text : List Term → List ℕ
row_text l = colons (map raw_of (map view_term l))

module _ {A : Type 0} (l : List A) (start count from end : ℕ) (is-from : from ≡ min start (length l)) (is-end : end ≡ from + min count (length l - from)) where
  first : drop start l ≡ drop from l
  first = go (dec_le start (length l))
    where
      go : Dec (start ≤ length l) → drop start l ≡ drop from l
      go (yes h) = ap (λ (i : ℕ). drop i l) (let e : start ≡ from = omega arith in e)
      go (no h) = drop_of_length-le l {i = start} (omega arith) ∙ sym (drop_of_length-le l {i = from} (omega arith))

  most : take count (drop from l) ≡ take (min count (length l - from)) (drop from l)
  most = go (dec_le count (length l - from))
    where
      go : Dec (count ≤ length l - from) → take count (drop from l) ≡ take (min count (length l - from)) (drop from l)
      go (yes h) = ap (λ (i : ℕ). take i (drop from l)) (let e : count ≡ min count (length l - from) = omega arith in e)
      go (no h) =
          take_all count (drop from l) (omega (arith, length-drop from l))
          ∙ sym (take_all (min count (length l - from)) (drop from l) (omega (arith, length-drop from l)))

  part : take count (drop start l) ≡ drop from (take end l)
  part = ap (take count) first ∙ most ∙ part_of from (min count (length l - from)) l ∙ ap (λ (i : ℕ). drop from (take i l)) (sym is-end)

-- the run's items are those from `from` on before `end`
module _ (f : SlipField) (start count n from end : ℕ) (long : length f.terms ≡ most_items) (is_n : n ≡ min f.n most_items)
    (is-from : from ≡ min start n) (is-end : end ≡ from + min count (n - from)) where
  counted : n ≡ length (take f.n f.terms)
  counted = omega (arith, length-take f.n f.terms)

  pub items_are : items_from f start count ≡ drop from (take end f.terms)
  items_are =
      part (take f.n f.terms) start count from end (is-from ∙ ap (min start) counted) (is-end ∙ ap (λ (m : ℕ). from + min count (m - from)) counted)
      ∙ ap (drop from) (take-take end f.n f.terms (omega arith))

  pub no_items : end ≡ from → field_text (map view_term (items_from f start count)) ≡ field_text []
  no_items e =
      ap (λ (l : List Term). field_text (map view_term l))
      (items_are ∙ drop_of_length-le (take end f.terms) {i = from} (omega (arith, length-take end f.terms)))

  pub first_item : (d : Term) → from < end
      → field_text (map view_term (items_from f start count)) ≡ term_text (view_term (get_or f.terms from d)) ++ row_text (drop (from + 1) (take end f.terms))
  first_item d h = ap (λ (l : List Term). field_text (map view_term l)) (items_are ∙ here end f.terms from d h (omega arith))

pub next_item : (s : List Term) (end i : ℕ) (d : Term) → i < end → end ≤ length s
    → row_text (drop i (take end s)) ≡ (58 ∷ []) ++ (term_text (view_term (get_or s i d)) ++ row_text (drop (i + 1) (take end s)))
next_item s end i d h k = ap row_text (here end s i d h (omega arith))

pub last_item : (s : List Term) (end i : ℕ) → end ≤ i → row_text (drop i (take end s)) ≡ []
last_item s end i h = ap row_text (drop_of_length-le (take end s) {i = i} (omega (arith, length-take end s)))

-- ---- the variables of one type, by number

number_next : (g : ℕ → List ℕ) (n : ℕ) → n < numbers_of_side
    → concat_map g (numbers_from (numbers_of_side - n) n) ≡ g n ++ concat_map g (numbers_from (numbers_of_side - (n + 1)) (n + 1))
number_next g n h =
    ap (λ (m : ℕ). concat_map g (numbers_from m n)) (let e : numbers_of_side - n ≡ suc (numbers_of_side - (n + 1)) = omega arith in e)
    ∙ ap (λ (m : ℕ). g n ++ concat_map g (numbers_from (numbers_of_side - (n + 1)) m)) (sym (add-one n))

number_last : (g : ℕ → List ℕ) (n : ℕ) → numbers_of_side ≤ n → concat_map g (numbers_from (numbers_of_side - n) n) ≡ []
number_last g n h = ap (λ (m : ℕ). concat_map g (numbers_from m n)) (let e : numbers_of_side - n ≡ 0 = omega arith in e)

module _ (v : List Bool) (k : Kind) (value : ℕ → List ℕ) (start : Page) where
  abbrev one : ℕ → List ℕ
  one n = cond (get_or v (slot k n) false) (name_text k n ++ value n) []

  -- those from number n on are left to put on the page, which began at `start`
  abbrev pub From : ℕ → Page → Type 0
  From n page = (n ≤ numbers_of_side) × (length v ≡ variable_places)
      × LeftOn (noted_text v k value) start (concat_map one (numbers_from (numbers_of_side - n) n)) page

  pub from_as : (n : ℕ) {p q : Page} → q ≡ p → From n p → From n q
  from_as n e f = subst (From n) (sym e) f

  pub from_all : (n : ℕ) (page : Page) → From n page → numbers_of_side ≤ n → PlacedOn (noted_text v k value) start page
  from_all n page f h = none_left_on (rest_on_as (number_last one n h) f.2)

  module _ (n : ℕ) (page : Page) (f : From n page) (h : n < numbers_of_side) (i : ℕ) (is_i : i ≡ slot k n) (d : Bool) where
    below : i < length v
    below = omega (arith, is_i, rank_kinds k, f.1)

    noted : (b : Bool) → get_or v i d ≡ b → one n ≡ cond b (name_text k n ++ value n) []
    noted b e = ap (λ (a : Bool). cond a (name_text k n ++ value n) []) (ap (λ (j : ℕ). get_or v j false) (sym is_i) ∙ entry_any v i false d below ∙ e)

    rest : List ℕ
    rest = concat_map one (numbers_from (numbers_of_side - (n + 1)) (n + 1))

    left_as : (b : Bool) → get_or v i d ≡ b → LeftOn (noted_text v k value) start (cond b (name_text k n ++ value n) [] ++ rest) page
    unfolding rest
    left_as b e = rest_on_as (number_next one n h ∙ ap (λ (t : List ℕ). t ++ rest) (noted b e)) f.2

    pub from_one : get_or v i d ≡ true → {p q : Page} → PlacedOn (name_text k n) page p → PlacedOn (value n) p q → From (n + 1) q
    unfolding rest
    from_one e a b = (omega arith, f.1, left_on_next (name_text k n ++ value n) rest (left_as true e) (on_next a b))

    pub from_other : get_or v i d ≡ false → From (n + 1) page
    unfolding rest
    from_other e = (omega arith, f.1, left_as false e)

-- ---- the types in their order

module _ (v : List Bool) (ws : List SlipField) (x : Filling) where
  -- the rule's variables of one type
  abbrev pub kind_text : Kind → List ℕ
  kind_text k = noted_text v k (λ n. said_value k n ws x)

  module _ (start : Page) where
    -- the types from rank i on are left to put on the page, which began at `start`
    abbrev pub KindsFrom : ℕ → Page → Type 0
    KindsFrom i page = (i ≤ atom_kinds) × LeftOn (concat_map kind_text kinds) start (concat_map kind_text (drop i kinds)) page

    module _ (i : ℕ) (page : Page) (f : KindsFrom i page) where
      -- one more, which is below list
      pub kinds_next : i < atom_kinds → (k : Kind) → k ≡ kind_at i → {q : Page} → PlacedOn (noted_text v k (atom_text x.values k)) page q
          → KindsFrom (i + 1) q
      kinds_next h k e a = (
        omega arith,
        left_on_next (kind_text (kind_at i)) (concat_map kind_text (drop (i + 1) kinds))
            (rest_on_as (ap (concat_map kind_text) split) f.1) (on_as a told),
      )
        where
          split : drop i kinds ≡ kind_at i ∷ drop (i + 1) kinds
          split = drop-cons kinds i list (omega arith) ∙ ap (λ (j : ℕ). kind_at i ∷ drop j kinds) (sym (add-one i))

          told : kind_text (kind_at i) ≡ noted_text v k (atom_text x.values k)
          told =
              let b = basic_at i h in
              ap kind_text b.1 ∙ ap (λ (j : Kind). noted_text v j (atom_text x.values j)) (sym b.1 ∙ sym e)

      -- and list is the last
      pub kinds_all : atom_kinds ≤ i → {q : Page} → PlacedOn (noted_text v list (list_text ws x)) page q → PlacedOn (concat_map kind_text kinds) start q
      kinds_all h a =
          none_left_on (left_on_next (kind_text list) []
          (rest_on_as (ap (λ (j : ℕ). concat_map kind_text (drop j kinds)) (let e : i ≡ atom_kinds = omega (arith, f.0) in e)) f.1) a)

-- ---- a value, in its place

pub atom_shown : (v : Values) (k : Kind) (n i : ℕ) (d : Term) → i ≡ slot k n → i < length v.terms
    → atom_text v k n ≡ term_text (view_term (get_or v.terms i d))
atom_shown v k n i d e h =
    ap (λ (t : Term). term_text (view_term t)) (ap (λ (j : ℕ). get_or v.terms j blank_term) (sym e) ∙ entry_any v.terms i blank_term d h)

pub list_shown : (ws : List SlipField) (x : Filling) (n : ℕ) (d : Run) → n < length x.runs → list_text ws x n ≡ run_text ws (get_or x.runs n d)
list_shown ws x n d h = ap (run_text ws) (entry_any x.runs n blank_run d h)
