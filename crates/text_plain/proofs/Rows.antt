-- Items with a separator between them, put one behind the other: the terms of a field, the fields of a side or of a slip.
-- `Puts`: what a loop over the items behind the first has left to put. Assumes nothing.
use mathlib.Core.Path.{◌≡◌, refl, ◌∙◌, ap}
use mathlib.Core.List.{List, [], ◌∷◌, ◌++◌, map}
use Prim.Native.Nat.{ℕ, ◌+◌, ◌<◌, ◌≤◌}
use native.Mathlib.Numerals.{add-one}
use lib.ListN.{length, get_or, drop, drop_of_length-le}
use lib.Seq.{drop-cons}
use Rattle.text_grammar.specs.Grammar.{bars}
use Rattle.text_grammar.specs.Plain.{raw_field, field_text, plain}
use Rattle.text_values.specs.declared.Terms.{Terms}
use Rattle.text_values.specs.Values.{view_field}
use Rattle.text_write.proofs.Rows.{Row}
use Rattle.text_write.specs.pieces.Placed.{Placed, PlacedOn}
use Rattle.text_write.specs.declared.pieces.Page.{Page}
use Rattle.text_write.proofs.pieces.Pieces.{Left, none_left, left_next, rest_as, placed_next, placed_as}

-- the fields of a side or of a slip: their texts with a `|` between them
abbrev pub fields : {w : ℕ} → Row (Terms w)
fields {w} =
    record {
      item = λ f. field_text (view_field f);
      separator = 124;
      rest = λ fs. bars (map raw_field (map view_field fs));
      whole = λ fs. plain (map view_field fs);
      none = refl;
      one = λ f fs. refl;
      first = λ f fs. refl;
    }

module _ {A : Type 0} (R : Row A) (xs : List A) (from : ℕ) (old : List ℕ) where
  -- the items from i on are left, of those that began at `from` in `old`
  abbrev pub Puts : ℕ → ℕ → List ℕ → Type 0
  Puts i p out = Left (R.rest xs) from old (R.rest (drop i xs)) p out

  module _ (i p : ℕ) (out : List ℕ) (P : Puts i p out) where
    -- the separator and the next item
    pub puts_next : (x d : A) → x ≡ get_or xs i d → i < length xs
        → {a q : ℕ} {m new : List ℕ} → Placed (R.separator ∷ []) p out a m → Placed (R.item x) a m q new → Puts (i + 1) q new
    puts_next x d is h between item =
        let behind = R.rest (drop (i + 1) xs) in
        let here : drop i xs ≡ x ∷ drop (i + 1) xs = drop-cons xs i d h ∙ rw (add-one, is) in
        let e : R.rest (drop i xs) ≡ (R.separator ∷ []) ++ (R.item x ++ behind) = ap R.rest here ∙ R.one x (drop (i + 1) xs) in
        let separated = rest_as (R.rest xs) from old p out e P in
        left_next (R.rest xs) from old (R.item x) behind (left_next (R.rest xs) from old (R.separator ∷ []) (R.item x ++ behind) separated between) item

    pub puts_last : length xs ≤ i → Placed (R.rest xs) from old p out
    puts_last h = none_left (R.rest xs) from old (rest_as (R.rest xs) from old p out (ap R.rest (drop_of_length-le xs {i = i} h) ∙ R.none) P)

  -- the first item, and the others behind it
  pub puts_whole : (x : A) (at : ℕ) (l : List ℕ) {q : ℕ} {new : List ℕ} → Placed (R.item x) at l from old → Placed (R.rest xs) from old q new
      → Placed (R.whole (x ∷ xs)) at l q new
  puts_whole x at l first others = placed_as at l (R.first x xs) (placed_next (R.item x) (R.rest xs) at l first others)

-- ---- the same on a page

module _ {A : Type 0} (R : Row A) (xs : List A) (start : Page) where
  -- the items from i on are left to put on the page, which began at `start`
  pub record PutsOn (i : ℕ) (page : Page) : Type 0 where
    pub same_bytes : page.bytes.ghost_name ≡ start.bytes.ghost_name
    pub left : Puts R xs start.at start.bytes.now i page.at page.bytes.now

  module _ (i : ℕ) (page : Page) (P : PutsOn i page) where
    pub on_row_next : (x d : A) → x ≡ get_or xs i d → i < length xs
        → {p q : Page} → PlacedOn (R.separator ∷ []) page p → PlacedOn (R.item x) p q → PutsOn (i + 1) q
    on_row_next x d is h between item =
        record {
          same_bytes = item.same_bytes ∙ between.same_bytes ∙ P.same_bytes;
          left = puts_next R xs start.at start.bytes.now i page.at page.bytes.now P.left x d is h between.placed item.placed;
        }

    -- the first item was put before these
    pub on_row_whole : length xs ≤ i → (x : A) → {old : Page} → PlacedOn (R.item x) old start → PlacedOn (R.whole (x ∷ xs)) old page
    on_row_whole h x {old} first =
        record {
          same_bytes = P.same_bytes ∙ first.same_bytes;
          placed = puts_whole R xs start.at start.bytes.now x old.at old.bytes.now first.placed
              (puts_last R xs start.at start.bytes.now i page.at page.bytes.now P.left h);
        }
