-- The tables of two rules and the lines on them; and that two texts which are accepted are noted as the tables of their rules. Assumes nothing.
use mathlib.Core.Path.{◌≡◌, refl, sym, ◌∙◌, ap, ap₂, subst, subst₂}
use mathlib.Core.Logic.{◌≢◌}
use mathlib.Core.Bool.{Bool, true, false, cond}
use mathlib.Core.List.{List, [], ◌∷◌, ◌++◌, map, foldl}
use Prim.Native.Nat.{ℕ, zero, suc, ◌*◌, ◌≤◌, min}
use native.Mathlib.Omega.{arith, by_contra}
use lib.ListN.{length, length-map}
use borrow.Author.Tests.{le-leb, eq-eqb, ne_eqb}
use Rattle.base_limits.specs.Limits.{most_fields, most_terms, field_places, rule_places, entry_line}
use Rattle.base_lists.specs.Seqs.{All}
use Rattle.text_grammar.specs.Told.{by_room}
use Rattle.text_grammar.specs.Terms.{OurFields}
use Rattle.text_grammar.specs.Limits.{IsLeft}
use Rattle.text_grammar.specs.Read.{rule, accepted, read_side}
use Rattle.text_grammar.proofs.Read.{read_accepted}
use Rattle.text_grammar.proofs.Accepted.{rule_read_lem}
use Rattle.overlap_spec.specs.Lines.{Line, line_text, list_text}
use Rattle.overlap_spec.specs.Overlaps.{lines_of, overlap_text}
use Rattle.math_codes.specs.Whole.{spots_of}
use Rattle.math_codes.proofs.Measures.{spot_terms, spots_few}
use Rattle.pair_table.specs.Notes.{side_noted, blank_rows}
use Rattle.pair_table.specs.Pairs.{PairIn}
use Rattle.pair_table.proofs.Pairs.{pair_noted}
use Rattle.text_passes.specs.Passes.{too_long}
use Rattle.text_grammar.specs.Walk.{walked}
use Rattle.text_passes.specs.Fields.{last_field, field_count}
use Rattle.text_passes.specs.Notes.{noted_in}
use Rattle.text_passes.proofs.Passes.{is_short}
use Rattle.text_write.specs.Answers.{after}
use Rattle.text_write.specs.pieces.Stored.{bytes_of}
use Rattle.pair_lines.specs.Lines.{spots_in}
use Rattle.pair_lines.proofs.Lines.{line_is, numbers_few_lem}
use Rattle.std.specs.Prelude.{Some, None, Ok}
use Rattle.overlap_counts.specs.declared.Counts.{Counts}
use Rattle.overlap_counts.specs.Answers.{Committed}
use Rattle.overlap_counts.specs.Answers as list
use Rattle.overlap_counts.specs.Answers.{no_counts}
use Rattle.overlap_list.specs.Listing.{all_lines, choices, tallied, Countable, pairing_of, Listable}
use Rattle.overlap_list.specs.Answers.{Listed, told, Lists, ListsLines}
use Rattle.overlap_list.specs.asking.Answers.{counts_of, Commits, line_counts, CommitsLines}
use Rattle.overlap_list.proofs.Lists.{LineIs, all_lines_lem}
use Rattle.overlap_list.proofs.Counts.{rule_short, countable_all, counted_all}
use Rattle.overlap_list.proofs.Short.{pair_short}

-- ---- no lines

pub none_listed : (x y : OurFields) → lines_of x y ≡ [] → (old : List ℕ) → Lists x y old (Ok no_counts) old
none_listed x y e old =
    let z = le-leb 0 (length old) (omega arith) in
    record {
      answer = subst (λ (l : List Line). told (Ok no_counts) ≡ by_room (length (list_text l)) (length old) (length l ∷ length (list_text l) ∷ [])) (sym e) (rw z);
      bytes = subst (λ (l : List Line). old ≡ after (list_text l) old) (sym e) (rw z);
    }

-- ---- lines as bytes that are the entries' lines

texts_are : (ls : List Line) → bytes_of (map line_text ls) ≡ list_text ls
texts_are [] = refl
texts_are (l ∷ ls) = ap (λ (t : List ℕ). line_text l ++ t) (texts_are ls)

module _ (x y : OurFields) {ls : List (List ℕ)} (are : ls ≡ map line_text (lines_of x y)) where
  bytes_are : bytes_of ls ≡ overlap_text x y
  bytes_are = ap bytes_of are ∙ texts_are (lines_of x y)

  entries_are : length ls ≡ length (lines_of x y)
  entries_are = ap length are ∙ length-map (lines_of x y) line_text

  pub lines_list : {old : List ℕ} {r : Listed} {new : List ℕ} → ListsLines ls old r new → Lists x y old r new
  lines_list {old} h =
      record {
        answer = h.answer ∙ ap₂ (λ (n m : ℕ). by_room m (length old) (n ∷ m ∷ [])) entries_are (ap length bytes_are);
        bytes = h.bytes ∙ ap (λ (t : List ℕ). after t old) bytes_are;
      }

  counts_are : line_counts ls ≡ counts_of x y
  counts_are = ap₂ (λ (n b : ℕ). record { entries = n; bytes = b }) entries_are (ap length bytes_are)

  -- lines that are counted from none on
  pub lines_counted : (u : Counts) → u ≡ tallied no_counts ls → u ≡ counts_of x y
  lines_counted u e = counted_all ls u e ∙ counts_are

  pub lines_commit : {asked : Counts} {old : List ℕ} {r : Committed} {new : List ℕ} → CommitsLines asked ls old r new → Commits asked x y old r new
  lines_commit {asked} {old} {r} {new} h = subst₂ (λ (c : Counts) (b : List ℕ). list.Commits asked c b old r new) counts_are bytes_are h

-- ---- the tables of two rules

module _ (r₁ r₂ : OurFields) (ok₁ : IsLeft r₁) (ok₂ : IsLeft r₂) (row texts : List ℕ) (pair : PairIn r₁ r₂ row texts) (n : ℕ)
    (is_left : n ≡ length r₁) (is_right : n ≡ length r₂) where
  at_most_four : n ≤ 4
  at_most_four = omega (arith, is_left, ok₁.0.1)

  left_spots : spots_in row false n ≡ spots_of field_places 0 r₁
  left_spots = ap (spots_in row false) is_left ∙ pair.left_shapes

  right_spots : spots_in row true n ≡ spots_of field_places rule_places r₂
  right_spots = ap (spots_in row true) is_right ∙ pair.right_shapes

  pub pair_countable : Countable no_counts (all_lines row texts n)
  pair_countable = countable_all row texts n (rule_short row false n 0 r₁ ok₁ left_spots) (rule_short row true n rule_places r₂ ok₂ right_spots) at_most_four

  -- no line is longer than the longest
  pub pair_few : length (bytes_of (all_lines row texts n)) ≤ choices row 0 n * entry_line
  pair_few = pair_short row texts n pair.bytes_few pair.left_tops.within pair.right_tops.within

  lines_are : LineIs row texts n
  lines_are cs last h =
      line_is row texts n at_most_four cs h
      (subst (All (λ s. spot_terms s ≤ most_terms)) (sym left_spots) (spots_few field_places 0 r₁ ok₁.0.2))
      (subst (All (λ s. spot_terms s ≤ most_terms)) (sym right_spots) (spots_few field_places rule_places r₂ ok₂.0.2))
      (numbers_few_lem row pair.left_tops.within pair.right_tops.within) last

  pub pair_lines_lem : all_lines row texts n ≡ map line_text (lines_of r₁ r₂)
  pair_lines_lem =
      all_lines_lem row texts n r₁ r₂ ok₁ ok₂ left_spots right_spots pair.tables pair.left_index pair.right_index pair.left_tops pair.right_tops
      lines_are

-- ---- whether two rules can have an entry

pub pairing_none : (n m : ℕ) → n ≡ 0 → pairing_of n m ≡ None
pairing_none n m e = ap (λ (k : ℕ). pairing_of k m) e

pub pairing_other : (n m : ℕ) → n ≢ m → pairing_of n m ≡ None
pairing_other zero m d = refl
pairing_other (suc n) m d = ap (λ (b : Bool). cond b (Some (suc n)) None) (ne_eqb (suc n) m d)

pub pairing_same : (n m : ℕ) → n ≢ 0 → n ≡ m → pairing_of n m ≡ Some n
pairing_same zero m d e = absurd (d refl)
pairing_same (suc n) m d e = ap (λ (b : Bool). cond b (Some (suc n)) None) (eq-eqb (suc n) m e)

-- ---- texts of sides

-- no text has more than four
pub fields_few : (t : List ℕ) → field_count t ≤ most_fields
fields_few t = go (too_long t)
  where
    go : (b : Bool) → cond b 0 (min (foldl last_field 0 (walked t)) most_fields) ≤ most_fields
    go true = omega arith
    go false = omega arith

-- one that is accepted is not too long
not_long : (t : List ℕ) (x : OurFields) → read_side t ≡ accepted x → too_long t ≡ false
not_long t x e =
    let n = ((read_accepted rule t x).0 e).0 in
    let short = by_contra (length t) rule.bytes (λ h. n.0 rule.bytes (h, refl)) in
    is_short t (omega arith)

-- both are noted, one after the other, in rows that hold nothing
module _ (t u row₀ texts₀ row₁ texts₁ row₂ texts₂ : List ℕ) (is-row₀ : row₀ ≡ blank_rows.0) (is-texts₀ : texts₀ ≡ blank_rows.1)
    (is-row₁ : row₁ ≡ (noted_in false t row₀ texts₀).0) (is-texts₁ : texts₁ ≡ (noted_in false t row₀ texts₀).1)
    (is-row₂ : row₂ ≡ (noted_in true u row₁ texts₁).0) (is-texts₂ : texts₂ ≡ (noted_in true u row₁ texts₁).1)
    (x y : OurFields) (reads-left : read_side t ≡ accepted x) (reads-right : read_side u ≡ accepted y) where
  abbrev Rows : Type 0
  Rows = List ℕ × List ℕ

  first : noted_in false t row₀ texts₀ ≡ side_noted false t blank_rows
  first =
      ap₂ (noted_in false t) is-row₀ is-texts₀
      ∙ ap (λ (b : Bool). cond b (blank_rows.0, blank_rows.1) (side_noted false t blank_rows)) (not_long t x reads-left)

  second : noted_in true u row₁ texts₁ ≡ side_noted true u (side_noted false t blank_rows)
  second =
      ap (λ (b : Bool). cond b (row₁, texts₁) (side_noted true u (row₁, texts₁))) (not_long u y reads-right)
      ∙ ap₂ (λ (a b : List ℕ). side_noted true u (a, b)) is-row₁ is-texts₁
      ∙ ap (λ (z : Rows). side_noted true u (z.0, z.1)) first

  tables_noted : PairIn x y row₂ texts₂
  tables_noted =
      subst₂ (λ (a b : List ℕ). PairIn x y a b)
      (sym (is-row₂ ∙ ap (λ (z : Rows). z.0) second))
      (sym (is-texts₂ ∙ ap (λ (z : Rows). z.1) second))
      (pair_noted t u x y reads-left reads-right)

  -- as many fields
  module _ (n : ℕ) (left_count : n ≡ length x) (right_count : n ≡ length y) where
    ok_left : IsLeft x
    ok_left = rule_read_lem t x reads-left

    ok_right : IsLeft y
    ok_right = rule_read_lem u y reads-right

    pub same_noted : Listable (Some n) row₂ texts₂ × (all_lines row₂ texts₂ n ≡ map line_text (lines_of x y))
    same_noted = (
      record {
        few = omega (arith, left_count, ok_left.0.1);
        can = pair_countable x y ok_left ok_right row₂ texts₂ tables_noted n left_count right_count;
        short = pair_few x y ok_left ok_right row₂ texts₂ tables_noted n left_count right_count;
      },
      pair_lines_lem x y ok_left ok_right row₂ texts₂ tables_noted n left_count right_count,
    )
