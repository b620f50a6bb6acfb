-- THE TABLES of two texts that are accepted are those of their rules.
use mathlib.Core.Path.{◌≡◌, refl, sym, ap, ap₂, ◌∙◌, subst}
use mathlib.Core.Logic.{◌⊎◌, inl, inr}
use mathlib.Core.Bool.{Bool, true, false, cond, ◌||◌, false≢true}
use mathlib.Core.Option.{Option, none, some, none-ne-some, some-injective}
use mathlib.Core.List.{List, [], ◌∷◌, ◌++◌, map, append_assoc, append-nil}
use Prim.Native.Nat.{ℕ, suc, ◌+◌, ◌-◌, ◌*◌, ◌≤◌, ◌<◌}
use native.Mathlib.Omega.{arith}
use native.Mathlib.Decide.{dec_lt}
use lib.Dec.{eqb, ltb}
use lib.ListN.{length, get_or, replicate, length-append, length-map, length-replicate, get_or-replicate, get_or-append, get_or-map, get_or-eq_default}
use lib.Seq.{get_or-append-add}
use borrow.Author.Tests.{lt-ltb, le-ltb, le-leb, lt-leb}
use Rattle.base_limits.specs.Limits.{most_fields, longest_string, numbers_of_side, variable_places, field_places, rule_places, pair_places, list_items, pair_fields}
use Rattle.base_lists.specs.Seqs.{tabulate, tabulate_long, tabulate_at}
use Rattle.math_types.specs.Order.{basic, list}
use Rattle.math_types.specs.Types.{Kind, basics, rank}
use Rattle.math_terms.specs.Terms.{con, var, con_once, con≢var, kind_once}
use Rattle.text_grammar.specs.Limits.{IsLeft}
use Rattle.text_grammar.specs.Plain.{term_text}
use Rattle.text_grammar.specs.Read.{accepted, read_side}
use Rattle.text_grammar.specs.Terms.{OurTerm}
use Rattle.text_grammar.specs.constants.Constants.{Con, int, str, consts, con_kind}
use Rattle.text_grammar.proofs.Accepted.{rule_read_lem}
use Rattle.math_overlaps.specs.Shapes.{fixed, free, left, right, of}
use Rattle.math_overlaps.specs.Candidates.{range}
use Rattle.math_overlaps.specs.Overlaps.{Origin, place, term_of}
use Rattle.overlap_spec.specs.Variables.{in_field, occurs}
use Rattle.math_codes.specs.Tables.{Holds, kind_a, is_free, Made}
use Rattle.math_codes.specs.Entries.{rule_row}
use Rattle.math_codes.specs.Items.{shown_at}
use Rattle.math_codes.specs.Names.{is_var, MadeTerms}
use Rattle.math_codes.specs.Spots.{Spot}
use Rattle.math_codes.specs.Lines.{our_vars, OurAtom, OurOriginTerm, our_ranks, our_row, our_terms}
use Rattle.math_codes.specs.Whole.{spots_of}
use Rattle.math_codes.specs.Index.{Right, Indexes, Tops}
use Rattle.math_codes.proofs.Tables.{holds_below}
use Rattle.math_codes.proofs.Items.{range_at, shown_some}
use Rattle.math_codes.proofs.Places.{left_stand, left_long, right_stand, pair_long}
use Rattle.pair_row.specs.Row.{kinds_at, indexes_at, count_at, row_bytes, texts_bytes, is_set, cell_bytes}
use Rattle.pair_row.specs.Row.{table_in, text_in, bytes_in, spot_in, index_in, top_in}
use Rattle.pair_table.specs.Notes.{side_noted, blank_rows, rows_of}
use Rattle.pair_table.specs.Pairs.{PairIn}
use Rattle.pair_table.proofs.PairsRow.{shape_at, spot_at, spot_is}
use Rattle.pair_table.proofs.PairsCells.{Cell, bytes_of, cell_bytes_lem}
use Rattle.pair_table.proofs.PairsNotes.{Gap}
use Rattle.pair_table.proofs.PairsIndexes.{side_in, index_on, top_on, in_append, RightIn, Indexed}
use Rattle.pair_table.proofs.PairsTerms.{field_spot, Noted, turn}
use Rattle.pair_table.proofs.PairsRules.{gap_at, Gaps, rule_long, gaps_at, flat, rule_noted}

-- ---- rows that hold nothing

abbrev zeros_of : ℕ → List ℕ
zeros_of n = replicate n 0

zero_at : (n j : ℕ) → get_or (zeros_of n) j 0 ≡ 0
zero_at n j = go (dec_lt j n)
  where
    go : Dec (j < n) → get_or (zeros_of n) j 0 ≡ 0
    go (yes h) = get_or-replicate n j 0 0 h
    go (no h) = get_or-eq_default (zeros_of n) 0 {n = j} (omega (arith, length-replicate {A = ℕ} n 0))

module _ (t : List (Option OurAtom)) (G : ℕ → List OurTerm) (row texts : List ℕ) (z : (j : ℕ) → get_or row j 0 ≡ 0)
    (y : (j : ℕ) → get_or texts j 0 ≡ 0) (long : length row ≡ row_bytes) (wide : length texts ≡ texts_bytes) where
  blank_indexes : (s : Bool) → Indexed t s [] 0 row
  blank_indexes s =
      record {
        absent = λ k n l e. z (index_on s + numbers_of_side * rank k + n);
        present = λ k n l e. absurd (false≢true e);
        met = λ q k n l v. absurd (omega arith);
        within = λ k l. omega (arith, z (top_on s + k));
        above = λ k n e. absurd (false≢true e);
      }

  blank_spot : (f : ℕ) → spot_at row f ≡ field_spot (field_places * f) []
  blank_spot f = spot_is row f 0 0 false 0 (z (shape_at f)) (z (shape_at f + 1)) (ap is_set (z (shape_at f + 3))) (z (shape_at f + 2))

  blank_noted : Noted t G false 0 [] [] [] 0 row texts
  blank_noted =
      record {
        place = refl;
        long = long;
        wide = wide;
        codes =
            record {
              firsts = λ q a l k. absurd (omega arith);
              kinds = λ q a l k. absurd (omega arith);
              variables = λ q a l k. absurd (omega arith);
            };
        members =
            record {
              few = omega (arith, z count_at);
              each = λ i l. absurd (omega (arith, z count_at));
              all = λ q d l k. absurd (omega arith);
            };
        cells = λ q d l k. absurd (omega arith);
        small = λ q. omega (arith, y (cell_bytes * q));
        here = blank_indexes false;
        beside = blank_indexes true;
        shaped =
            record {
              before = λ g a b. absurd (omega arith);
              here = λ b. blank_spot 0;
              later = λ g a b. blank_spot g;
            };
      }

-- ---- the fields of a pair

abbrev field_in : List (List OurTerm) → List (List OurTerm) → ℕ → List OurTerm
field_in r₁ r₂ g = cond (ltb g 4) (get_or r₁ g []) (get_or r₂ (g - 4) [])

field_left : (r₁ r₂ : List (List OurTerm)) (g : ℕ) → g < 4 → field_in r₁ r₂ g ≡ get_or r₁ g []
field_left r₁ r₂ g h = ap (λ (b : Bool). cond b (get_or r₁ g []) (get_or r₂ (g - 4) [])) (lt-ltb g 4 h)

field_right : (r₁ r₂ : List (List OurTerm)) (g : ℕ) → field_in r₁ r₂ (4 + g) ≡ get_or r₂ g []
field_right r₁ r₂ g =
    ap (λ (b : Bool). cond b (get_or r₁ (4 + g) []) (get_or r₂ (4 + g - 4) [])) (le-ltb (4 + g) 4 (omega arith))
    ∙ ap (λ (j : ℕ). get_or r₂ j []) (let e : 4 + g - 4 ≡ g = omega arith in e)

-- ---- both texts

module _ (r₁ r₂ : List (List OurTerm)) (ok₁ : IsLeft r₁) (ok₂ : IsLeft r₂) where
  abbrev Row : Type 0
  Row = List (Option OurAtom)

  abbrev t : Row
  t = our_row r₁ r₂

  abbrev rest₁ : ℕ
  rest₁ = rule_places - length r₁ * field_places

  abbrev rest₂ : ℕ
  rest₂ = rule_places - length r₂ * field_places

  abbrev part₁ : Row
  part₁ = rule_row field_places left r₁ ++ replicate rest₁ none

  abbrev part₂ : Row
  part₂ = rule_row field_places right r₂ ++ replicate rest₂ none

  few₁ : length r₁ * field_places ≤ rule_places
  few₁ = omega (arith, ok₁.0.1)

  few₂ : length r₂ * field_places ≤ rule_places
  few₂ = omega (arith, ok₂.0.1)

  long₁ : length part₁ ≡ rule_places
  long₁ = left_long field_places most_fields r₁ r₂ ok₁.0.2 ok₂.0.2 few₁

  row_long : length t ≡ pair_places
  row_long = pair_long field_places most_fields r₁ r₂ ok₁.0.2 ok₂.0.2 few₁ few₂

  spread : t ≡ rule_row field_places left r₁ ++ (replicate rest₁ none ++ part₂)
  spread = append_assoc (rule_row field_places left r₁) (replicate rest₁ none) part₂

  gaps₁ : Gaps t 0 r₁
  gaps₁ = subst (λ (x : Row). Gaps x 0 r₁) (sym spread) (gaps_at left r₁ ok₁.0.2 [] (replicate rest₁ none ++ part₂) 0 refl)

  gap₁ : Gap t (field_places * (0 + length r₁)) rule_places
  gap₁ =
      subst (λ (x : Row). Gap x (field_places * (0 + length r₁)) rule_places) (sym spread)
      (gap_at (rule_row field_places left r₁) rest₁ part₂ (field_places * (0 + length r₁)) rule_places (omega (arith, rule_long left r₁ ok₁.0.2))
      (omega (arith, ok₁.0.1)))

  gaps₂ : Gaps t rule_places r₂
  gaps₂ = gaps_at right r₂ ok₂.0.2 part₁ (replicate rest₂ none) rule_places long₁

  gap₂ : Gap t (field_places * (4 + length r₂)) pair_places
  gap₂ =
      subst (λ (x : Row). Gap x (field_places * (4 + length r₂)) pair_places)
      (append_assoc part₁ (rule_row field_places right r₂) (replicate rest₂ none ++ [])
      ∙ ap (λ (x : Row). part₁ ++ (rule_row field_places right r₂ ++ x)) (append-nil (replicate rest₂ none)))
      (gap_at (part₁ ++ rule_row field_places right r₂) rest₂ [] (field_places * (4 + length r₂)) pair_places
      (omega (arith, long₁, length-append part₁ (rule_row field_places right r₂), rule_long right r₂ ok₂.0.2)) (omega (arith, ok₂.0.1)))

  -- ALL is noted
  both_noted : (u v : List ℕ) → read_side u ≡ accepted r₁ → read_side v ≡ accepted r₂
      → Noted t (field_in r₁ r₂) true 8 [] (flat r₂) (flat r₁) pair_places
      (side_noted true v (side_noted false u blank_rows)).0 (side_noted true v (side_noted false u blank_rows)).1
  both_noted u v a b =
      let x = side_noted false u blank_rows in
      let n = rule_noted t (field_in r₁ r₂) false u [] r₁ 0 [] blank_rows a refl (left_stand field_places most_fields r₁ r₂ ok₁.0.2 ok₂.0.2 few₁) gaps₁ gap₁
      (λ j l. ap (field_in r₁ r₂) (let e : 0 + j ≡ j = omega arith in e) ∙ field_left r₁ r₂ j l)
      (blank_noted t (field_in r₁ r₂) blank_rows.0 blank_rows.1 (zero_at row_bytes) (zero_at texts_bytes)
      (length-replicate {A = ℕ} row_bytes 0) (length-replicate {A = ℕ} texts_bytes 0)) in
      rule_noted t (field_in r₁ r₂) true v (flat r₁) r₂ 4 [] x b refl (right_stand field_places most_fields r₁ r₂ ok₁.0.2 ok₂.0.2 few₁) gaps₂ gap₂
      (λ j l. field_right r₁ r₂ j) (turn t (field_in r₁ r₂) (flat r₁) [] most_fields rule_places [] x.0 x.1 n)

-- ---- a field's numbers in their order

spots_are : (r : List (List OurTerm)) (b : ℕ) (F : ℕ → Spot ℕ) → ((j : ℕ) → j < length r → F j ≡ field_spot (b + field_places * j) (get_or r j []))
    → tabulate (length r) F ≡ spots_of field_places b r
spots_are [] b F h = refl
spots_are (f ∷ r) b F h =
    ap₂ (λ (x : Spot ℕ) (l : List (Spot ℕ)). x ∷ l) (h 0 (omega arith) ∙ ap (λ (n : ℕ). field_spot n f) (let e : b + field_places * 0 ≡ b = omega arith in e))
    (spots_are r (b + field_places) (λ j. F (suc j)) (λ j l. h (suc j) (omega arith)
    ∙ ap (λ (n : ℕ). field_spot n (get_or r j [])) (let e : b + field_places * suc j ≡ b + field_places + field_places * j = omega arith in e)))

-- ---- occurrence in a rule and in its terms

occurs_flat : (k : Kind) (n : ℕ) (r : List (List OurTerm)) → in_field k n (flat r) ≡ occurs k n r
occurs_flat k n [] = refl
occurs_flat k n (f ∷ r) = in_append k n f (flat r) ∙ ap (λ (b : Bool). in_field k n f || b) (occurs_flat k n r)

-- ---- THE TABLES

module _ (r₁ r₂ : List (List OurTerm)) (ok₁ : IsLeft r₁) (ok₂ : IsLeft r₂) (row texts : List ℕ)
    (c : Noted (our_row r₁ r₂) (field_in r₁ r₂) true 8 [] (flat r₂) (flat r₁) pair_places row texts) where
  abbrev atoms : List (Option OurAtom)
  atoms = our_row r₁ r₂

  many : length atoms ≡ pair_places
  many = row_long r₁ r₂ ok₁ ok₂

  below : (p : ℕ) (a : OurAtom) → Holds atoms p a → p < pair_places
  below p a h = omega (arith, many, holds_below atoms p a h)

  kind_at : (p : ℕ) (a : OurAtom) → Holds atoms p a → (table_in row).kind p ≡ rank (basic (kind_a basics consts our_vars a))
  kind_at p a h = let l = below p a h in rw (lt-leb pair_places p l) (c.codes.kinds p a l h)

  variable_at : (p : ℕ) (a : OurAtom) → Holds atoms p a → (table_in row).variable p ≡ is_free basics consts our_vars a
  variable_at p a h = let l = below p a h in rw (lt-leb pair_places p l) (c.codes.variables p a l h)

  made_atoms : Made basics consts our_vars our_ranks (table_in row) atoms
  made_atoms =
      record {
        long = tabulate_long pair_places (λ p. get_or row p 0) ∙ sym many;
        firsts = λ p a h.
            let l = below p a h in
            tabulate_at pair_places (λ p. get_or row p 0) p 0 l ∙ c.codes.firsts p a l h;
        kinds = kind_at;
        variables = variable_at;
      }

  -- an item's term is that of an atom, or an entry's list variable
  abbrev Item : ℕ → OurOriginTerm → Type 0
  Item p u = ((a : OurAtom) × Holds atoms p a × (term_of a ≡ u)) ⊎ ((g : ℕ) × (g < list_items) × (p ≡ pair_places + g) × (var list (place g) ≡ u))

  abbrev list_term : ℕ → Option OurOriginTerm
  list_term g = some (var list (place g))

  item_is : (p : ℕ) (u : OurOriginTerm) → Holds (our_terms r₁ r₂) p u → Item p u
  item_is p u h = go (dec_lt p pair_places) (dec_lt (p - pair_places) list_items)
    where
      go : Dec (p < pair_places) → Dec (p - pair_places < list_items) → Item p u
      go (yes l) d =
          inl (shown_some (get_or atoms p none) u
          (sym (get_or-append (map shown_at atoms) (map list_term (range 0 list_items)) none p (omega (arith, l, many, length-map atoms shown_at))
          ∙ get_or-map shown_at atoms p none) ∙ h))
      go (no n) d = behind d (let e : p ≡ length (map shown_at atoms) + (p - pair_places) = omega (arith, many, length-map atoms shown_at) in e)
        where
          at : p ≡ length (map shown_at atoms) + (p - pair_places) → get_or (map list_term (range 0 list_items)) (p - pair_places) none ≡ some u
          at e =
              sym (get_or-append-add (map shown_at atoms) (map list_term (range 0 list_items)) (p - pair_places) none)
              ∙ ap (λ (j : ℕ). get_or (our_terms r₁ r₂) j none) (sym e) ∙ h

          behind : Dec (p - pair_places < list_items) → p ≡ length (map shown_at atoms) + (p - pair_places) → Item p u
          behind (yes l) e =
              inr (
                p - pair_places,
                l,
                omega arith,
                ap (λ (j : ℕ). var list (place j)) (let z : p - pair_places ≡ 0 + (p - pair_places) = omega arith in z)
                    ∙ some-injective (var list (place (0 + (p - pair_places)))) u (sym (range_at list_term 0 list_items (p - pair_places) none l) ∙ at e),
              )
          behind (no m) e =
              absurd (none-ne-some u (sym (get_or-eq_default (map list_term (range 0 list_items)) none {n = p - pair_places} (omega arith)) ∙ at e))

  made_terms : MadeTerms rank (table_in row) (our_terms r₁ r₂)
  made_terms =
      record {
        kinds = λ p k b h. kinds_by p k b (item_is p (var k b) h);
        variables = λ p u h. variables_by p u (item_is p u h);
      }
    where
      kinds_by : (p : ℕ) (k : Kind) (b : Origin ℕ) → Item p (var k b) → (table_in row).kind p ≡ rank k
      kinds_by p k b (inl (fixed d, h, e)) = absurd (con≢var e)
      kinds_by p k b (inl (free (of s j n), h, e)) = kind_at p (free (of s j n)) h ∙ ap rank (kind_once e)
      kinds_by p k b (inr (g, l, e, q)) = rw (le-leb pair_places p (omega arith)) (ap rank (kind_once q))

      variables_by : (p : ℕ) (u : OurOriginTerm) → Item p u → (table_in row).variable p ≡ is_var u
      variables_by p u (inl (fixed d, h, e)) = variable_at p (fixed d) h ∙ ap is_var e
      variables_by p u (inl (free (of s j n), h, e)) = variable_at p (free (of s j n)) h ∙ ap is_var e
      variables_by p u (inr (g, l, e, q)) = rw (le-leb pair_places p (omega arith)) (ap is_var q)

  -- plain texts
  plain_by : (p : ℕ) (d : Con) → Holds atoms p (fixed d) → text_in row texts p ≡ term_text (con d)
  plain_by p d h = go d (c.codes.kinds p (fixed d) l h) (cell_bytes_lem texts p (bytes_of d) c.wide l o.1 o.0)
    where
      l : p < pair_places
      l = below p (fixed d) h

      o : Cell texts p (bytes_of d) × (length (bytes_of d) ≤ longest_string)
      o = c.cells p d l h

      go : (b : Con) → get_or row (kinds_at + p) 0 ≡ rank (basic (con_kind b)) → bytes_in texts p ≡ bytes_of b → text_in row texts p ≡ term_text (con b)
      go (int m n) k e = ap (λ (j : ℕ). cond (eqb j 1) (34 ∷ (bytes_in texts p ++ 34 ∷ [])) (bytes_in texts p)) k ∙ e
      go (str b) k e =
          ap (λ (j : ℕ). cond (eqb j 1) (34 ∷ (bytes_in texts p ++ 34 ∷ [])) (bytes_in texts p)) k ∙ ap (λ (z : List ℕ). 34 ∷ (z ++ 34 ∷ [])) e

  plain_at : (p : ℕ) (d : Con) → Holds (our_terms r₁ r₂) p (con d) → text_in row texts p ≡ term_text (con d)
  plain_at p d h = go (item_is p (con d) h)
    where
      go : Item p (con d) → text_in row texts p ≡ term_text (con d)
      go (inl (fixed b, k, e)) = plain_by p b k ∙ ap (λ (z : Con). term_text (con z)) (con_once e)
      go (inl (free (of s j n), k, e)) = absurd (con≢var (sym e))
      go (inr (g, l, e, q)) = absurd (con≢var (sym q))

  -- ---- shapes

  spot_at_lem : (g : ℕ) → g < pair_fields → spot_at row g ≡ field_spot (field_places * g) (field_in r₁ r₂ g)
  spot_at_lem g l = c.shaped.before g l l

  shapes₁ : tabulate (length r₁) (spot_in row false) ≡ spots_of field_places 0 r₁
  shapes₁ =
      spots_are r₁ 0 (spot_in row false) (λ j l.
      spot_at_lem j (omega (arith, l, ok₁.0.1)) ∙ ap₂ field_spot (let e : field_places * j ≡ 0 + field_places * j = omega arith in e)
      (field_left r₁ r₂ j (omega (arith, l, ok₁.0.1))))

  shapes₂ : tabulate (length r₂) (spot_in row true) ≡ spots_of field_places rule_places r₂
  shapes₂ =
      spots_are r₂ rule_places (spot_in row true) (λ j l.
      spot_at_lem (most_fields + j) (omega (arith, l, ok₂.0.1))
      ∙ ap₂ field_spot (let e : field_places * (most_fields + j) ≡ rule_places + field_places * j = omega arith in e) (field_right r₁ r₂ j))

  -- ---- variables

  index_read : (s : Bool) (k : Kind) (n : ℕ) → index_in row s (numbers_of_side * rank k + n) ≡ get_or row (index_on s + numbers_of_side * rank k + n) 0
  index_read true k n =
      ap (λ (j : ℕ). get_or row j 0)
      (let e : indexes_at + variable_places + (numbers_of_side * rank k + n) ≡ indexes_at + variable_places + numbers_of_side * rank k + n = omega arith in e)
  index_read false k n =
      ap (λ (j : ℕ). get_or row j 0) (let e : indexes_at + (numbers_of_side * rank k + n) ≡ indexes_at + numbers_of_side * rank k + n = omega arith in e)

  top_read : (s : Bool) (k : ℕ) → top_in row s k ≡ get_or row (top_on s + k) 0
  top_read true k = refl
  top_read false k = refl

  right_read : (s : Bool) (k : Kind) (n v : ℕ) → RightIn atoms s k n v → Right r₁ r₂ (side_in s) k n v
  right_read s (basic k) n v h = h
  right_read s list n v h = h

  indexes : (s : Bool) (r : List (List OurTerm)) → Indexed atoms s (flat r) pair_places row → Indexes r₁ r₂ (side_in s) r (index_in row s)
  indexes s r m =
      record {
        absent = λ k n l e. index_read s k n ∙ m.absent k n l (occurs_flat k n r ∙ e);
        present = λ k n l e. right_read s k n (index_in row s (numbers_of_side * rank k + n))
            (subst (RightIn atoms s k n) (sym (index_read s k n)) (m.present k n l (occurs_flat k n r ∙ e)));
      }

  tops : (s : Bool) (r : List (List OurTerm)) → Indexed atoms s (flat r) pair_places row → Tops r (top_in row s)
  tops s r m =
      record {
        within = λ k l. omega (arith, top_read s k, m.within k l);
        above = λ k n e. omega (arith, top_read s (rank k), m.above k n (occurs_flat k n r ∙ e));
      }

  pub pair_in : PairIn r₁ r₂ row texts
  pair_in =
      record {
        tables = record { atoms = made_atoms; terms = made_terms; plain = plain_at };
        bytes_few = c.small;
        left_shapes = shapes₁;
        right_shapes = shapes₂;
        left_index = indexes false r₁ c.beside;
        right_index = indexes true r₂ c.here;
        left_tops = tops false r₁ c.beside;
        right_tops = tops true r₂ c.here;
      }

-- THE TABLES of two texts
pub pair_noted : (t u : List ℕ) (r₁ r₂ : List (List OurTerm)) → read_side t ≡ accepted r₁ → read_side u ≡ accepted r₂
    → PairIn r₁ r₂ (rows_of t u).0 (rows_of t u).1
pair_noted t u r₁ r₂ a b =
    let x = side_noted true u (side_noted false t blank_rows) in
    let ok₁ = rule_read_lem t r₁ a in
    let ok₂ = rule_read_lem u r₂ b in
    pair_in r₁ r₂ ok₁ ok₂ x.0 x.1 (both_noted r₁ r₂ ok₁ ok₂ t u a b)
