-- The terms of a field are noted one by one: `Noted` says all that stands in row and texts behind them.
use mathlib.Core.Path.{◌≡◌, refl, sym, ap, ◌∙◌, subst}
use mathlib.Core.Logic.{◌≢◌}
use mathlib.Core.Bool.{Bool, true, false, not}
use mathlib.Core.Option.{Option, none, none-ne-some}
use mathlib.Core.List.{List, [], ◌∷◌, ◌++◌, foldl-append}
use Prim.Native.Nat.{ℕ, suc, ◌+◌, ◌*◌, ◌≤◌, ◌<◌}
use native.Mathlib.Omega.{arith}
use native.Mathlib.Decide.{dec_lt, ℕ_discrete}
use lib.ListN.{length, get_or, length-append}
use Rattle.base_limits.specs.Limits.{most_terms, longest_string, largest_number, field_places, pair_places, pair_fields}
use Rattle.math_types.specs.Order.{basic, list}
use Rattle.math_types.specs.Types.{Basic, Kind, rank}
use Rattle.math_terms.specs.Terms.{con, var}
use Rattle.text_grammar.specs.Terms.{OurTerm}
use Rattle.text_grammar.specs.constants.Constants.{Con, con_kind}
use Rattle.math_overlaps.specs.Shapes.{fixed, free, Side, of, fixed≢free}
use Rattle.math_codes.specs.Tables.{Holds}
use Rattle.math_codes.specs.Entries.{atom_of}
use Rattle.math_codes.specs.Spots.{Spot, scan_term, spot_of}
use Rattle.math_codes.specs.Lines.{OurAtom}
use Rattle.math_codes.proofs.Tables.{holds_once}
use Rattle.pair_row.specs.Row.{shapes_at, indexes_at, row_bytes, texts_bytes, cell_bytes}
use Rattle.pair_table.specs.Notes.{celled, constant_noted, variable_noted, shape_noted, terms_in}
use Rattle.pair_table.proofs.PairsRow.{spot_at, is_list_term, number_of, spot_same, spot_count, terms_count, spot_count_lem, shape_long, shape_other, spot_step}
use Rattle.pair_table.proofs.PairsCells.{Cell, bytes_of, celled_long, celled_few}
use Rattle.pair_table.proofs.PairsNotes.{Same, Gap, no_gap, Codes, codes_same, codes_gap, Members, members_keep, Cells}
use Rattle.pair_table.proofs.PairsConstants.{cells_next, constant_out}
use Rattle.pair_table.proofs.PairsIndexes.{side_in, in_constant, Indexed, untouched, indexed_keep, indexed_same, indexed_gap}
use Rattle.pair_table.proofs.PairsVariables.{long_y, codes_variable, members_variable, indexed_variable, indexed_beside, shapes_stay}

abbrev pub field_spot : ℕ → List OurTerm → Spot ℕ
field_spot b f = spot_of b f

-- t has the pair's atoms by place, G its fields' terms
module _ (t : List (Option OurAtom)) (G : ℕ → List OurTerm) where
  -- ---- shapes: the fields before f, its terms fs so far, nothing of the later ones

  pub record Shaped (f : ℕ) (fs : List OurTerm) (row : List ℕ) : Type 0 where
    pub before : (g : ℕ) → g < f → g < pair_fields → spot_at row g ≡ field_spot (field_places * g) (G g)
    pub here : f < pair_fields → spot_at row f ≡ field_spot (field_places * f) fs
    pub later : (g : ℕ) → f < g → g < pair_fields → spot_at row g ≡ field_spot (field_places * g) []

  room_is : (f : ℕ) (fs : List OurTerm) (row : List ℕ) → f < pair_fields → Shaped f fs row → terms_in row f ≡ length fs
  room_is f fs row l c = terms_count row f ∙ ap spot_count (c.here l) ∙ spot_count_lem (field_places * f) fs

  shaped_next : (f : ℕ) (fs : List OurTerm) (u : OurTerm) (row row' : List ℕ) → f < pair_fields → length fs < most_terms → length row ≡ row_bytes
      → ((j : ℕ) → shapes_at ≤ j → j < indexes_at → Same (shape_noted f (is_list_term u) (number_of u) row) row' j)
      → Shaped f fs row → Shaped f (fs ++ u ∷ []) row'
  shaped_next f fs u row row' l m long s c =
      record {
        before = λ g a b. stays g (λ e. omega arith) b ∙ c.before g a b;
        here = λ b.
            spot_same (shape_noted f (is_list_term u) (number_of u) row) row' f (λ j x y. s j (omega arith) (omega arith))
            ∙ spot_step f row long l (omega (arith, room_is f fs row l c)) u
            ∙ ap (λ z. scan_term z u) (c.here l)
            ∙ sym (foldl-append scan_term (field_spot (field_places * f) []) fs (u ∷ []));
        later = λ g a b. stays g (λ e. omega arith) b ∙ c.later g a b;
      }
    where
      stays : (g : ℕ) → g ≢ f → g < pair_fields → spot_at row' g ≡ spot_at row g
      stays g d b = spot_same row row' g
          (λ j x y. s j (omega arith) (omega arith) ∙ shape_other f (is_list_term u) (number_of u) row j (λ v w. d (omega arith)))

  shaped_close : (f : ℕ) (fs : List OurTerm) (row : List ℕ) → fs ≡ G f → Shaped f fs row → Shaped (suc f) [] row
  shaped_close f fs row e c =
      record {
        before = λ g a b. by g a b (ℕ_discrete g f);
        here = λ b. c.later (suc f) (omega arith) b;
        later = λ g a b. c.later g (omega arith) b;
      }
    where
      by : (g : ℕ) → g < suc f → g < pair_fields → Dec (g ≡ f) → spot_at row g ≡ field_spot (field_places * g) (G g)
      by g a b (yes q) =
          subst (λ (x : ℕ). x < pair_fields → spot_at row x ≡ field_spot (field_places * x) (G x)) (sym q) (λ l. c.here l ∙ ap (field_spot (field_places * f)) e) b
      by g a b (no d) = c.before g (omega (arith, d)) b

  -- ---- all

  -- of the rule on the side s the terms d, of the other one the terms e; the next place is p, behind the terms fs of the field f
  pub record Noted (s : Bool) (f : ℕ) (fs d e : List OurTerm) (p : ℕ) (row texts : List ℕ) : Type 0 where
    pub place : p ≡ field_places * f + length fs
    pub long : length row ≡ row_bytes
    pub wide : length texts ≡ texts_bytes
    pub codes : Codes t p row
    pub members : Members t p row
    pub cells : Cells t p texts
    pub small : (q : ℕ) → get_or texts (cell_bytes * q) 0 ≤ longest_string
    pub here : Indexed t s d p row
    pub beside : Indexed t (not s) e p row
    pub shaped : Shaped f fs row

  pub terms_noted : (s : Bool) (f : ℕ) (fs d e : List OurTerm) (p : ℕ) (row texts : List ℕ) → f < pair_fields → Noted s f fs d e p row texts
      → terms_in row f ≡ length fs
  terms_noted s f fs d e p row texts l c = room_is f fs row l c.shaped

  module _ (s : Bool) (f : ℕ) (fs d e : List OurTerm) (p : ℕ) (row texts : List ℕ) (l : f < pair_fields) (m : length fs < most_terms)
      (c : Noted s f fs d e p row texts) where
    low : p < pair_places
    low = omega (arith, c.place, l, m)

    next_place : (u : OurTerm) → suc p ≡ field_places * f + length (fs ++ u ∷ [])
    next_place u = omega (arith, c.place, length-append fs (u ∷ []))

    -- the row with the shape
    module _ (u : OurTerm) where
      abbrev w : List ℕ
      w = shape_noted f (is_list_term u) (number_of u) row

      long_w : length w ≡ row_bytes
      long_w = shape_long f (is_list_term u) (number_of u) row ∙ c.long

      apart : (j : ℕ) → (shapes_at ≤ j → j < indexes_at → ⊥) → Same row w j
      apart j o = shape_other f (is_list_term u) (number_of u) row j (λ x y. o (omega arith) (omega arith))

      codes_w : Codes t p w
      codes_w = codes_same t p row w (omega (arith, low)) (λ j x. apart j (λ y z. omega arith)) c.codes

      members_w : Members t p w
      members_w = members_keep t p p row w (omega arith) (λ j x. apart j (λ y z. omega arith)) (λ q b x y v. absurd (omega arith)) c.members

      here_w : Indexed t s d p w
      here_w = indexed_keep t s d p p row w (untouched t s row w (λ j x y. apart j (λ a b. omega arith))) (λ q k n x y v. absurd (omega arith)) c.here

      beside_w : Indexed t (not s) e p w
      beside_w = indexed_keep t (not s) e p p row w (untouched t (not s) row w (λ j x y. apart j (λ a b. omega arith)))
          (λ q k n x y v. absurd (omega arith)) c.beside

    -- A CONSTANT
    pub constant_next : (b : Con) → Holds t p (fixed b) → length (bytes_of b) ≤ longest_string
        → Noted s f (fs ++ con b ∷ []) (d ++ con b ∷ []) e (suc p)
        (constant_noted p (rank (basic (con_kind b))) (celled p (bytes_of b) texts) (shape_noted f false 0 row)) (celled p (bytes_of b) texts)
    constant_next b k few =
        let u = con b in
        let r = constant_noted p (rank (basic (con_kind b))) (celled p (bytes_of b) texts) (shape_noted f false 0 row) in
        let o = constant_out t p b (w u) texts low few (long_w u) c.wide k (codes_w u) (members_w u) c.cells in
        record {
          place = next_place u;
          long = o.2;
          wide = celled_long p (bytes_of b) texts ∙ c.wide;
          codes = o.0;
          members = o.1;
          small = celled_few p (bytes_of b) texts few low c.wide c.small;
          cells = cells_next t p b (w u) texts low few (long_w u) c.wide k (codes_w u) (members_w u) c.cells;
          here = indexed_same t s d (d ++ u ∷ []) (suc p) r (λ j n. in_constant j n d b)
              (indexed_keep t s d p (suc p) (w u) r (untouched t s (w u) r (λ j x y. o.3 j (omega arith) y))
              (λ q j n x y v. absurd (none_free (side_in s) q j n x y v)) (here_w u));
          beside = indexed_keep t (not s) e p (suc p) (w u) r (untouched t (not s) (w u) r (λ j x y. o.3 j (omega arith) y))
              (λ q j n x y v. absurd (none_free (side_in (not s)) q j n x y v)) (beside_w u);
          shaped = shaped_next f fs u row r l m c.long (λ j x y. o.3 j x (omega arith)) c.shaped;
        }
      where
        none_free : (z : Side) (q : ℕ) (j : Basic) (n : ℕ) → p ≤ q → q < suc p → Holds t q (free (of z j n)) → ⊥
        none_free z q j n x y v =
            let g : q ≡ p = omega arith in
            fixed≢free (holds_once t p (fixed b) (free (of z j n)) k (subst (λ (i : ℕ). Holds t i (free (of z j n))) g v))

    -- A VARIABLE
    pub variable_next : (k : Kind) (n : ℕ) → get_or t p none ≡ atom_of (side_in s) (var k n) → n ≤ largest_number
        → Noted s f (fs ++ var k n ∷ []) (d ++ var k n ∷ []) e (suc p)
        (variable_noted p s (rank k) n (shape_noted f (is_list_term (var k n)) n row)) texts
    variable_next k n h small =
        let u = var k n in
        let r = variable_noted p s (rank k) n (shape_noted f (is_list_term (var k n)) n row) in
        record {
          place = next_place u;
          long = long_y t s p k n (w u) low small (long_w u) h;
          wide = c.wide;
          codes = codes_variable t s p k n (w u) low small (long_w u) h d (here_w u) (codes_w u);
          members = members_variable t s p k n (w u) low small (long_w u) h d (here_w u) (members_w u);
          cells = λ q b x v. go q b x v (dec_lt q p);
          small = c.small;
          here = indexed_variable t s p k n (w u) low small (long_w u) h d (here_w u);
          beside = indexed_beside t s p k n (w u) low small (long_w u) h e (beside_w u);
          shaped = shaped_next f fs u row r l m c.long (λ j x y. shapes_stay t s p k n (w u) low small (long_w u) h j x y) c.shaped;
        }
      where
        no_constant : (j : Kind) (b : Con) → get_or t p none ≡ atom_of (side_in s) (var j n) → Holds t p (fixed b) → ⊥
        no_constant j b g v = own j g
          where
            own : (i : Kind) → get_or t p none ≡ atom_of (side_in s) (var i n) → ⊥
            own (basic i) g = fixed≢free (holds_once t p (fixed b) (free (of (side_in s) i n)) v g)
            own list g = none-ne-some (fixed b) (sym g ∙ v)

        go : (q : ℕ) (b : Con) → q < suc p → Holds t q (fixed b) → Dec (q < p) → Cell texts q (bytes_of b) × (length (bytes_of b) ≤ longest_string)
        go q b x v (yes y) = c.cells q b y v
        go q b x v (no y) =
            let g : q ≡ p = omega arith in absurd (no_constant k b h (subst (λ (i : ℕ). Holds t i (fixed b)) g v))

  -- ---- between fields

  -- THE FIELD is complete
  pub field_close : (s : Bool) (f : ℕ) (fs d e : List OurTerm) (p : ℕ) (row texts : List ℕ) → length fs ≤ most_terms → fs ≡ G f → Gap t p (field_places * suc f)
      → Noted s f fs d e p row texts → Noted s (suc f) [] d e (field_places * suc f) row texts
  field_close s f fs d e p row texts m h g c =
      record {
        place = omega arith;
        long = c.long;
        wide = c.wide;
        codes = codes_gap t p (field_places * suc f) row g c.codes;
        members = members_close;
        small = c.small;
        cells = λ q b x v. go q b x v (dec_lt q p);
        here = indexed_gap t s d p (field_places * suc f) row g c.here;
        beside = indexed_gap t (not s) e p (field_places * suc f) row g c.beside;
        shaped = shaped_close f fs row h c.shaped;
      }
    where
      go : (q : ℕ) (b : Con) → q < field_places * suc f → Holds t q (fixed b) → Dec (q < p) → Cell texts q (bytes_of b) × (length (bytes_of b) ≤ longest_string)
      go q b x v (yes y) = c.cells q b y v
      go q b x v (no y) = absurd (no_gap t p (field_places * suc f) g q (fixed b) (omega arith) x v)

      members_close : Members t (field_places * suc f) row
      members_close = members_keep t p (field_places * suc f) row row (omega (arith, c.place, m)) (λ j x. refl)
          (λ q b x y v. absurd (no_gap t p (field_places * suc f) g q (fixed b) x y v)) c.members

  -- the other rule's turn
  pub turn : (d e : List OurTerm) (f p : ℕ) (fs : List OurTerm) (row texts : List ℕ) → Noted false f fs d e p row texts → Noted true f fs e d p row texts
  turn d e f p fs row texts c =
      record {
        place = c.place;
        long = c.long;
        wide = c.wide;
        codes = c.codes;
        members = c.members;
        cells = c.cells;
        small = c.small;
        here = c.beside;
        beside = c.here;
        shaped = c.shaped;
      }
