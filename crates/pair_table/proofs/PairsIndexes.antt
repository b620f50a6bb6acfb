-- What the row says of the variables of a rule whose terms d are noted: the index by slot, and the tops.
use mathlib.Core.Path.{◌≡◌, refl, sym, ap, ◌∙◌, subst}
use mathlib.Core.Logic.{◌≢◌}
use mathlib.Core.Bool.{Bool, true, false, not, ◌||◌, false≢true, or_assoc}
use mathlib.Core.Option.{Option}
use mathlib.Core.List.{List, [], ◌∷◌, ◌++◌}
use Prim.Native.Nat.{ℕ, suc, ◌+◌, ◌*◌, ◌≤◌, ◌<◌}
use native.Mathlib.Omega.{arith}
use native.Mathlib.Decide.{dec_lt}
use lib.Dec.{eqb}
use lib.ListN.{get_or}
use borrow.Author.Tests.{eqb-true, eq-eqb}
use Rattle.base_limits.specs.Limits.{largest_number, kind_count, numbers_of_side, variable_places}
use Rattle.base_lists.specs.Truths.{both_is}
use Rattle.math_types.specs.Order.{basic, list}
use Rattle.math_types.specs.Types.{Basic, Kind, rank, rank_kinds, rank_once, same, same_is}
use Rattle.math_terms.specs.Terms.{con, var}
use Rattle.text_grammar.specs.Terms.{OurTerm}
use Rattle.text_grammar.specs.constants.Constants.{Con}
use Rattle.math_overlaps.specs.Shapes.{free, Side, left, right, Variable, of, kind_in}
use Rattle.overlap_spec.specs.Variables.{is_variable, in_field}
use Rattle.math_codes.specs.Tables.{Holds}
use Rattle.math_codes.specs.Lines.{OurAtom}
use Rattle.pair_row.specs.Row.{indexes_at, tops_at, count_at}
use Rattle.pair_table.specs.Notes.{side_of}
use Rattle.pair_table.proofs.PairsNotes.{Same, code, Gap, no_gap}

-- ---- sides

abbrev pub side_in : Bool → Side
side_in true = right
side_in false = left

-- where a side's index and its tops begin
abbrev pub index_on : Bool → ℕ
index_on s = indexes_at + variable_places * side_of s

abbrev pub top_on : Bool → ℕ
top_on s = tops_at + 4 * side_of s

pub side_few_lem : (s : Bool) → side_of s ≤ 1
side_few_lem true = omega arith
side_few_lem false = omega arith

pub side_apart : (s : Bool) → side_of (not s) + side_of s ≡ 1
side_apart true = omega arith
side_apart false = omega arith

abbrev side_number : Side → ℕ
side_number left = 0
side_number right = 1

abbrev variable_side : Variable Basic ℕ → Side
variable_side (of s k n) = s

abbrev variable_number : Variable Basic ℕ → ℕ
variable_number (of s k n) = n

pub side_once : (s : Bool) → side_in (not s) ≡ side_in s → ⊥
side_once true e = let q : ◌≡◌ {A = ℕ} 0 1 = ap side_number e in omega (arith, q)
side_once false e = let q : ◌≡◌ {A = ℕ} 1 0 = ap side_number e in omega (arith, q)

pub of_side : {s u : Side} {j k : Basic} {m n : ℕ} → of s j m ≡ of u k n → s ≡ u
of_side e = ap variable_side e

pub of_kind_lem : {s u : Side} {j k : Basic} {m n : ℕ} → of s j m ≡ of u k n → j ≡ k
of_kind_lem e = ap kind_in e

pub of_number : {s u : Side} {j k : Basic} {m n : ℕ} → of s j m ≡ of u k n → m ≡ n
of_number e = ap variable_number e

-- ---- occurrence

or_false : (a b : Bool) → (a || b) ≡ false → (a ≡ false) × (b ≡ false)
or_false true b e = absurd (false≢true (sym e))
or_false false b e = (refl, e)

or_nothing : (a : Bool) → (a || false) ≡ a
or_nothing true = refl
or_nothing false = refl

or_right : (a b : Bool) → b ≡ true → (a || b) ≡ true
or_right true b e = refl
or_right false b e = e

pub in_append : (k : Kind) (n : ℕ) (d e : List OurTerm) → in_field k n (d ++ e) ≡ (in_field k n d || in_field k n e)
in_append k n [] e = refl
in_append k n (u ∷ d) e =
    ap (λ (b : Bool). is_variable k n u || b) (in_append k n d e) ∙ sym (or_assoc (is_variable k n u) (in_field k n d) (in_field k n e))

pub in_one : (k : Kind) (n : ℕ) (d : List OurTerm) (u : OurTerm) → in_field k n (d ++ u ∷ []) ≡ (in_field k n d || is_variable k n u)
in_one k n d u = in_append k n d (u ∷ []) ∙ ap (λ (b : Bool). in_field k n d || b) (or_nothing (is_variable k n u))

pub in_constant : (k : Kind) (n : ℕ) (d : List OurTerm) (c : Con) → in_field k n (d ++ con c ∷ []) ≡ in_field k n d
in_constant k n d c = in_one k n d (con c) ∙ or_nothing (in_field k n d)

pub neither : (k : Kind) (n : ℕ) (d : List OurTerm) (u : OurTerm) → in_field k n (d ++ u ∷ []) ≡ false → (in_field k n d ≡ false) × (is_variable k n u ≡ false)
neither k n d u e = or_false (in_field k n d) (is_variable k n u) (sym (in_one k n d u) ∙ e)

pub one_of : (k : Kind) (n : ℕ) (d : List OurTerm) (u : OurTerm) → in_field k n (d ++ u ∷ []) ≡ true → is_variable k n u ≡ false → in_field k n d ≡ true
one_of k n d u e o = sym (or_nothing (in_field k n d)) ∙ ap (λ (b : Bool). in_field k n d || b) (sym o) ∙ sym (in_one k n d u) ∙ e

pub in_before : (k : Kind) (n : ℕ) (d : List OurTerm) (u : OurTerm) → in_field k n d ≡ true → in_field k n (d ++ u ∷ []) ≡ true
in_before k n d u e = in_one k n d u ∙ ap (λ (b : Bool). b || is_variable k n u) e

pub in_last : (k : Kind) (n : ℕ) (d : List OurTerm) (u : OurTerm) → is_variable k n u ≡ true → in_field k n (d ++ u ∷ []) ≡ true
in_last k n d u e = in_one k n d u ∙ or_right (in_field k n d) (is_variable k n u) e

pub is_itself : (k : Kind) (n : ℕ) → is_variable k n (var k n) ≡ true
is_itself k n = (both_is (same k k) (eqb n n)).1 ((same_is k k).1 refl, eq-eqb n n refl)

pub is_that : (j k : Kind) (m n : ℕ) → is_variable j m (var k n) ≡ true → (j ≡ k) × (m ≡ n)
is_that j k m n e = let h = (both_is (same j k) (eqb m n)).0 e in ((same_is j k).0 h.0, eqb-true m n h.1)

-- a slot is that of one variable
pub slot_once : (j k : Kind) (m n : ℕ) → m ≤ largest_number → n ≤ largest_number → is_variable j m (var k n) ≡ false
    → numbers_of_side * rank j + m ≢ numbers_of_side * rank k + n
slot_once j k m n a b e q =
    let x : rank j ≡ rank k = omega arith in
    let y : m ≡ n = omega arith in
    false≢true (sym e ∙ (both_is (same j k) (eqb m n)).1 ((same_is j k).1 (rank_once j k x), eq-eqb m n y))

-- ---- what is noted of a rule

module _ (t : List (Option OurAtom)) (s : Bool) where
  -- what an index has for a variable
  abbrev pub RightIn : Kind → ℕ → ℕ → Type 0
  RightIn (basic k) n v = v ≡ suc (code t (free (of (side_in s) k n)))
  RightIn list n v = 0 < v

  pub record Indexed (d : List OurTerm) (p : ℕ) (row : List ℕ) : Type 0 where
    pub absent : (k : Kind) (n : ℕ) → n ≤ largest_number → in_field k n d ≡ false → get_or row (index_on s + numbers_of_side * rank k + n) 0 ≡ 0
    pub present : (k : Kind) (n : ℕ) → n ≤ largest_number → in_field k n d ≡ true → RightIn k n (get_or row (index_on s + numbers_of_side * rank k + n) 0)
    pub met : (q : ℕ) (k : Basic) (n : ℕ) → q < p → Holds t q (free (of (side_in s) k n)) → in_field (basic k) n d ≡ true
    pub within : (k : ℕ) → k < kind_count → get_or row (top_on s + k) 0 ≤ numbers_of_side
    pub above : (k : Kind) (n : ℕ) → in_field k n d ≡ true → n < get_or row (top_on s + rank k) 0

  -- the rule's part of the row is as it was
  abbrev pub Untouched : List ℕ → List ℕ → Type 0
  Untouched row row' =
      ((j : ℕ) → index_on s ≤ j → j < index_on s + variable_places → Same row row' j)
      × ((j : ℕ) → top_on s ≤ j → j < top_on s + 4 → Same row row' j)

  pub untouched : (row row' : List ℕ) → ((j : ℕ) → indexes_at ≤ j → j < count_at → Same row row' j) → Untouched row row'
  untouched row row' h =
      (λ j a b. h j (omega arith) (omega (arith, side_few_lem s)), λ j a b. h j (omega arith) (omega (arith, side_few_lem s)))

  pub indexed_keep : (d : List OurTerm) (p r : ℕ) (row row' : List ℕ) → Untouched row row'
      → ((q : ℕ) (k : Basic) (n : ℕ) → p ≤ q → q < r → Holds t q (free (of (side_in s) k n)) → in_field (basic k) n d ≡ true)
      → Indexed d p row → Indexed d r row'
  indexed_keep d p r row row' u new m =
      record {
        absent = λ k n l e. u.0 (index_on s + numbers_of_side * rank k + n) (omega arith) (omega (arith, rank_kinds k)) ∙ m.absent k n l e;
        present = λ k n l e. subst (RightIn k n)
            (sym (u.0 (index_on s + numbers_of_side * rank k + n) (omega arith) (omega (arith, rank_kinds k)))) (m.present k n l e);
        met = λ q k n l v. go q k n l v (dec_lt q p);
        within = λ k l. omega (arith, u.1 (top_on s + k) (omega arith) (omega arith), m.within k l);
        above = λ k n e. omega (arith, u.1 (top_on s + rank k) (omega arith) (omega (arith, rank_kinds k)), m.above k n e);
      }
    where
      go : (q : ℕ) (k : Basic) (n : ℕ) → q < r → Holds t q (free (of (side_in s) k n)) → Dec (q < p) → in_field (basic k) n d ≡ true
      go q k n l v (yes b) = m.met q k n b v
      go q k n l v (no x) = new q k n (omega arith) l v

  pub indexed_same : (d e : List OurTerm) (p : ℕ) (row : List ℕ) → ((k : Kind) (n : ℕ) → in_field k n e ≡ in_field k n d) → Indexed d p row → Indexed e p row
  indexed_same d e p row w m =
      record {
        absent = λ k n l x. m.absent k n l (sym (w k n) ∙ x);
        present = λ k n l x. m.present k n l (sym (w k n) ∙ x);
        met = λ q k n l v. w (basic k) n ∙ m.met q k n l v;
        within = m.within;
        above = λ k n x. m.above k n (sym (w k n) ∙ x);
      }

  pub indexed_gap : (d : List OurTerm) (p r : ℕ) (row : List ℕ) → Gap t p r → Indexed d p row → Indexed d r row
  indexed_gap d p r row g m =
      indexed_keep d p r row row (λ j a b. refl, λ j a b. refl) (λ q k n l h v. absurd (no_gap t p r g q (free (of (side_in s) k n)) l h v)) m
