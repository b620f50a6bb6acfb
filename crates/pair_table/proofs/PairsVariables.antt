-- A variable is noted: its type, its index where it is met first, its code, its rank's top.
use mathlib.Core.Path.{◌≡◌, refl, sym, ap, ap₂, ◌∙◌, subst}
use mathlib.Core.Logic.{◌≢◌}
use mathlib.Core.Bool.{Bool, true, false, not, false≢true}
use mathlib.Core.Option.{Option, none, none-ne-some, some-injective}
use mathlib.Core.List.{List, [], ◌∷◌, ◌++◌}
use Prim.Native.Nat.{ℕ, zero, suc, ◌+◌, ◌*◌, ◌≤◌, ◌<◌}
use native.Mathlib.Omega.{arith}
use native.Mathlib.Decide.{ℕ_discrete}
use lib.ListN.{length, get_or}
use Rattle.base_limits.specs.Limits.{largest_number, numbers_of_side, pair_places}
use Rattle.math_types.specs.Order.{basic, list}
use Rattle.math_types.specs.Types.{Basic, Kind, basics, rank, rank_kinds}
use Rattle.math_terms.specs.Terms.{var}
use Rattle.text_grammar.specs.Terms.{OurTerm}
use Rattle.text_grammar.specs.constants.Constants.{Con, consts}
use Rattle.math_overlaps.specs.Shapes.{fixed, free, of, fixed≢free, free_once}
use Rattle.overlap_spec.specs.Variables.{is_variable, in_field}
use Rattle.math_codes.specs.Tables.{Holds, kind_a, is_free}
use Rattle.math_codes.specs.Tables.{same as alike}
use Rattle.math_codes.specs.Entries.{atom_of}
use Rattle.math_codes.specs.Lines.{our_vars, OurAtom}
use Rattle.math_codes.proofs.Tables.{code_found}
use Rattle.pair_row.specs.Row.{kinds_at, variables_at, shapes_at, indexes_at, tops_at, row_bytes, is_set}
use Rattle.pair_table.specs.Notes.{classed, indexed, topped}
use Rattle.pair_table.proofs.PairsRow.{classed_long, classed_other, classed_kind, classed_variable, indexed_long, indexed_other}
use Rattle.pair_table.proofs.PairsRow.{first_index, first_code, again_index, again_code, topped_long, topped_other, topped_at}
use Rattle.pair_table.proofs.PairsNotes.{pick, Same, code, Codes, Here, here_from, codes_keep, codes_next, Among, Members, members_keep}
use Rattle.pair_table.proofs.PairsIndexes.{side_in, index_on, top_on, side_few_lem, side_apart, side_once, of_side, of_kind_lem, of_number}
use Rattle.pair_table.proofs.PairsIndexes.{neither, one_of, in_before, in_last, is_itself, is_that, slot_once, RightIn, Indexed, indexed_keep}

module _ (t : List (Option OurAtom)) (s : Bool) (p : ℕ) (k : Kind) (n : ℕ) (row : List ℕ) (h : p < pair_places) (small : n ≤ largest_number)
    (long : length row ≡ row_bytes)
    (hp : get_or t p none ≡ atom_of (side_in s) (var k n)) where
  abbrev i : ℕ
  i = index_on s + numbers_of_side * rank k + n

  abbrev top : ℕ
  top = top_on s + rank k

  abbrev r : List ℕ
  r = classed p (rank k) 1 row

  abbrev x : List ℕ
  x = indexed i p r

  abbrev y : List ℕ
  y = topped top n x

  index_in : (indexes_at ≤ i) × (i < tops_at)
  index_in = (omega arith, omega (arith, side_few_lem s, rank_kinds k, small))

  long_r : length r ≡ row_bytes
  long_r = classed_long p (rank k) 1 row ∙ long

  long_x : length x ≡ row_bytes
  long_x = indexed_long i p r ∙ long_r

  pub long_y : length y ≡ row_bytes
  long_y = topped_long top n x ∙ long_x

  -- an atom at p is the variable
  own_atom : (a : OurAtom) → Holds t p a → (b : Basic) × (k ≡ basic b) × (a ≡ free (of (side_in s) b n))
  own_atom a v = go k hp
    where
      go : (j : Kind) → get_or t p none ≡ atom_of (side_in s) (var j n) → (b : Basic) × (j ≡ basic b) × (a ≡ free (of (side_in s) b n))
      go (basic b) e = (b, refl, some-injective a (free (of (side_in s) b n)) (sym v ∙ e))
      go list e = absurd (none-ne-some a (sym e ∙ v))

  -- ---- what is read of the row behind it

  other : (j : ℕ) → j ≢ p → j ≢ kinds_at + p → j ≢ variables_at + p → j ≢ i → j ≢ top → Same row y j
  other j a b c d e = topped_other top n x j e ∙ indexed_other i p r j d a ∙ classed_other p (rank k) 1 row j b c

  old_index : get_or r i 0 ≡ get_or row i 0
  old_index = classed_other p (rank k) 1 row i (λ e. omega (arith, index_in.0, h)) (λ e. omega (arith, index_in.0, h))

  kind_y : get_or y (kinds_at + p) 0 ≡ rank k
  kind_y =
      topped_other top n x (kinds_at + p) (λ e. omega arith)
      ∙ indexed_other i p r (kinds_at + p) (λ e. omega (arith, index_in.0, h)) (λ e. omega arith)
      ∙ classed_kind p (rank k) 1 row (omega (arith, long, h))

  variable_y : is_set (get_or y (variables_at + p) 0) ≡ true
  variable_y =
      ap is_set (topped_other top n x (variables_at + p) (λ e. omega arith)
      ∙ indexed_other i p r (variables_at + p) (λ e. omega (arith, index_in.0, h)) (λ e. omega arith)
      ∙ classed_variable p (rank k) 1 row (omega (arith, long, h)))

  module _ (d : List OurTerm) (m : Indexed t s d p row) where
    -- ---- the index and the code

    -- the code at p, of one that has a code
    abbrev CodeIs : Kind → ℕ → Type 0
    CodeIs (basic b) v = v ≡ code t (free (of (side_in s) b n))
    CodeIs list v = Unit {0}

    apart : i ≢ p
    apart e = omega (arith, index_in.0, h)

    new_code : (j : Kind) → get_or t p none ≡ atom_of (side_in s) (var j n) → in_field j n d ≡ false → RightIn t s j n (suc p) × CodeIs j p
    new_code (basic b) e o =
        let c = code_found (alike basics consts our_vars) t p (free (of (side_in s) b n)) e (λ q l v. false≢true (sym o ∙ m.met q b n l v)) in
        (ap suc (sym c), sym c)
    new_code list e o = (omega arith, tt)

    -- the code of an index
    old_code : (j : Kind) (v : ℕ) → RightIn t s j n v → (c : ℕ) × (v ≡ suc c) × CodeIs j c
    old_code (basic b) v e = (code t (free (of (side_in s) b n)), e, refl)
    old_code list zero e = absurd (omega arith)
    old_code list (suc c) e = (c, refl, tt)

    index_code : RightIn t s k n (get_or x i 0) × CodeIs k (get_or x p 0)
    index_code = go (in_field k n d) refl
      where
        go : (b : Bool) → in_field k n d ≡ b → RightIn t s k n (get_or x i 0) × CodeIs k (get_or x p 0)
        go true o =
            let c = old_code k (get_or r i 0) (subst (RightIn t s k n) (sym old_index) (m.present k n small o)) in (
              subst (RightIn t s k n) (c.1 ∙ sym (again_index i p r c.0 c.1 apart)) (subst (RightIn t s k n) (sym old_index) (m.present k n small o)),
              subst (CodeIs k) (sym (again_code i p r c.0 c.1 apart (omega (arith, long_r, h)))) c.2,
            )
        go false o =
            let z = old_index ∙ m.absent k n small o in
            let c = new_code k hp o in (
              subst (RightIn t s k n) (sym (first_index i p r z apart (omega (arith, long_r, index_in.1)))) c.0,
              subst (CodeIs k) (sym (first_code i p r z apart (omega (arith, long_r, h)))) c.1,
            )

    index_y : RightIn t s k n (get_or y i 0)
    index_y = subst (RightIn t s k n) (sym (topped_other top n x i (λ e. omega (arith, index_in.1)))) index_code.0

    code_y : CodeIs k (get_or y p 0)
    code_y = subst (CodeIs k) (sym (topped_other top n x p (λ e. omega arith))) index_code.1

    -- ---- by place

    here : Here t p y
    here a v = go (own_atom a v)
      where
        go : (b : Basic) × (k ≡ basic b) × (a ≡ free (of (side_in s) b n))
            → (get_or y p 0 ≡ code t a) × (get_or y (kinds_at + p) 0 ≡ rank (basic (kind_a basics consts our_vars a)))
            × (is_set (get_or y (variables_at + p) 0) ≡ is_free basics consts our_vars a)
        go (b, e, q) =
            here_from t p y (free (of (side_in s) b n)) (subst (λ (z : OurAtom). Holds t p z) q v) (subst (λ (j : Kind). CodeIs j (get_or y p 0)) e code_y)
            (kind_y ∙ ap rank e) variable_y a v

    pub codes_variable : Codes t p row → Codes t (suc p) y
    codes_variable c =
        codes_next t p y
        (codes_keep t p row y h (λ j l a b e. other j a b e (λ q. omega (arith, index_in.0)) (λ q. omega arith)) c) here

    pub members_variable : Members t p row → Members t (suc p) y
    members_variable c =
        members_keep t p (suc p) row y (omega arith)
        (λ j l. other j (λ q. omega arith) (λ q. omega arith) (λ q. omega arith) (λ q. omega (arith, index_in.1))
        (λ q. omega (arith, side_few_lem s, rank_kinds k))) none_new c
      where
        none_new : (q : ℕ) (b : Con) → p ≤ q → q < suc p → Holds t q (fixed b) → Among t row b
        none_new q b l u v =
            let e : q ≡ p = omega arith in
            let o = own_atom (fixed b) (subst (λ (z : ℕ). Holds t z (fixed b)) e v) in
            absurd (fixed≢free o.2)

    -- ---- the rule's variables

    other_slot : (j : Kind) (a : ℕ) → a ≤ largest_number → is_variable j a (var k n) ≡ false → Same row y (index_on s + numbers_of_side * rank j + a)
    other_slot j a l e =
        other (index_on s + numbers_of_side * rank j + a) (λ q. omega arith) (λ q. omega arith) (λ q. omega arith)
        (λ q. slot_once j k a n l small e (omega arith)) (λ q. omega (arith, side_few_lem s, rank_kinds j))

    top_in : top < length x
    top_in = omega (arith, long_x, side_few_lem s, rank_kinds k)

    top_before : get_or x top 0 ≡ get_or row top 0
    top_before =
        indexed_other i p r top (λ e. omega (arith, index_in.1)) (λ e. omega arith)
        ∙ classed_other p (rank k) 1 row top (λ e. omega arith) (λ e. omega arith)

    tops_up : (j : ℕ) → j < 4 → (get_or row (top_on s + j) 0 ≤ get_or y (top_on s + j) 0) × (get_or y (top_on s + j) 0 ≤ numbers_of_side)
    tops_up j l = go (ℕ_discrete j (rank k))
      where
        go : Dec (j ≡ rank k) → (get_or row (top_on s + j) 0 ≤ get_or y (top_on s + j) 0) × (get_or y (top_on s + j) 0 ≤ numbers_of_side)
        go (yes e) =
            subst (λ (z : ℕ). (get_or row (top_on s + z) 0 ≤ get_or y (top_on s + z) 0) × (get_or y (top_on s + z) 0 ≤ numbers_of_side)) (sym e) (
              omega (arith, (topped_at top n x top_in).1, top_before),
              (topped_at top n x top_in).2 small (omega (arith, top_before, m.within (rank k) (rank_kinds k))),
            )
        go (no u) =
            let e = other (top_on s + j) (λ q. omega arith) (λ q. omega arith) (λ q. omega arith) (λ q. omega (arith, index_in.1))
            (λ q. u (omega arith)) in
            (omega (arith, e), omega (arith, e, m.within j l))

    pub indexed_variable : Indexed t s (d ++ var k n ∷ []) (suc p) y
    indexed_variable =
        record {
          absent = λ j a l e. let o = neither j a d (var k n) e in other_slot j a l o.1 ∙ m.absent j a l o.0;
          present = λ j a l e. present_by j a l e (is_variable j a (var k n)) refl;
          met = λ q b a l v. pick (λ z. Holds t z (free (of (side_in s) b a)) → in_field (basic b) a (d ++ var k n ∷ []) ≡ true) q p l
              (λ u w. in_before (basic b) a d (var k n) (m.met q b a u w)) (λ w. met_here b a w) v;
          within = λ j l. (tops_up j l).1;
          above = λ j a e. above_by j a e (is_variable j a (var k n)) refl;
        }
      where
        present_by : (j : Kind) (a : ℕ) → a ≤ largest_number → in_field j a (d ++ var k n ∷ []) ≡ true → (b : Bool) → is_variable j a (var k n) ≡ b
            → RightIn t s j a (get_or y (index_on s + numbers_of_side * rank j + a) 0)
        present_by j a l e true o =
            let q = is_that j k a n o in
            subst (λ (z : Kind). RightIn t s z a (get_or y (index_on s + numbers_of_side * rank z + a) 0)) (sym q.0)
            (subst (λ (z : ℕ). RightIn t s k z (get_or y (index_on s + numbers_of_side * rank k + z) 0)) (sym q.1) index_y)
        present_by j a l e false o = subst (RightIn t s j a) (sym (other_slot j a l o)) (m.present j a l (one_of j a d (var k n) e o))

        met_here : (b : Basic) (a : ℕ) → Holds t p (free (of (side_in s) b a)) → in_field (basic b) a (d ++ var k n ∷ []) ≡ true
        met_here b a w =
            let o = own_atom (free (of (side_in s) b a)) w in
            let q = free_once o.2 in
            in_last (basic b) a d (var k n)
            (ap₂ (λ (z : Kind) (c : ℕ). is_variable z c (var k n)) (ap basic (of_kind_lem q) ∙ sym o.1) (of_number q) ∙ is_itself k n)

        above_by : (j : Kind) (a : ℕ) → in_field j a (d ++ var k n ∷ []) ≡ true → (b : Bool) → is_variable j a (var k n) ≡ b
            → a < get_or y (top_on s + rank j) 0
        above_by j a e true o =
            let q = is_that j k a n o in
            subst (λ (z : Kind). a < get_or y (top_on s + rank z) 0) (sym q.0) (omega (arith, q.1, (topped_at top n x top_in).0))
        above_by j a e false o = omega (arith, m.above j a (one_of j a d (var k n) e o), (tops_up (rank j) (rank_kinds j)).0)

  -- the other rule's variables stay
  pub indexed_beside : (d : List OurTerm) → Indexed t (not s) d p row → Indexed t (not s) d (suc p) y
  indexed_beside d m =
      indexed_keep t (not s) d p (suc p) row y (
        λ j a b. other j (λ q. omega arith) (λ q. omega arith) (λ q. omega arith) (λ q. omega (arith, side_apart s, rank_kinds k, small))
            (λ q. omega (arith, side_apart s, rank_kinds k)),
        λ j a b. other j (λ q. omega arith) (λ q. omega arith) (λ q. omega arith) (λ q. omega (arith, index_in.1))
            (λ q. omega (arith, side_apart s, rank_kinds k)),
      ) none_new m
    where
      none_new : (q : ℕ) (b : Basic) (a : ℕ) → p ≤ q → q < suc p → Holds t q (free (of (side_in (not s)) b a)) → in_field (basic b) a d ≡ true
      none_new q b a l u v =
          let e : q ≡ p = omega arith in
          let o = own_atom (free (of (side_in (not s)) b a)) (subst (λ (z : ℕ). Holds t z (free (of (side_in (not s)) b a))) e v) in
          absurd (side_once s (of_side (free_once o.2)))

  -- the shapes stay
  pub shapes_stay : (j : ℕ) → shapes_at ≤ j → j < indexes_at → Same row y j
  shapes_stay j a b = other j (λ q. omega arith) (λ q. omega arith) (λ q. omega arith) (λ q. omega (arith, index_in.0)) (λ q. omega arith)
