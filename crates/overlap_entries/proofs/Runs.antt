-- The loop over the positions of two fields: what is left of the joins, a position where nothing differs, and a clash.
use mathlib.Core.Path.{◌≡◌, refl, sym, ◌∙◌, ap, ap₂}
use mathlib.Core.Bool.{Bool, false}
use mathlib.Core.Option.{Option, none, some}
use mathlib.Core.List.{List}
use Rattle.std.specs.Prelude as std
use Rattle.std.specs.Prelude.{Some, None}
use Prim.Native.Nat.{ℕ, suc, ◌+◌, ◌-◌, ◌<◌, ◌≤◌}
use native.Mathlib.Omega.{arith}
use lib.Dec.{eqb}
use lib.ListN.{get_or}
use borrow.Author.Tests.{not-false}
use Rattle.math_terms.specs.Matcher.{and_then}
use Rattle.math_codes.specs.Tables.{Table}
use Rattle.math_codes.specs.Spots.{join_cells, join_from}
use Rattle.pair_state.specs.declared.State.{State}
use Rattle.pair_state.specs.States.{joined_of}
use Rattle.overlap_entries.specs.Entries.{differ}

-- ---- what an answer says of the join

fell : (x : Option (List ℕ)) → joined_of x ≡ None → x ≡ none
fell none e = refl
fell (some l) e = cc

went : (x : Option (List ℕ)) (st : State) → joined_of x ≡ Some st → x ≡ some st.atoms
went none st e = cc
went (some l) st e = cc

-- where nothing differs, the join leaves the state as it is
same_join : (below : ℕ → ℕ → Bool) (T : Table) (x y : Option ℕ) (atoms : List ℕ) → differ x y atoms ≡ false → join_cells below T x y atoms ≡ some atoms
same_join below T none y atoms e = refl
same_join below T (some i) none atoms e = refl
same_join below T (some i) (some k) atoms e = rw (not-false (eqb (get_or atoms i 0) (get_or atoms k 0)) e)

module _ (below : ℕ → ℕ → Bool) (T : Table) (a b : ℕ → Option ℕ) (n : ℕ) where
  -- the positions from p on are still to be joined
  abbrev pub Left : List ℕ → List ℕ → ℕ → Type 0
  Left start now p = (p ≤ n) × (join_from below T a b n 0 start ≡ join_from below T a b (n - p) p now)

  pub left_first : (start : List ℕ) → Left start start 0
  left_first start = (omega arith, ap (λ (k : ℕ). join_from below T a b k 0 start) (let e : n ≡ n - 0 = omega arith in e))

  pub left_none : (start now : List ℕ) (p : ℕ) → Left start now p → n ≤ p → join_from below T a b n 0 start ≡ some now
  left_none start now p v h = v.1 ∙ ap (λ (k : ℕ). join_from below T a b k p now) (let e : n - p ≡ 0 = omega arith in e)

  -- one position
  opened : (start now : List ℕ) (p : ℕ) → Left start now p → p < n
      → join_from below T a b n 0 start ≡ and_then (join_cells below T (a p) (b p) now) (λ next. join_from below T a b (n - (p + 1)) (p + 1) next)
  opened start now p v h =
      v.1
      ∙ ap (λ (k : ℕ). join_from below T a b k p now) (let e : n - p ≡ suc (n - (p + 1)) = omega arith in e)
      ∙ ap (λ (q : ℕ). and_then (join_cells below T (a p) (b p) now) (λ next. join_from below T a b (n - (p + 1)) q next))
      (let e : suc p ≡ p + 1 = omega arith in e)

  -- nothing differs there
  pub left_same : (start now : List ℕ) (p : ℕ) (x y : Option ℕ) → x ≡ a p → y ≡ b p → Left start now p → p < n → differ x y now ≡ false
      → Left start now (p + 1)
  left_same start now p x y is_x is_y v h e = (
    omega arith,
    opened start now p v h
        ∙ ap (λ (r : Option (List ℕ)). and_then r (λ next. join_from below T a b (n - (p + 1)) (p + 1) next))
        (ap₂ (λ (u w : Option ℕ). join_cells below T u w now) (sym is_x) (sym is_y) ∙ same_join below T x y now e),
  )

  module _ (start : List ℕ) (now : State) (p : ℕ) (x y : Option ℕ) (is_x : x ≡ a p) (is_y : y ≡ b p) (v : Left start now.atoms p) (h : p < n)
      (j : std.Option State) (is-j : j ≡ joined_of (join_cells below T x y now.atoms)) where
    is_joins : j ≡ joined_of (join_cells below T (a p) (b p) now.atoms)
    is_joins = is-j ∙ ap₂ (λ (u w : Option ℕ). joined_of (join_cells below T u w now.atoms)) is_x is_y

    left_by : (r : Option (List ℕ)) → join_cells below T (a p) (b p) now.atoms ≡ r
        → join_from below T a b n 0 start ≡ and_then r (λ next. join_from below T a b (n - (p + 1)) (p + 1) next)
    left_by r e = opened start now.atoms p v h ∙ ap (λ (r : Option (List ℕ)). and_then r (λ next. join_from below T a b (n - (p + 1)) (p + 1) next)) e

    pub left_clash : j ≡ None → join_from below T a b n 0 start ≡ none
    left_clash e = left_by none (fell (join_cells below T (a p) (b p) now.atoms) (sym is_joins ∙ e))

    pub left_one : (st : State) → j ≡ Some st → Left start st.atoms (p + 1)
    left_one st e = (omega arith, left_by (some st.atoms) (went (join_cells below T (a p) (b p) now.atoms) st (sym is_joins ∙ e)))
