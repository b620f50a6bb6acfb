-- The candidate that comes next, and what is read of a pair's fields. Assumes nothing.
use mathlib.Core.Path.{◌≡◌, ◌∙◌, ap, ap₂}
use mathlib.Core.Bool.{Bool, true, false}
use mathlib.Core.Option.{Option, none, some}
use mathlib.Core.List.{List}
use Prim.Native.Nat.{ℕ, ◌+◌, ◌≤◌, ◌<◌}
use native.Mathlib.Omega.{arith}
use lib.Dec.{eqb, leb}
use Rattle.math_codes.specs.Makers.{largest_byte}
use Rattle.math_types.specs.Types.{entry}
use Rattle.math_codes.specs.Spots.{Spot, cell_at, join_from}
use Rattle.pair_row.specs.declared.Shape.{Shape}
use Rattle.pair_row.specs.Row.{table_in, shape_in, spot_of}
use Rattle.pair_state.specs.declared.State.{State}
use Rattle.std.specs.Prelude as std
use Rattle.pair_state.specs.States.{joined_of}
use Rattle.overlap_entries.specs.declared.Span.{Span}
use Rattle.overlap_entries.specs.Entries.{only, span_from, span_of}
use Rattle.overlap_list.specs.Listing.{span_at, joins_at, span_bound}

-- ---- the candidate that comes next where k are left

-- heads and tails are bytes, so a candidate's number of atoms fits in two
span_low : (s s' : Spot ℕ) → s.head ≤ largest_byte → s.tail ≤ largest_byte → s'.head ≤ largest_byte → s'.tail ≤ largest_byte
    → (span_of s s').least + (span_of s s').count ≤ 511
span_low s s' a b c d = go s.name s'.name
  where
    fewest : (n : ℕ) (fits : Bool) → n ≤ largest_byte → (only n fits).least + (only n fits).count ≤ 511
    fewest n true h = omega arith
    fewest n false h = omega arith

    go : (x y : Option ℕ)
        → (span_from s.head s.tail x s'.head s'.tail y).least + (span_from s.head s.tail x s'.head s'.tail y).count ≤ 511
    go none none = fewest s.head (eqb s'.head s.head) a
    go none (some m) = fewest s.head (leb (s'.head + s'.tail) s.head) a
    go (some l) none = fewest s'.head (leb (s.head + s.tail) s'.head) c
    go (some l) (some m) = omega arith

-- of two fields' shapes as they are read
pub few_candidates : (f g : Shape) (s : Span) (k : ℕ) → s ≡ span_of (spot_of f) (spot_of g) → f.head < 256 → f.tail < 256 → g.head < 256 → g.tail < 256
    → 0 < k → k ≤ s.count → (1 ≤ k) × (k ≤ s.count) × (s.least + s.count ≤ span_bound)
few_candidates f g s k e a b c d p h =
    let q = span_low (spot_of f) (spot_of g) (omega arith) (omega arith) (omega arith) (omega arith) in
    (omega arith, h, omega (arith, q, ap (λ (x : Span). x.count) e, ap (λ (x : Span). x.least) e))

-- ---- what is read of field j

module _ (row : List ℕ) (j : ℕ) (f g : Shape) (is_f : f ≡ shape_in row false j) (is-g : g ≡ shape_in row true j) where
  pub span_is : (s : Span) → s ≡ span_of (spot_of f) (spot_of g) → s ≡ span_at row j
  span_is s e = e ∙ ap₂ (λ (x y : Shape). span_of (spot_of x) (spot_of y)) is_f is-g

  pub join_is : (n : ℕ) (st : State) (r : std.Option State)
      → r ≡ joined_of (join_from entry (table_in row) (cell_at (spot_of f) n) (cell_at (spot_of g) n) n 0 st.atoms) → r ≡ joins_at row j n st
  join_is n st r e =
      e ∙ ap₂ (λ (x y : Shape). joined_of (join_from entry (table_in row) (cell_at (spot_of x) n) (cell_at (spot_of y) n) n 0 st.atoms)) is_f is-g
