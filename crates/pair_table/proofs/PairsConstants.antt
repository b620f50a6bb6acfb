-- A constant is noted: its cell, its type, and its code, the member that is the same constant, or its own place.
use mathlib.Core.Path.{◌≡◌, refl, sym, ap, ◌∙◌, subst}
use mathlib.Core.Logic.{◌⊎◌, inl, inr}
use mathlib.Core.Bool.{Bool, cond, true≢false}
use mathlib.Core.Option.{Option}
use mathlib.Core.List.{List}
use Prim.Native.Nat.{ℕ, suc, ◌+◌, ◌≤◌, ◌<◌}
use native.Mathlib.Omega.{arith}
use lib.Dec.{eqb}
use lib.ListN.{length, get_or, set, length-set}
use lib.Seq.{get_or-set_same, get_or-set_other}
use borrow.Author.Tests.{eq-eqb, ne_eqb}
use Rattle.base_limits.specs.Limits.{longest_string, pair_places}
use Rattle.math_types.specs.Order.{basic}
use Rattle.math_types.specs.Types.{basics, rank}
use Rattle.text_grammar.specs.constants.Constants.{Con, consts, con_kind}
use Rattle.math_overlaps.specs.Shapes.{fixed, fixed_once}
use Rattle.math_codes.specs.Tables.{Holds}
use Rattle.math_codes.specs.Tables.{same as alike}
use Rattle.math_codes.specs.Lines.{our_vars, OurAtom}
use Rattle.math_codes.proofs.Tables.{holds_once, code_holds, code_found}
use Rattle.pair_row.specs.Row.{kinds_at, variables_at, shapes_at, count_at, members_at, row_bytes, texts_bytes, is_set}
use Rattle.pair_table.specs.Notes.{classed, celled, code_in, constant_noted, joined_member}
use Rattle.pair_table.proofs.PairsRow.{classed_long, classed_other, classed_kind, classed_variable, joined_long, joined_other}
use Rattle.pair_table.proofs.PairsCells.{Cell, bytes_of, celled_cell, celled_other, same_constant_lem, constant_same, FoundIn, member_found}
use Rattle.pair_table.proofs.PairsNotes.{pick, Same, code, Codes, here_from, codes_keep, codes_same, codes_next}
use Rattle.pair_table.proofs.PairsNotes.{Among, Members, members_keep, members_joined, Cells}

module _ (t : List (Option OurAtom)) (p : ℕ) (d : Con) (row texts : List ℕ) (h : p < pair_places) (few : length (bytes_of d) ≤ longest_string)
    (long : length row ≡ row_bytes)
    (wide : length texts ≡ texts_bytes) (k : Holds t p (fixed d)) (cs : Codes t p row) (ms : Members t p row) (cl : Cells t p texts) where
  -- the bytes, the row with the type, the code
  abbrev z : List ℕ
  z = celled p (bytes_of d) texts

  abbrev r : List ℕ
  r = classed p (rank (basic (con_kind d))) 0 row

  abbrev c : ℕ
  c = code_in r z p

  long_r : length r ≡ row_bytes
  long_r = classed_long p (rank (basic (con_kind d))) 0 row ∙ long

  codes_r : Codes t p r
  codes_r = codes_keep t p row r h (λ j l a b e. classed_other p (rank (basic (con_kind d))) 0 row j b e) cs

  high : (j : ℕ) → shapes_at ≤ j → Same row r j
  high j l = classed_other p (rank (basic (con_kind d))) 0 row j (λ e. omega arith) (λ e. omega arith)

  members_r : Members t p r
  members_r = members_keep t p p row r (omega arith) (λ j l. high j (omega arith)) (λ q b l m v. absurd (omega arith)) ms

  kind_r : get_or r (kinds_at + p) 0 ≡ rank (basic (con_kind d))
  kind_r = classed_kind p (rank (basic (con_kind d))) 0 row (omega (arith, long, h))

  own_cell : Cell z p (bytes_of d)
  own_cell = celled_cell p (bytes_of d) texts few h wide

  old_cell : (q : ℕ) (b : Con) → q < p → Holds t q (fixed b) → Cell z q (bytes_of b)
  old_cell q b l v = let o = cl q b l v in celled_other p (bytes_of d) texts few q (bytes_of b) o.1 (λ e. omega arith) o.0

  -- THE CELLS
  pub cells_next : Cells t (suc p) z
  cells_next q b l v =
      pick (λ x. Holds t x (fixed b) → Cell z x (bytes_of b) × (length (bytes_of b) ≤ longest_string)) q p l (λ u w. (old_cell q b u w, (cl q b u w).1))
      (λ w. subst (λ (x : Con). Cell z p (bytes_of x) × (length (bytes_of x) ≤ longest_string)) (fixed_once (holds_once t p (fixed d) (fixed b) k w))
      (own_cell, few)) v

  -- ---- the code: that of a member, or the place

  abbrev Found : Type 0
  Found = (code t (fixed d) ≡ c) × (((c < p) × Among t r d) ⊎ (c ≡ p))

  found : FoundIn r z p 0 (get_or r count_at 0) c → Found
  found (inl f) =
      let x = get_or r (members_at + f.0) 0 in
      let m = members_r.each f.0 (omega (arith, f.2)) in
      let q = same_constant_lem r z p x d m.0 own_cell (old_cell x m.0 m.3 m.1) kind_r (codes_r.kinds x (fixed m.0) m.3 m.1) f.4 in
      let e : code t (fixed d) ≡ c = ap (λ (y : Con). code t (fixed y)) q ∙ m.2 ∙ sym f.3 in
      (e, inl (omega (arith, f.3, m.3), (f.0, omega (arith, f.2), sym f.3 ∙ sym e)))
  found (inr f) = (code_found (alike basics consts our_vars) t p (fixed d) k new ∙ sym f.0, inr f.0)
    where
      new : (q : ℕ) → q < p → Holds t q (fixed d) → ⊥
      new q l v =
          let a = members_r.all q d l v in
          let x = get_or r (members_at + a.0) 0 in
          let m = members_r.each a.0 a.1 in
          let w : Holds t x (fixed d) = subst (λ (y : ℕ). Holds t y (fixed d)) (sym a.2) (code_holds (alike basics consts our_vars) t q (fixed d) v) in
          true≢false (sym (constant_same r z p x d d own_cell (old_cell x d m.3 w) kind_r (codes_r.kinds x (fixed d) m.3 w) refl)
          ∙ f.1 a.0 (omega arith) (omega (arith, a.1)))

  -- ---- the row

  abbrev pub Out : List ℕ → Type 0
  Out row' = Codes t (suc p) row' × Members t (suc p) row' × (length row' ≡ row_bytes) × ((j : ℕ) → shapes_at ≤ j → j < count_at → Same row row' j)

  abbrev s : List ℕ
  s = set r p c

  long_s : length s ≡ row_bytes
  long_s = length-set r p c ∙ long_r

  codes_s : code t (fixed d) ≡ c → Codes t (suc p) s
  codes_s e =
      codes_next t p s (codes_keep t p r s h (λ j l a b u. get_or-set_other r p j c 0 a) codes_r)
      (here_from t p s (fixed d) k (get_or-set_same r p c 0 (omega (arith, long_r, h)) ∙ sym e)
      (get_or-set_other r p (kinds_at + p) c 0 (λ u. omega arith) ∙ kind_r)
      (ap is_set (get_or-set_other r p (variables_at + p) c 0 (λ u. omega arith)
      ∙ classed_variable p (rank (basic (con_kind d))) 0 row (omega (arith, long, h)))))

  high_s : (j : ℕ) → shapes_at ≤ j → Same row s j
  high_s j l = get_or-set_other r p j c 0 (λ u. omega arith) ∙ high j l

  out_old : code t (fixed d) ≡ c → Among t r d → Out s
  out_old e a = (
    codes_s e,
    members_keep t p (suc p) r s (omega arith) (λ j l. get_or-set_other r p j c 0 (λ u. omega arith)) same_one members_r,
    long_s,
    λ j l u. high_s j l,
  )
    where
      same_one : (q : ℕ) (b : Con) → p ≤ q → q < suc p → Holds t q (fixed b) → Among t r b
      same_one q b l u v =
          let e : p ≡ q = omega arith in
          subst (λ (x : Con). Among t r x)
          (fixed_once (holds_once t p (fixed d) (fixed b) k (subst (λ (x : ℕ). Holds t x (fixed b)) (sym e) v))) a

  out_new : code t (fixed d) ≡ c → c ≡ p → Out (joined_member p s)
  out_new e n = (
    codes_same t (suc p) s (joined_member p s) (omega arith) (λ j l. joined_other p s j (λ u. omega arith) (λ u. omega arith)) (codes_s e),
    members_joined t p s d h long_s k (e ∙ n)
        (members_keep t p p r s (omega arith) (λ j l. get_or-set_other r p j c 0 (λ u. omega arith)) (λ q b l m v. absurd (omega arith)) members_r),
    joined_long p s ∙ long_s,
    λ j l u. joined_other p s j (λ w. omega arith) (λ w. omega arith) ∙ high_s j l,
  )

  -- THE ROW
  pub constant_out : Out (constant_noted p (rank (basic (con_kind d))) z row)
  constant_out = go (found (member_found r z p (get_or r count_at 0) 0))
    where
      go : Found → Out (cond (eqb c p) (joined_member p s) s)
      go (e, inl f) = subst (λ (b : Bool). Out (cond b (joined_member p s) s)) (sym (ne_eqb c p (λ u. omega (arith, f.0)))) (out_old e f.1)
      go (e, inr n) = subst (λ (b : Bool). Out (cond b (joined_member p s) s)) (sym (eq-eqb c p n)) (out_new e n)
