-- What stands in the row and in the cells when the terms before place p are noted, relative to the atoms t of the whole pair by place:
-- `Codes` by place, `Members` and `Cells` of constants, `Indexed` by a rule's variables. Each part reads its own region of the row.
use mathlib.Core.Path.{◌≡◌, sym, ap, ◌∙◌, subst}
use mathlib.Core.Logic.{◌≢◌}
use mathlib.Core.Option.{Option, none, none-ne-some}
use mathlib.Core.List.{List}
use Prim.Native.Nat.{ℕ, suc, ◌+◌, ◌≤◌, ◌<◌}
use native.Mathlib.Omega.{arith}
use native.Mathlib.Decide.{ℕ_discrete, dec_lt}
use lib.ListN.{length, get_or}
use Rattle.base_limits.specs.Limits.{longest_string, pair_places}
use Rattle.math_types.specs.Order.{basic}
use Rattle.math_types.specs.Types.{basics, rank}
use Rattle.text_grammar.specs.constants.Constants.{Con, consts}
use Rattle.math_overlaps.specs.Shapes.{fixed}
use Rattle.math_codes.specs.Tables.{Holds, code_of, kind_a, is_free}
use Rattle.math_codes.specs.Tables.{same as alike}
use Rattle.math_codes.specs.Lines.{our_vars, OurAtom}
use Rattle.math_codes.proofs.Tables.{holds_once}
use Rattle.pair_row.specs.Row.{kinds_at, variables_at, shapes_at, count_at, members_at, row_bytes, is_set}
use Rattle.pair_table.specs.Notes.{joined_member}
use Rattle.pair_table.proofs.PairsRow.{joined_other, joined_count, joined_new}
use Rattle.pair_table.proofs.PairsCells.{Cell, bytes_of}

-- a number below suc p
pub pick : (P : ℕ → Type 0) (q p : ℕ) → q < suc p → (q < p → P q) → P p → P q
pick P q p l below here = go (ℕ_discrete q p)
  where
    go : Dec (q ≡ p) → P q
    go (yes e) = subst P (sym e) here
    go (no d) = below (omega (arith, d))

-- two rows read the same at j
abbrev pub Same : List ℕ → List ℕ → ℕ → Type 0
Same row row' j = get_or row' j 0 ≡ get_or row j 0

module _ (t : List (Option OurAtom)) where
  abbrev pub code : OurAtom → ℕ
  code a = code_of (alike basics consts our_vars) t a

  -- no atom stands from a up to b
  abbrev pub Gap : ℕ → ℕ → Type 0
  Gap a b = (q : ℕ) → a ≤ q → q < b → get_or t q none ≡ none

  pub no_gap : (a b : ℕ) → Gap a b → (q : ℕ) (x : OurAtom) → a ≤ q → q < b → Holds t q x → ⊥
  no_gap a b g q x l h k = none-ne-some x (sym (g q l h) ∙ k)

  -- ---- codes

  pub record Codes (p : ℕ) (row : List ℕ) : Type 0 where
    pub firsts : (q : ℕ) (a : OurAtom) → q < p → Holds t q a → get_or row q 0 ≡ code a
    pub kinds : (q : ℕ) (a : OurAtom) → q < p → Holds t q a → get_or row (kinds_at + q) 0 ≡ rank (basic (kind_a basics consts our_vars a))
    pub variables : (q : ℕ) (a : OurAtom) → q < p → Holds t q a → is_set (get_or row (variables_at + q) 0) ≡ is_free basics consts our_vars a

  -- the same of one place
  abbrev pub Here : ℕ → List ℕ → Type 0
  Here p row =
      (a : OurAtom) → Holds t p a
      → (get_or row p 0 ≡ code a) × (get_or row (kinds_at + p) 0 ≡ rank (basic (kind_a basics consts our_vars a)))
      × (is_set (get_or row (variables_at + p) 0) ≡ is_free basics consts our_vars a)

  pub here_from : (p : ℕ) (row : List ℕ) (a : OurAtom) → Holds t p a → get_or row p 0 ≡ code a
      → get_or row (kinds_at + p) 0 ≡ rank (basic (kind_a basics consts our_vars a))
      → is_set (get_or row (variables_at + p) 0) ≡ is_free basics consts our_vars a → Here p row
  here_from p row a h x y z b k =
      subst (λ (e : OurAtom). (get_or row p 0 ≡ code e) × (get_or row (kinds_at + p) 0 ≡ rank (basic (kind_a basics consts our_vars e)))
      × (is_set (get_or row (variables_at + p) 0) ≡ is_free basics consts our_vars e)) (holds_once t p a b h k) (x, y, z)

  -- nothing else is written by place
  abbrev pub ByPlace : ℕ → List ℕ → List ℕ → Type 0
  ByPlace p row row' = (j : ℕ) → j < shapes_at → j ≢ p → j ≢ kinds_at + p → j ≢ variables_at + p → Same row row' j

  pub codes_keep : (p : ℕ) (row row' : List ℕ) → p < pair_places → ByPlace p row row' → Codes p row → Codes p row'
  codes_keep p row row' h s c =
      record {
        firsts = λ q a l k. s q (omega arith) (λ e. omega arith) (λ e. omega arith) (λ e. omega arith) ∙ c.firsts q a l k;
        kinds = λ q a l k. s (kinds_at + q) (omega arith) (λ e. omega arith) (λ e. omega arith) (λ e. omega arith) ∙ c.kinds q a l k;
        variables = λ q a l k. ap is_set (s (variables_at + q) (omega arith) (λ e. omega arith) (λ e. omega arith) (λ e. omega arith)) ∙ c.variables q a l k;
      }

  -- nothing is written by place at all
  pub codes_same : (p : ℕ) (row row' : List ℕ) → p ≤ pair_places → ((j : ℕ) → j < shapes_at → Same row row' j) → Codes p row → Codes p row'
  codes_same p row row' h s c =
      record {
        firsts = λ q a l k. s q (omega arith) ∙ c.firsts q a l k;
        kinds = λ q a l k. s (kinds_at + q) (omega arith) ∙ c.kinds q a l k;
        variables = λ q a l k. ap is_set (s (variables_at + q) (omega arith)) ∙ c.variables q a l k;
      }

  pub codes_next : (p : ℕ) (row : List ℕ) → Codes p row → Here p row → Codes (suc p) row
  codes_next p row c n =
      record {
        firsts = λ q a l k. pick (λ x. Holds t x a → get_or row x 0 ≡ code a) q p l (λ b h. c.firsts q a b h) (λ h. (n a h).0) k;
        kinds = λ q a l k. pick (λ x. Holds t x a → get_or row (kinds_at + x) 0 ≡ rank (basic (kind_a basics consts our_vars a))) q p l
            (λ b h. c.kinds q a b h) (λ h. (n a h).1) k;
        variables = λ q a l k. pick (λ x. Holds t x a → is_set (get_or row (variables_at + x) 0) ≡ is_free basics consts our_vars a) q p l
            (λ b h. c.variables q a b h) (λ h. (n a h).2) k;
      }

  -- over places without atoms
  pub over_gap : {P : ℕ → OurAtom → Type 0} (p r : ℕ) → Gap p r → ((q : ℕ) (a : OurAtom) → q < p → Holds t q a → P q a)
      → (q : ℕ) (a : OurAtom) → q < r → Holds t q a → P q a
  over_gap {P} p r g c q a l k = go (dec_lt q p)
    where
      go : Dec (q < p) → P q a
      go (yes b) = c q a b k
      go (no n) = absurd (no_gap p r g q a (omega arith) l k)

  pub codes_gap : (p r : ℕ) (row : List ℕ) → Gap p r → Codes p row → Codes r row
  codes_gap p r row g c =
      record {
        firsts = over_gap {P = λ q a. get_or row q 0 ≡ code a} p r g c.firsts;
        kinds = over_gap {P = λ q a. get_or row (kinds_at + q) 0 ≡ rank (basic (kind_a basics consts our_vars a))} p r g c.kinds;
        variables = over_gap {P = λ q a. is_set (get_or row (variables_at + q) 0) ≡ is_free basics consts our_vars a} p r g c.variables;
      }

  -- ---- members

  -- some member is the code of d
  abbrev pub Among : List ℕ → Con → Type 0
  Among row d = (i : ℕ) × (i < get_or row count_at 0) × (get_or row (members_at + i) 0 ≡ code (fixed d))

  -- x is the code of a constant before p
  abbrev pub Member : ℕ → ℕ → Type 0
  Member p x = (d : Con) × Holds t x (fixed d) × (code (fixed d) ≡ x) × (x < p)

  pub record Members (p : ℕ) (row : List ℕ) : Type 0 where
    pub few : get_or row count_at 0 ≤ p
    pub each : (i : ℕ) → i < get_or row count_at 0 → Member p (get_or row (members_at + i) 0)
    pub all : (q : ℕ) (d : Con) → q < p → Holds t q (fixed d) → Among row d

  pub among_keep : (row row' : List ℕ) (d : Con) → ((j : ℕ) → count_at ≤ j → Same row row' j) → Among row d → Among row' d
  among_keep row row' d s m = (m.0, omega (arith, m.1, s count_at (omega arith)), s (members_at + m.0) (omega arith) ∙ m.2)

  member_later : (p r x : ℕ) → p ≤ r → Member p x → Member r x
  member_later p r x h m = (m.0, m.1, m.2, omega (arith, m.3, h))

  -- no member more
  pub members_keep : (p r : ℕ) (row row' : List ℕ) → p ≤ r → ((j : ℕ) → count_at ≤ j → Same row row' j)
      → ((q : ℕ) (d : Con) → p ≤ q → q < r → Holds t q (fixed d) → Among row d) → Members p row → Members r row'
  members_keep p r row row' h s new c =
      record {
        few = omega (arith, s count_at (omega arith), c.few, h);
        each = λ i l. subst (Member r) (sym (s (members_at + i) (omega arith)))
            (member_later p r (get_or row (members_at + i) 0) h (c.each i (omega (arith, l, s count_at (omega arith)))));
        all = λ q d l k. among_keep row row' d s (go q d l k (dec_lt q p));
      }
    where
      go : (q : ℕ) (d : Con) → q < r → Holds t q (fixed d) → Dec (q < p) → Among row d
      go q d l k (yes b) = c.all q d b k
      go q d l k (no n) = new q d (omega arith) l k

  -- one member more, the constant d at p
  module _ (p : ℕ) (row : List ℕ) (d : Con) (h : p < pair_places) (long : length row ≡ row_bytes)
      (k : Holds t p (fixed d)) (e : code (fixed d) ≡ p) (c : Members p row) where
    abbrev n : ℕ
    n = get_or row count_at 0

    room : n < pair_places
    room = omega (arith, c.few, h)

    kept : (i : ℕ) → i < n → get_or (joined_member p row) (members_at + i) 0 ≡ get_or row (members_at + i) 0
    kept i l = joined_other p row (members_at + i) (λ q. omega arith) (λ q. omega (arith, l))

    pub members_joined : Members (suc p) (joined_member p row)
    members_joined =
        record {
          few = omega (arith, joined_count p row room long, c.few);
          each = λ i l. pick (λ x. Member (suc p) (get_or (joined_member p row) (members_at + x) 0)) i n (omega (arith, l, joined_count p row room long))
              (λ b. subst (Member (suc p)) (sym (kept i b)) (member_later p (suc p) (get_or row (members_at + i) 0) (omega arith) (c.each i b)))
              (subst (Member (suc p)) (sym (joined_new p row room long)) (d, k, e, omega arith));
          all = λ q b l m. pick (λ x. Holds t x (fixed b) → Among (joined_member p row) b) q p l (λ u v. old b (c.all q b u v)) (λ v. new b v) m;
        }
      where
        old : (b : Con) → Among row b → Among (joined_member p row) b
        old b m = (m.0, omega (arith, m.1, joined_count p row room long), kept m.0 m.1 ∙ m.2)

        new : (b : Con) → Holds t p (fixed b) → Among (joined_member p row) b
        new b v = (
          n,
          omega (arith, joined_count p row room long),
          joined_new p row room long ∙ sym e ∙ ap code (holds_once t p (fixed d) (fixed b) k v),
        )

  -- ---- cells

  abbrev pub Cells : ℕ → List ℕ → Type 0
  Cells p texts = (q : ℕ) (d : Con) → q < p → Holds t q (fixed d) → Cell texts q (bytes_of d) × (length (bytes_of d) ≤ longest_string)
