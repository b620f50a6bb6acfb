-- The laws of the search's codes: two terms have one code exactly where they are equal, and a code tells a term's type, whether it is a
-- variable, and whether it is a list variable. Assumes nothing.
use mathlib.Core.Path.{◌≡◌, ap}
use mathlib.Core.Logic.{ite}
use mathlib.Core.Bool.{Bool, true, false, cond}
use mathlib.Core.Option.{Option}
use mathlib.Core.List.{List}
use Prim.Native.Nat.{ℕ, ◌+◌, ◌<◌}
use native.Mathlib.Omega.{arith}
use lib.Dec.{eqb, leb}
use lib.ListN.{length}
use borrow.Author.Tests.{eq-eqb, ne_eqb, le-leb, lt-leb}
use Rattle.base_lists.specs.Truths.{decided}
use Rattle.base_limits.specs.Limits.{pair_places, list_items}
use Rattle.math_types.specs.Order.{list}
use Rattle.math_types.specs.Types.{basics, rank}
use Rattle.text_grammar.specs.constants.Constants.{consts}
use Rattle.math_overlaps.specs.Shapes.{fixed, free}
use Rattle.math_search.specs.Problems.{atomic, listvar, Tm, tm_eq, term_type}
use Rattle.math_codes.specs.Tables.{Holds, code_of, same, Table, Made}
use Rattle.math_codes.specs.Lines.{OurAtom, our_vars, our_ranks}
use Rattle.math_codes.proofs.Tables.{holds_below, code_holds, code_first, code_once}
use Rattle.search_spec.specs.Answers.{setting}
use Rattle.search_items.specs.codes.Codes.{code_tm, On}

-- ---- decisions as Bools

pub cond_decided : {A P : Type 0} (d : Dec P) (b : Bool) (x y : A) → b ≡ decided d → cond b x y ≡ ite d x y
cond_decided (yes p) b x y e = ap (λ (c : Bool). cond c x y) e
cond_decided (no n) b x y e = ap (λ (c : Bool). cond c x y) e

-- ---- what the terms are

abbrev pub variable_tm : Tm setting → Bool
variable_tm (atomic (fixed c)) = false
variable_tm (atomic (free x)) = true
variable_tm (listvar n) = true

abbrev pub list_tm : Tm setting → Bool
list_tm (atomic a) = false
list_tm (listvar n) = true

-- items behind the places are list variables
pub record ListsBehind (T : Table) : Type 0 where
  pub kinds : (n : ℕ) → T.kind (pair_places + n) ≡ rank list
  pub variables : (n : ℕ) → T.variable (pair_places + n) ≡ true

-- ---- codes

module _ (t : List (Option OurAtom)) (long : length t ≡ pair_places) where
  atom_below : (a : OurAtom) (p : ℕ) → Holds t p a → code_of (same basics consts our_vars) t a < pair_places
  atom_below a p h = omega (arith, holds_below t p a h, code_first (same basics consts our_vars) t p a h)

  pub code_below : (x : Tm setting) → On t x → code_tm t x < pair_places + list_items
  code_below (atomic a) h = let l = atom_below a h.0 h.1 in omega arith
  code_below (listvar n) h = omega arith

  -- one code for each term
  pub code_tm_once : (x y : Tm setting) → On t x → On t y → code_tm t x ≡ code_tm t y → x ≡ y
  code_tm_once (atomic a) (atomic b) h k e = ap atomic (code_once (same basics consts our_vars) t h.0 k.0 a b h.1 k.1 e)
  code_tm_once (atomic a) (listvar n) h k e = let l = atom_below a h.0 h.1 in absurd (omega arith)
  code_tm_once (listvar m) (atomic b) h k e = let l = atom_below b k.0 k.1 in absurd (omega arith)
  code_tm_once (listvar m) (listvar n) h k e = let z : m ≡ n = omega arith in ap listvar z

  pub code_decided : (x y : Tm setting) → On t x → On t y → (d : Dec (x ≡ y)) → eqb (code_tm t x) (code_tm t y) ≡ decided d
  code_decided x y h k (yes e) = eq-eqb (code_tm t x) (code_tm t y) (ap (code_tm t) e)
  code_decided x y h k (no n) = ne_eqb (code_tm t x) (code_tm t y) (λ e. n (code_tm_once x y h k e))

  pub code_same : (x y : Tm setting) → On t x → On t y → eqb (code_tm t x) (code_tm t y) ≡ decided (tm_eq setting x y)
  code_same x y h k = code_decided x y h k (tm_eq setting x y)

  pub code_list : (x : Tm setting) → On t x → leb pair_places (code_tm t x) ≡ list_tm x
  code_list (atomic a) h = lt-leb pair_places (code_tm t (atomic a)) (atom_below a h.0 h.1)
  code_list (listvar n) h = le-leb pair_places (pair_places + n) (omega arith)

  -- what the tables say of a code
  module _ (T : Table) (m : Made basics consts our_vars our_ranks T t) (l : ListsBehind T) where
    pub code_kind : (x : Tm setting) → On t x → T.kind (code_tm t x) ≡ rank (term_type setting x)
    code_kind (atomic (fixed c)) h = m.kinds (code_tm t (atomic (fixed c))) (fixed c) (code_holds (same basics consts our_vars) t h.0 (fixed c) h.1)
    code_kind (atomic (free x)) h = m.kinds (code_tm t (atomic (free x))) (free x) (code_holds (same basics consts our_vars) t h.0 (free x) h.1)
    code_kind (listvar n) h = l.kinds n

    pub code_variable : (x : Tm setting) → On t x → T.variable (code_tm t x) ≡ variable_tm x
    code_variable (atomic (fixed c)) h =
        m.variables (code_tm t (atomic (fixed c))) (fixed c) (code_holds (same basics consts our_vars) t h.0 (fixed c) h.1)
    code_variable (atomic (free x)) h =
        m.variables (code_tm t (atomic (free x))) (free x) (code_holds (same basics consts our_vars) t h.0 (free x) h.1)
    code_variable (listvar n) h = l.variables n
