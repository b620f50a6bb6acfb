-- The tests of matching in their order, and how many of the slip's items they compare. Document 02, E2: matching takes "the fields from
-- the left, in each first what concerns the field as a whole, such as its length, then the rule's atoms from the left", and ends "at the
-- first such test that fails, or at the first slip item that differs from its constant, has the wrong type or isn't its variable's earlier
-- value".
use Rattle.std.specs.Prelude.{◌≡◌, ◌⊎◌, Bool, true, false, cond, List, [], ◌∷◌, ◌++◌, ℕ, ◌+◌, ◌-◌, eqb, length}
use Rattle.std.proofs.Math.Logic.{ite}
use Rattle.std.proofs.Math.Option.{Option, none, some}
use Rattle.std.proofs.Math.ListN.{get_elem?}
use Rattle.base_lists.specs.Seqs.{All, both?}
use Rattle.math_types.specs.Order.{Order, Full, basic, list, full-eq}
use Rattle.math_terms.specs.Terms.{Term, con, var}
use Rattle.math_terms.specs.Constants.{Consts, TermOver}
use Rattle.math_terms.specs.Matcher.{atoms, has_room}

-- ---- tests

-- a test: how many items of the slip it compares, and whether it passes
pub record Test : Type 0 where
  pub items : ℕ
  pub passes : Bool

-- of a field as a whole, or of rule and slip as a whole: no item is compared
abbrev pub whole : Bool → Test
whole b = record { items = 0; passes = b }

-- of one atom
abbrev pub of_atom : Bool → Test
of_atom b = record { items = 1; passes = b }

abbrev pub Passes : Test → Type 0
Passes t = t.passes ≡ true

-- "one for each atom reached, the failing one included": the items compared up to the first test that fails
abbrev pub reached : List Test → ℕ
reached [] = 0
reached (t ∷ ts) = t.items + cond t.passes (reached ts) 0

-- the items that all the tests compare, had all been made
abbrev pub all_items : List Test → ℕ
all_items [] = 0
all_items (t ∷ ts) = t.items + all_items ts

-- THE COUNT IS k: all tests pass, and they compare k items; or the test t fails, those before it pass, and with t they compare k items.
-- `compared_exactly` of proofs/Compared says that it is k exactly then.
abbrev pub CountIs : List Test → ℕ → Type 0
CountIs ts k =
    (All Passes ts × (k ≡ all_items ts))
    ⊎ ((before : List Test) × (t : Test) × (others : List Test)
    × (ts ≡ before ++ t ∷ others) × All Passes before × (t.passes ≡ false) × (k ≡ all_items before + t.items))

-- ---- the tests of a rule and a slip

module _ {C K A : Type 0} where
  -- the atoms of a rule
  abbrev pub all_atoms : List (List (Term C (Full K) A)) → ℕ
  all_atoms [] = 0
  all_atoms (f ∷ fs) = atoms f + all_atoms fs

-- an atom of the rule, and the slip's item that it stands against, if there is one
abbrev pub Pair : (O : Order) → Consts O → Type 0 → Type 0
Pair O C A = TermOver O C A × Option C.Con

module _ (O : Order) (C : Consts O) {A : Type 0} where
  open C use {Con}

  -- the atoms of a field from the left, its first term at item p: an atom takes one item, a list variable `gap`
  abbrev pub pairs_from : ℕ → List Con → List (TermOver O C A) → ℕ → List (Pair O C A)
  pairs_from gap w [] p = []
  pairs_from gap w (con d ∷ f) p = (con d, get_elem? w p) ∷ pairs_from gap w f (p + 1)
  pairs_from gap w (var (basic k) a ∷ f) p = (var (basic k) a, get_elem? w p) ∷ pairs_from gap w f (p + 1)
  pairs_from gap w (var list a ∷ f) p = pairs_from gap w f (p + gap)

  -- a list variable takes the items that the atoms leave
  abbrev pub pairs : List (TermOver O C A) → List Con → List (Pair O C A)
  pairs f w = pairs_from (length w - atoms f) w f 0

  -- the pairs before, the last first, when these have been passed too
  abbrev pub behind : List (Pair O C A) → List (Pair O C A) → List (Pair O C A)
  behind before [] = before
  behind before (x ∷ ps) = behind (x ∷ before) ps

module _ (O : Order) (C : Consts O) where
  open O use {Kind, le}
  open C use {Con, con_eq, con_kind}

  -- the item c for a variable of kind k, which has this earlier value or none
  abbrev pub suits_variable : Kind → Option Con → Con → Bool
  suits_variable k none c = le (con_kind c) k
  suits_variable k (some d) c = ite (con_eq c d) true false

module _ (O : Order) (C : Consts O) {A : Type 0} (name_eq : Discrete A) where
  open O use {Kind, kind_eq}
  open C use {Con, con_eq}

  -- "its variable's earlier value": the item that it stood against, among the pairs before it
  abbrev pub earlier : Full Kind → A → List (Pair O C A) → Option Con
  earlier k a [] = none
  earlier k a ((con d, o) ∷ before) = earlier k a before
  earlier k a ((var j b, o) ∷ before) = ite (both? (full-eq kind_eq k j) (name_eq a b)) o (earlier k a before)

  -- the item c is the atom's constant; is of its variable's type; is its variable's earlier value
  abbrev pub suits : List (Pair O C A) → TermOver O C A → Con → Bool
  suits before (con d) c = ite (con_eq c d) true false
  suits before (var (basic k) a) c = suits_variable O C k (earlier (basic k) a before) c
  suits before (var list a) c = true

  abbrev pub holds : List (Pair O C A) → Pair O C A → Bool
  holds before (t, none) = false
  holds before (t, some c) = suits before t c

  abbrev pub atom_tests : List (Pair O C A) → List (Pair O C A) → List Test
  atom_tests before [] = []
  atom_tests before (x ∷ ps) = of_atom (holds before x) ∷ atom_tests (x ∷ before) ps

  -- "in each first what concerns the field as a whole, such as its length, then the rule's atoms from the left"
  abbrev pub field_tests : List (Pair O C A) → List (TermOver O C A) → List Con → List Test
  field_tests before f w = whole (has_room f (length w)) ∷ atom_tests before (pairs O C f w)

  -- "the fields from the left"
  abbrev pub fields_tests : List (Pair O C A) → List (List (TermOver O C A)) → List (List Con) → List Test
  fields_tests before [] ws = []
  fields_tests before (f ∷ fs) [] = []
  fields_tests before (f ∷ fs) (w ∷ ws) = field_tests before f w ++ fields_tests (behind O C before (pairs O C f w)) fs ws

  -- THE TESTS, all of them in their order: first whether the two have as many fields
  abbrev pub tests : List (List (TermOver O C A)) → List (List Con) → List Test
  tests rule slip = whole (eqb (length rule) (length slip)) ∷ fields_tests [] rule slip

  -- HOW MANY ITEMS OF THE SLIP ARE COMPARED
  abbrev pub compared : List (List (TermOver O C A)) → List (List Con) → ℕ
  compared rule slip = reached (tests rule slip)
