-- Document 01's types: integer, string, atom, list, and their order as a table of four by four.
-- Integer and string are leaves: what is said of any leaves (Flat, Kinds) is said of them here, under one name each.
--     _⊑_            the order as the document says it
--     kinds, rank    the types in the document's order i, s, a, l, and each one's place
--     comparisons    the table, which the code reads; that it is the order is one computed test
--     same           whether two kinds are equal, by their ranks
--     types, basics  the instances of `Order`, with `list` and without
use Rattle.std.specs.Prelude.{◌≡◌, refl, ◌↔◌, Bool, true, false, List, [], ◌∷◌, ℕ, ◌≤◌, ◌<◌, T, length}
use Rattle.std.proofs.Common.{ap, arith}
use Rattle.std.proofs.Math.Option.{some}
use Rattle.std.proofs.Math.ListN.{get_elem?}
use Rattle.base_limits.specs.Limits.{kind_count, atom_kind_count}
use Rattle.base_lists.specs.Seqs.{All}
use Rattle.base_lists.specs.Truths.{decided}
use Rattle.math_types.specs.Order.{Order, basic, list}
use Rattle.math_types.specs.Lawful.{lawful}
pub use Rattle.math_types.specs.Flat.{leaf, atom, ◌⊑◌, leaf_atom, atom_list, itself, through}
use Rattle.math_types.specs.Flat as F
use Rattle.math_types.specs.Kinds.{Leaves}
use Rattle.math_types.specs.Kinds as K

-- the types below atom
pub data Leaf : Type 0 where
  integer string : Leaf
  deriving Discrete as leaf_eq

-- in the document's order
abbrev pub leaves : List Leaf
leaves = integer ∷ string ∷ []

abbrev pub place : Leaf → ℕ
place integer = 0
place string = 1

pub leaf_at : (l : Leaf) → get_elem? leaves (place l) ≡ some l
leaf_at integer = refl
leaf_at string = refl

abbrev pub four : Leaves
four = record { Leaf = Leaf; leaf_eq = leaf_eq; leaves = leaves; place = place; leaf_at = leaf_at; places = refl }

-- the types below list
abbrev pub Basic : Type 0
Basic = K.Basic four

abbrev pub basic_eq : Discrete Basic
basic_eq = F.flat-eq leaf_eq

abbrev pub Kind : Type 0
Kind = K.Kind four

-- ---- the types in their order

abbrev pub kinds : List Kind
kinds = K.kinds four

-- a kind's row and column in the table
abbrev pub rank : Kind → ℕ
rank = K.rank four

abbrev pub kind_at : ℕ → Kind
kind_at = K.kind_at four

-- how many types are below list
abbrev pub atom_kinds : ℕ
atom_kinds = K.atom_kinds four

pub kinds_are : kinds ≡ basic (leaf integer) ∷ basic (leaf string) ∷ basic atom ∷ list ∷ []
kinds_are = refl

-- how many there are
pub kinds_count : length kinds ≡ kind_count
kinds_count = refl

pub atom_kinds_count : atom_kinds ≡ atom_kind_count
atom_kinds_count = refl

pub rank_basic : (k : Basic) → rank (basic k) < atom_kinds
rank_basic = K.rank_basic four

pub rank_kinds : (k : Kind) → rank k < length kinds
rank_kinds = K.rank_kinds four

pub kind_at_rank : (k : Kind) → kind_at (rank k) ≡ k
kind_at_rank = K.kind_at_rank four

pub rank_at_lem : (i : ℕ) → i < length kinds → rank (kind_at i) ≡ i
rank_at_lem = K.rank_at_lem four

-- behind the types below list there is list
pub kind_past : (i : ℕ) → atom_kinds ≤ i → kind_at i ≡ list
kind_past = K.kind_past four

-- no two kinds share a rank
pub rank_once : (j k : Kind) → rank j ≡ rank k → j ≡ k
rank_once = K.rank_once four

-- a rank below list's is that of a type below list
pub basic_at : (i : ℕ) → i < atom_kinds → (k : Basic) × (kind_at i ≡ basic k) × (rank (basic k) ≡ i)
basic_at = K.basic_at four

-- what holds at each member of the list holds of every kind
pub every_kind : (P : Kind → Type 0) → All P kinds → (k : Kind) → P k
every_kind = K.every_kind four

-- ---- equality, by the ranks

abbrev pub same : Kind → Kind → Bool
same = K.same four

abbrev pub is_list : Kind → Bool
is_list = K.is_list four

pub same_is : (j k : Kind) → (same j k ≡ true) ↔ (j ≡ k)
same_is = K.same_is four

pub same_basic : (j k : Basic) → same (basic j) (basic k) ≡ decided (basic_eq j k)
same_basic = K.same_basic four

-- list is no type below list
pub not_list : (k : Basic) → same (basic k) list ≡ false
not_list = K.not_list four

pub list_not : (k : Basic) → same list (basic k) ≡ false
list_not = K.list_not four

pub is_list_lem : (k : Kind) → same k list ≡ is_list k
is_list_lem = K.is_list_lem four

-- ---- the order

-- without `list`
abbrev pub basics : Order
basics = K.basics four

abbrev pub types : Order
types = K.types four

abbrev pub le : Kind → Kind → Bool
le = F.le leaf_eq

pub le_refl : (k : Kind) → le k k ≡ true
le_refl = F.le_refl leaf_eq

pub le_anti : (j k : Kind) → le j k ≡ true → le k j ≡ true → j ≡ k
le_anti = F.le_anti leaf_eq

pub le_trans : (j k m : Kind) → le j k ≡ true → le k m ≡ true → le j m ≡ true
le_trans = F.le_trans leaf_eq

-- it is the order that document 01 says
pub le_is : (j k : Kind) → (le j k ≡ true) ↔ (j ⊑ k)
le_is = F.le_is leaf_eq

-- Document 01: "integer and string are incomparable"
pub incomparable : (basic (leaf integer) ⊑ basic (leaf string) → ⊥) × (basic (leaf string) ⊑ basic (leaf integer) → ⊥)
incomparable = (
  F.incomparable leaf_eq integer string (λ e. omega (arith, ap place e)),
  F.incomparable leaf_eq string integer (λ e. omega (arith, ap place e)),
)

-- ---- the table

-- Document 01: "We keep the type order as a table of four by four". A row for each lower kind, a column for each upper one.
abbrev pub comparisons : List Bool
comparisons =
    true ∷ false ∷ true ∷ true ∷
    false ∷ true ∷ true ∷ true ∷
    false ∷ false ∷ true ∷ true ∷
    false ∷ false ∷ false ∷ true ∷ []

abbrev pub entry : ℕ → ℕ → Bool
entry = K.entry four comparisons

-- the laws of the table by themselves: one test, over the 64 triples of ranks
pub table_lawful : T (lawful entry kind_count)
table_lawful = tt

-- the table is the order: one test, over the 16 pairs of ranks
pub table_order : T (K.is_order four comparisons)
table_order = tt

pub entry_is : (j k : Kind) → entry (rank j) (rank k) ≡ le j k
entry_is = K.entry_is four comparisons table_order
