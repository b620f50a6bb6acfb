-- The starred pairs of document 01 and others, computed from the definitions: entries' fields and the values that their lines show.
use mathlib.Core.Path.{◌≡◌, refl}
use mathlib.Core.Bool.{true}
use mathlib.Core.List.{List, [], ◌∷◌, map}
use Prim.Native.Nat.{ℕ}
use native.Mathlib.Decide.{ℕ_discrete}
use Rattle.math_types.specs.Order.{Full, basic, list}
use Rattle.math_types.specs.Types.{leaf, Basic, integer, string, atom, le, basics}
use Rattle.math_terms.specs.Terms.{Term, con, var}
use Rattle.math_terms.specs.Constants.{Consts}
use Rattle.math_overlaps.specs.Substitutions.{image}
use Rattle.math_overlaps.specs.Overlaps.{Entry, overlaps}

-- a string stands here by its one byte, which is all that these pairs need
pub data Constant : Type 0 where
  num : ℕ → Constant
  txt : ℕ → Constant
  deriving Discrete as constant-eq

abbrev pub kind_of : Constant → Basic
kind_of (num n) = leaf integer
kind_of (txt n) = leaf string

abbrev pub some_of : Basic → Constant
some_of (leaf integer) = num 0
some_of (leaf string) = txt 0
some_of atom = num 0

pub some_of_le : (k : Basic) → le (basic (kind_of (some_of k))) (basic k) ≡ true
some_of_le (leaf integer) = refl
some_of_le (leaf string) = refl
some_of_le atom = refl

abbrev pub constants : Consts basics
constants = record { Con = Constant; con_eq = constant-eq ℕ_discrete; con_kind = kind_of; some_of = some_of; some_of_le = some_of_le }

abbrev pub T : Type 0
T = Term Constant (Full Basic) ℕ

-- an entry's fields, and the values of variables of the left and of the right rule
abbrev pub Line : Type 0
Line = List (List T) × List (List T) × List (List T)

abbrev pub line : List T → List T → Entry basics constants ℕ → Line
line xs ys e = (e.fields, map (image e.left) xs, map (image e.right) ys)

pub record Case : Type 0 where
  pub left : List (List T)
  pub right : List (List T)
  pub left_vars : List T
  pub right_vars : List T
  pub out : List Line

abbrev pub lines : Case → List Line
lines c = map (line c.left_vars c.right_vars) (overlaps basics constants ℕ_discrete c.left c.right)

infix 80 #◌
abbrev #◌ : ℕ → T
#◌ n = con (num n)

abbrev i0 : T
i0 = var (basic (leaf integer)) 0

abbrev i1 : T
i1 = var (basic (leaf integer)) 1

abbrev i3 : T
i3 = var (basic (leaf integer)) 3

abbrev s0 : T
s0 = var (basic (leaf string)) 0

abbrev a0 : T
a0 = var (basic atom) 0

abbrev l0 : T
l0 = var list 0

abbrev l1 : T
l1 = var list 1

abbrev pub table : List Case
table =
    -- a0:l0 and l0:2
    record {
      left = (a0 ∷ l0 ∷ []) ∷ [];
      right = (l0 ∷ # 2 ∷ []) ∷ [];
      left_vars = a0 ∷ l0 ∷ [];
      right_vars = l0 ∷ [];
      out =
          ((# 2 ∷ []) ∷ [], (# 2 ∷ []) ∷ [] ∷ [], [] ∷ []) ∷
          ((a0 ∷ l0 ∷ # 2 ∷ []) ∷ [], (a0 ∷ []) ∷ (l0 ∷ # 2 ∷ []) ∷ [], (a0 ∷ l0 ∷ []) ∷ []) ∷ [];
    } ∷
    -- l0 and l0
    record {
      left = (l0 ∷ []) ∷ [];
      right = (l0 ∷ []) ∷ [];
      left_vars = l0 ∷ [];
      right_vars = l0 ∷ [];
      out = ((l0 ∷ []) ∷ [], (l0 ∷ []) ∷ [], (l0 ∷ []) ∷ []) ∷ [];
    } ∷
    -- empty and empty
    record { left = [] ∷ []; right = [] ∷ []; left_vars = []; right_vars = []; out = ([] ∷ [], [], []) ∷ [] } ∷
    -- i0 and 2:l0
    record {
      left = (i0 ∷ []) ∷ [];
      right = (# 2 ∷ l0 ∷ []) ∷ [];
      left_vars = i0 ∷ [];
      right_vars = l0 ∷ [];
      out = ((# 2 ∷ []) ∷ [], (# 2 ∷ []) ∷ [], [] ∷ []) ∷ [];
    } ∷
    -- i0 and s0
    record { left = (i0 ∷ []) ∷ []; right = (s0 ∷ []) ∷ []; left_vars = i0 ∷ []; right_vars = s0 ∷ []; out = [] } ∷
    -- 1:2:l0 and l0:2:3
    record {
      left = (# 1 ∷ # 2 ∷ l0 ∷ []) ∷ [];
      right = (l0 ∷ # 2 ∷ # 3 ∷ []) ∷ [];
      left_vars = l0 ∷ [];
      right_vars = l0 ∷ [];
      out =
          ((# 1 ∷ # 2 ∷ # 3 ∷ []) ∷ [], (# 3 ∷ []) ∷ [], (# 1 ∷ []) ∷ []) ∷
          ((# 1 ∷ # 2 ∷ l0 ∷ # 2 ∷ # 3 ∷ []) ∷ [], (l0 ∷ # 2 ∷ # 3 ∷ []) ∷ [], (# 1 ∷ # 2 ∷ l0 ∷ []) ∷ []) ∷ [];
    } ∷
    -- a0|a0 and 1|"m"
    record {
      left = (a0 ∷ []) ∷ (a0 ∷ []) ∷ [];
      right = (# 1 ∷ []) ∷ (con (txt 109) ∷ []) ∷ [];
      left_vars = a0 ∷ [];
      right_vars = [];
      out = [];
    } ∷
    -- i0|i0:l0 and 3|a0
    record {
      left = (i0 ∷ []) ∷ (i0 ∷ l0 ∷ []) ∷ [];
      right = (# 3 ∷ []) ∷ (a0 ∷ []) ∷ [];
      left_vars = i0 ∷ l0 ∷ [];
      right_vars = a0 ∷ [];
      out = ((# 3 ∷ []) ∷ (# 3 ∷ []) ∷ [], (# 3 ∷ []) ∷ [] ∷ [], (# 3 ∷ []) ∷ []) ∷ [];
    } ∷
    -- a0:a0 and i0:l0
    record {
      left = (a0 ∷ a0 ∷ []) ∷ [];
      right = (i0 ∷ l0 ∷ []) ∷ [];
      left_vars = a0 ∷ [];
      right_vars = i0 ∷ l0 ∷ [];
      out = ((i0 ∷ i0 ∷ []) ∷ [], (i0 ∷ []) ∷ [], (i0 ∷ []) ∷ (i0 ∷ []) ∷ []) ∷ [];
    } ∷
    -- a0:a0 and 1:"1"
    record {
      left = (a0 ∷ a0 ∷ []) ∷ [];
      right = (# 1 ∷ con (txt 49) ∷ []) ∷ [];
      left_vars = a0 ∷ [];
      right_vars = [];
      out = [];
    } ∷
    -- l0 and l0|l1: different field counts
    record {
      left = (l0 ∷ []) ∷ [];
      right = (l0 ∷ []) ∷ (l1 ∷ []) ∷ [];
      left_vars = l0 ∷ [];
      right_vars = l0 ∷ l1 ∷ [];
      out = [];
    } ∷
    -- a0:1 and 2:a0: spelled alike and kept apart
    record {
      left = (a0 ∷ # 1 ∷ []) ∷ [];
      right = (# 2 ∷ a0 ∷ []) ∷ [];
      left_vars = a0 ∷ [];
      right_vars = a0 ∷ [];
      out = ((# 2 ∷ # 1 ∷ []) ∷ [], (# 2 ∷ []) ∷ [], (# 1 ∷ []) ∷ []) ∷ [];
    } ∷
    -- 1|a0:l0 and l1|l0:2: the length varies in the second field too
    record {
      left = (# 1 ∷ []) ∷ (a0 ∷ l0 ∷ []) ∷ [];
      right = (l1 ∷ []) ∷ (l0 ∷ # 2 ∷ []) ∷ [];
      left_vars = a0 ∷ l0 ∷ [];
      right_vars = l0 ∷ l1 ∷ [];
      out =
          ((# 1 ∷ []) ∷ (# 2 ∷ []) ∷ [], (# 2 ∷ []) ∷ [] ∷ [], [] ∷ (# 1 ∷ []) ∷ []) ∷
          ((# 1 ∷ []) ∷ (a0 ∷ l0 ∷ # 2 ∷ []) ∷ [], (a0 ∷ []) ∷ (l0 ∷ # 2 ∷ []) ∷ [], (a0 ∷ l0 ∷ []) ∷ (# 1 ∷ []) ∷ []) ∷ [];
    } ∷
    -- s0 and 1: a constant that is not of the variable's type
    record { left = (s0 ∷ []) ∷ []; right = (# 1 ∷ []) ∷ []; left_vars = s0 ∷ []; right_vars = []; out = [] } ∷
    -- i3:i3:s0:i0|l1 and l0|l1: renumbered in each type by first occurrence
    record {
      left = (i3 ∷ i3 ∷ s0 ∷ i0 ∷ []) ∷ (l1 ∷ []) ∷ [];
      right = (l0 ∷ []) ∷ (l1 ∷ []) ∷ [];
      left_vars = i0 ∷ i3 ∷ s0 ∷ l1 ∷ [];
      right_vars = l0 ∷ l1 ∷ [];
      out = ((i0 ∷ i0 ∷ s0 ∷ i1 ∷ []) ∷ (l0 ∷ []) ∷ [], (i1 ∷ []) ∷ (i0 ∷ []) ∷ (s0 ∷ []) ∷ (l0 ∷ []) ∷ [], (i0 ∷ i0 ∷ s0 ∷ i1 ∷ []) ∷ (l0 ∷ []) ∷ []) ∷ [];
    } ∷ []

pub starred : map lines table ≡ map (λ (c : Case). c.out) table
unfolding ℕ_discrete
starred = refl
