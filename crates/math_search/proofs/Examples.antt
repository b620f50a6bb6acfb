-- Figure 8 of document 001 and the starred one-field pairs of document 01, searched by computation.
use mathlib.Core.Path.{◌≡◌, refl}
use mathlib.Core.List.{List, [], ◌∷◌, map}
use Prim.Native.Nat.{ℕ, ◌-◌}
use native.Mathlib.Decide.{ℕ_discrete}
use Rattle.math_types.specs.Types.{leaf, integer, string, atom, basics}
use Rattle.math_overlaps.specs.Shapes.{fixed, free, left, right, of}
use Rattle.math_overlaps.proofs.Examples.{num, txt, constants}
use Rattle.math_search.specs.Problems.{Setting, atomic, listvar, Tm, Field, root}
use Rattle.math_search.specs.Fresh.{numbers}
use Rattle.math_search.specs.Rules.{Rule, Remove, Decomp1, Decomp1', Decomp2, Decomp2', Decomp3, Decomp4, Subst1, Subst2, Subst3, Orient1, Orient2}
use Rattle.math_search.specs.Rules.{Orient3}
use Rattle.math_search.specs.Rules.{children}
use Rattle.math_search.specs.Queue.{Result, answers, refused, unfinished, searching}
use Rattle.math_search.specs.Answers.{values_in}
use Rattle.math_search.specs.Pairs.{pair_setting}

-- document 01's types, the variables of a pair of rules, list variables as numbers
abbrev setting : Setting
setting = pair_setting basics constants ℕ_discrete numbers

abbrev T : Type 0
T = Tm setting

abbrev F : Type 0
F = Field setting

-- the values of the equation's own variables in each answer, in the order of first occurrence; or a refusal
pub data Shown : Type 0 where
  lines : List (List F) → Shown
  nine : Shown
  tired : Shown

abbrev pub shown : F → F → Result setting → Shown
shown L M (answers xs) = lines (map (values_in setting L M) xs)
shown L M refused = nine
shown L M unfinished = tired

pub record Case : Type 0 where
  -- the fewest records that it takes
  pub needs : ℕ
  pub left : F
  pub right : F
  -- the rules that apply to the equation
  pub first : List Rule
  pub out : List (List F)

-- with so many records, and with one less
abbrev pub found : Case → List Rule × Shown × Shown
found c = (
  map (λ k. k.0) (children setting (root setting c.left c.right)),
  shown c.left c.right (searching setting c.needs c.left c.right),
  shown c.left c.right (searching setting (c.needs - 1) c.left c.right),
)

infix 80 #◌
abbrev #◌ : ℕ → T
#◌ n = atomic (fixed (num n))

-- variables of the left rule; "a right-side variable counting 16 above its number"
abbrev i0 : T
i0 = atomic (free (of left (leaf integer) 0))

abbrev one : T
one = atomic (fixed (txt 49))

abbrev a0 : T
a0 = atomic (free (of left atom 0))

abbrev l0 : T
l0 = listvar 0

-- fresh ones
abbrev l1 : T
l1 = listvar 1

abbrev l2 : T
l2 = listvar 2

-- variables of the right rule
abbrev i0' : T
i0' = atomic (free (of right (leaf integer) 0))

abbrev s0' : T
s0' = atomic (free (of right (leaf string) 0))

abbrev a0' : T
a0' = atomic (free (of right atom 0))

abbrev l0' : T
l0' = listvar 16

abbrev table : List Case
table =
    -- Figure 8: y : 2 = a : x. Its three unifiers come first, then two of them again
    record {
      needs = 7;
      left = l0 ∷ # 2 ∷ [];
      right = a0' ∷ l0' ∷ [];
      first = Decomp1 ∷ Subst2 ∷ Subst3 ∷ [];
      out =
          ((a0' ∷ []) ∷ (a0' ∷ []) ∷ (# 2 ∷ []) ∷ []) ∷
          ((a0' ∷ l1 ∷ []) ∷ (a0' ∷ []) ∷ (l1 ∷ # 2 ∷ []) ∷ []) ∷
          ([] ∷ (# 2 ∷ []) ∷ [] ∷ []) ∷
          ((a0' ∷ l1 ∷ []) ∷ (a0' ∷ []) ∷ (l1 ∷ # 2 ∷ []) ∷ []) ∷
          ((a0' ∷ []) ∷ (a0' ∷ []) ∷ (# 2 ∷ []) ∷ []) ∷ [];
    } ∷
    -- a0:l0 and l0:2
    record {
      needs = 7;
      left = a0 ∷ l0 ∷ [];
      right = l0' ∷ # 2 ∷ [];
      first = Orient3 ∷ [];
      out =
          ((a0 ∷ []) ∷ (# 2 ∷ []) ∷ (a0 ∷ []) ∷ []) ∷
          ((a0 ∷ []) ∷ (l1 ∷ # 2 ∷ []) ∷ (a0 ∷ l1 ∷ []) ∷ []) ∷
          ((# 2 ∷ []) ∷ [] ∷ [] ∷ []) ∷
          ((a0 ∷ []) ∷ (l1 ∷ # 2 ∷ []) ∷ (a0 ∷ l1 ∷ []) ∷ []) ∷
          ((a0 ∷ []) ∷ (# 2 ∷ []) ∷ (a0 ∷ []) ∷ []) ∷ [];
    } ∷
    -- l0 and l0
    record {
      needs = 1;
      left = l0 ∷ [];
      right = l0' ∷ [];
      first = Subst1 ∷ [];
      out =
          ((l0' ∷ []) ∷ (l0' ∷ []) ∷ []) ∷ [];
    } ∷
    -- empty and empty
    record {
      needs = 1;
      left = [];
      right = [];
      first = Remove ∷ [];
      out =
          [] ∷ [];
    } ∷
    -- i0 and 2:l0
    record {
      needs = 1;
      left = i0 ∷ [];
      right = # 2 ∷ l0' ∷ [];
      first = Decomp4 ∷ [];
      out =
          ((# 2 ∷ []) ∷ [] ∷ []) ∷ [];
    } ∷
    -- i0 and s0
    record {
      needs = 1;
      left = i0 ∷ [];
      right = s0' ∷ [];
      first = [];
      out = [];
    } ∷
    -- 1:2:l0 and l0:2:3
    record {
      needs = 8;
      left = # 1 ∷ # 2 ∷ l0 ∷ [];
      right = l0' ∷ # 2 ∷ # 3 ∷ [];
      first = Orient1 ∷ [];
      out =
          ((# 3 ∷ []) ∷ (# 1 ∷ []) ∷ []) ∷
          ((# 2 ∷ # 3 ∷ []) ∷ (# 1 ∷ # 2 ∷ []) ∷ []) ∷
          ((l2 ∷ # 2 ∷ # 3 ∷ []) ∷ (# 1 ∷ # 2 ∷ l2 ∷ []) ∷ []) ∷
          ((# 3 ∷ []) ∷ (# 1 ∷ []) ∷ []) ∷
          ((l2 ∷ # 2 ∷ # 3 ∷ []) ∷ (# 1 ∷ # 2 ∷ l2 ∷ []) ∷ []) ∷
          ((# 2 ∷ # 3 ∷ []) ∷ (# 1 ∷ # 2 ∷ []) ∷ []) ∷ [];
    } ∷
    -- a0:a0 and i0:l0
    record {
      needs = 1;
      left = a0 ∷ a0 ∷ [];
      right = i0' ∷ l0' ∷ [];
      first = Decomp1' ∷ [];
      out =
          ((i0' ∷ []) ∷ (i0' ∷ []) ∷ (i0' ∷ []) ∷ []) ∷ [];
    } ∷
    -- a0:a0 and 1:"1"
    record {
      needs = 1;
      left = a0 ∷ a0 ∷ [];
      right = # 1 ∷ one ∷ [];
      first = Decomp1' ∷ [];
      out = [];
    } ∷
    -- l0:a0 and l0:i0: both sides begin with a list variable
    record {
      needs = 8;
      left = l0 ∷ a0 ∷ [];
      right = l0' ∷ i0' ∷ [];
      first = Decomp1 ∷ Decomp2 ∷ Decomp2' ∷ Subst2 ∷ [];
      out =
          ((l0' ∷ []) ∷ (i0' ∷ []) ∷ (l0' ∷ []) ∷ (i0' ∷ []) ∷ []) ∷
          ((l0' ∷ []) ∷ (i0' ∷ []) ∷ (l0' ∷ []) ∷ (i0' ∷ []) ∷ []) ∷
          ((l0 ∷ []) ∷ (i0' ∷ []) ∷ (l0 ∷ []) ∷ (i0' ∷ []) ∷ []) ∷
          ([] ∷ (i0' ∷ []) ∷ [] ∷ (i0' ∷ []) ∷ []) ∷ [];
    } ∷
    -- a0:l0 and a0: the two sides change places, too
    record {
      needs = 2;
      left = a0 ∷ l0 ∷ [];
      right = a0' ∷ [];
      first = Decomp1' ∷ Orient2 ∷ [];
      out =
          ((a0' ∷ []) ∷ [] ∷ (a0' ∷ []) ∷ []) ∷
          ((a0 ∷ []) ∷ [] ∷ (a0 ∷ []) ∷ []) ∷ [];
    } ∷
    -- l0:a0 and l0: the same with list variables
    record {
      needs = 5;
      left = l0 ∷ a0 ∷ [];
      right = l0' ∷ [];
      first = Decomp1 ∷ Decomp2 ∷ Decomp2' ∷ Subst2 ∷ Orient2 ∷ [];
      out =
          ((l0 ∷ []) ∷ (a0 ∷ []) ∷ (l0 ∷ a0 ∷ []) ∷ []) ∷
          ((l0 ∷ []) ∷ (a0 ∷ []) ∷ (l0 ∷ a0 ∷ []) ∷ []) ∷
          ([] ∷ (a0 ∷ []) ∷ (a0 ∷ []) ∷ []) ∷ [];
    } ∷
    -- 1:2 and 1:2: repeats stay
    record {
      needs = 2;
      left = # 1 ∷ # 2 ∷ [];
      right = # 1 ∷ # 2 ∷ [];
      first = Remove ∷ Decomp3 ∷ [];
      out =
          [] ∷
          [] ∷
          [] ∷ [];
    } ∷ []

pub starred : map found table ≡ map (λ (c : Case). (c.first, lines c.out, nine)) table
unfolding ℕ_discrete
starred = refl
