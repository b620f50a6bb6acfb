-- The renumbering on codes: one number for each code, given where it stands first. It is over any table of terms.
use Rattle.std.specs.Prelude.{◌≡◌, Bool, true, false, cond, ℕ, ◌+◌, eqb, get_or, set, replicate}
use Rattle.std.proofs.Math.Option.{Option}
use mathlib.Core.List.{List, foldl}
use Rattle.math_terms.specs.Terms.{Term, con, var}
use Rattle.math_codes.specs.Tables.{Holds, Table}

-- by rank how many have a number; by code the number and one, 0 for none
pub record Names : Type 0 where
  pub counts : List ℕ
  pub numbers : List ℕ

-- for a table of n places and kinds of the ranks below m
abbrev pub no_names : ℕ → ℕ → Names
no_names n m = record { counts = replicate m 0; numbers = replicate n 0 }

module _ (T : Table) where
  -- the next number of its type
  abbrev pub counted : Names → ℕ → Names
  counted x c =
      let next = get_or x.counts (T.kind c) 0 + 1 in
      record { counts = set x.counts (T.kind c) next; numbers = set x.numbers c next }

  -- a variable without a number gets one
  abbrev pub name_code : Names → ℕ → Names
  name_code x c = cond (T.variable c) (cond (eqb (get_or x.numbers c 0) 0) (counted x c) x) x

  -- a field's items from the left
  abbrev pub name_codes : Names → List ℕ → Names
  name_codes x cs = foldl name_code x cs

  -- the fields from the left
  abbrev pub name_fields : Names → List (List ℕ) → Names
  name_fields x fs = foldl name_codes x fs

-- ---- what the tables say of a table of terms

module _ {C K B : Type 0} where
  -- whether a term is a variable
  abbrev pub is_var : Term C K B → Bool
  is_var (con c) = false
  is_var (var k b) = true

  module _ (rank : K → ℕ) where
    -- the ranks of variables, and what is one
    pub record MadeTerms (T : Table) (t : List (Option (Term C K B))) : Type 0 where
      pub kinds : (c : ℕ) (k : K) (b : B) → Holds t c (var k b) → T.kind c ≡ rank k
      pub variables : (c : ℕ) (u : Term C K B) → Holds t c u → T.variable c ≡ is_var u
