-- The table of a pair: which atom stands at which place, and the code of an atom, the first place that holds it.
use Rattle.std.specs.Prelude.{◌≡◌, Bool, true, false, List, [], ◌∷◌, ℕ, suc, length, get_or}
use Rattle.std.proofs.Math.Logic.{ite}
use Rattle.std.proofs.Math.Option.{Option, none, some}
use Rattle.base_lists.specs.Seqs.{tabulate}
use Rattle.math_types.specs.Order.{Order}
use Rattle.math_terms.specs.Constants.{Consts}
use Rattle.math_overlaps.specs.Shapes.{fixed, free, Vars, atom-eq}
use Rattle.math_overlaps.specs.Joins.{At}

-- ---- places and codes, over atoms of any kind

module _ {A : Type 0} where
  -- the place p holds a; this is the view of p
  abbrev pub Holds : List (Option A) → ℕ → A → Type 0
  Holds t p a = get_or t p none ≡ some a

module _ {A : Type 0} (same : Discrete A) where
  -- the first place that holds a
  abbrev pub code_of : List (Option A) → A → ℕ
  code_of [] a = 0
  code_of (none ∷ t) a = suc (code_of t a)
  code_of (some b ∷ t) a = ite (same a b) 0 (suc (code_of t a))

  -- c is the code of a, and a stands in the table
  abbrev pub IsCode : List (Option A) → ℕ → A → Type 0
  IsCode t c a = Holds t c a × (code_of t a ≡ c)

  -- what the code of a place is: that of its atom, or the place itself where there is none
  abbrev pub code_at : List (Option A) → Option A → ℕ → ℕ
  code_at t none p = p
  code_at t (some a) p = code_of t a

-- ---- the tables that code keeps: by place the code, the type's rank, and whether it is a variable

-- what is kept
pub record Table : Type 0 where
  pub first : List ℕ
  pub kind : ℕ → ℕ
  pub variable : ℕ → Bool

-- an order's kinds as numbers, and the order as a table of them
pub record Ranks (O : Order) : Type 0 where
  pub rank : O.Kind → ℕ
  pub below : ℕ → ℕ → Bool
  pub below_is : (j k : O.Kind) → below (rank j) (rank k) ≡ O.le j k

module _ (O : Order) (C : Consts O) (N : Vars O) where
  -- whether two atoms are equal
  abbrev pub same : Discrete (At O C N)
  same = atom-eq C.con_eq N.var_eq

  -- an atom's type
  abbrev pub kind_a : At O C N → O.Kind
  kind_a (fixed c) = C.con_kind c
  kind_a (free x) = N.sort x

  -- whether it is a variable
  abbrev pub is_free : At O C N → Bool
  is_free (fixed c) = false
  is_free (free x) = true

  module _ (R : Ranks O) where
    -- the rank of a place's type
    abbrev pub rank_at : Option (At O C N) → ℕ
    rank_at none = 0
    rank_at (some a) = R.rank (kind_a a)

    -- whether a place holds a variable
    abbrev pub free_at : Option (At O C N) → Bool
    free_at none = false
    free_at (some a) = is_free a

    -- the tables of the atoms t by place
    abbrev pub table_of : List (Option (At O C N)) → Table
    table_of t =
        record {
          first = tabulate (length t) (λ p. code_at same t (get_or t p none) p);
          kind = λ p. rank_at (get_or t p none);
          variable = λ p. free_at (get_or t p none);
        }

    -- what the tables say of the places that hold an atom; of the others nothing is asked
    pub record Made (T : Table) (t : List (Option (At O C N))) : Type 0 where
      pub long : length T.first ≡ length t
      pub firsts : (p : ℕ) (a : At O C N) → Holds t p a → get_or T.first p 0 ≡ code_of same t a
      pub kinds : (p : ℕ) (a : At O C N) → Holds t p a → T.kind p ≡ R.rank (kind_a a)
      pub variables : (p : ℕ) (a : At O C N) → Holds t p a → T.variable p ≡ is_free a
