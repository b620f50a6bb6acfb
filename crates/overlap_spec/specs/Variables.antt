-- Which variables a rule has, in the order in which a line binds them.
use Rattle.std.specs.Prelude.{◌≡◌, ◌⊎◌, Bool, false, ◌&&◌, ◌||◌, cond, List, [], ◌∷◌, map, ℕ, zero, suc, ◌<◌, eqb}
use Rattle.base_limits.specs.Limits.{largest_number}
use Rattle.base_lists.specs.Seqs.{All}
use Rattle.math_types.specs.Types.{Kind, kinds, rank, same}
use Rattle.math_terms.specs.Terms.{con, var}
use Rattle.math_terms.specs.Seqs.{concat_map}
use Rattle.text_grammar.specs.Terms.{OurTerm}

-- a variable is its type and its number
abbrev pub Variable : Type 0
Variable = Kind × ℕ

-- ---- every variable, in order

-- as many numbers as the first argument says, from the second on
abbrev pub numbers_from : ℕ → ℕ → List ℕ
numbers_from zero n = []
numbers_from (suc m) n = n ∷ numbers_from m (suc n)

-- document 01: "a number 0 to 15"
abbrev pub numbers : List ℕ
numbers = numbers_from (suc largest_number) 0

-- the variables of one type, by number
abbrev pub of_kind : Kind → List Variable
of_kind k = map (λ (n : ℕ). (k, n)) numbers

-- document 01: "Variables go in the order i, s, a, l, then by number"
-- `kinds_all` and `kinds_rising` of proofs/ say that every type is there, by its rank
abbrev pub every : List Variable
every = concat_map of_kind kinds

-- ---- those that occur

-- whether a term is the variable of type k and number n
abbrev pub is_variable : Kind → ℕ → OurTerm → Bool
is_variable k n (con c) = false
is_variable k n (var j m) = same k j && eqb n m

-- whether some term of a field is
abbrev pub in_field : Kind → ℕ → List OurTerm → Bool
in_field k n [] = false
in_field k n (t ∷ f) = is_variable k n t || in_field k n f

-- whether it stands in some field of a rule; `occurs_is` of proofs/ says that this is `Occurs` of the theory
abbrev pub occurs : Kind → ℕ → List (List OurTerm) → Bool
occurs k n [] = false
occurs k n (f ∷ r) = in_field k n f || occurs k n r

module _ {A : Type 0} where
  -- the members that pass a test
  abbrev pub keep : (A → Bool) → List A → List A
  keep p [] = []
  keep p (x ∷ xs) = cond (p x) (x ∷ keep p xs) (keep p xs)

-- THE VARIABLES of a rule: `in_variables`, `variables_distinct` and `variables_rising` of proofs/ say that they are those that occur,
-- each once, in order
abbrev pub variables : List (List OurTerm) → List Variable
variables r = keep (λ v. occurs v.0 v.1 r) every

-- ---- the order

-- document 01: "in the order i, s, a, l, then by number"; a type's rank is its place in that order
abbrev pub Before : Variable → Variable → Type 0
Before a b = (rank a.0 < rank b.0) ⊎ ((a.0 ≡ b.0) × (a.1 < b.1))

module _ {A : Type 0} where
  -- each member stands in R to every later one
  abbrev pub Rising : (A → A → Type 0) → List A → Type 0
  Rising R [] = Unit {0}
  Rising R (x ∷ xs) = All (R x) xs × Rising R xs
