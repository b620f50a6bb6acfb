-- What a record of a problem stands for: the relation between the records that code makes and the problems of the search.
use mathlib.Core.Path.{◌≡◌}
use mathlib.Core.Bool.{Bool, true, false}
use mathlib.Core.Option.{Option}
use mathlib.Core.List.{List, [], ◌∷◌}
use Prim.Native.Nat.{ℕ, ◌≤◌}
use lib.ListN.{length}
use Rattle.base_limits.specs.Limits.{most_terms}
use Rattle.base_lists.specs.Seqs.{All}
use Rattle.math_types.specs.Types.{Basic, basics}
use Rattle.text_grammar.specs.constants.Constants.{consts}
use Rattle.math_overlaps.specs.Shapes.{free, Variable}
use Rattle.math_overlaps.specs.Joins.{State}
use Rattle.math_search.specs.Problems.{atomic, listvar, Tm, Field, Bindings, Rest, solved, equation, rest, bindings, names_in}
use Rattle.math_search.specs.Problems as search
use Rattle.math_search.specs.Rules.{Met}
use Rattle.math_search.specs.Answers.{StandsIn, Linear}
use Rattle.math_search.proofs.Effects.{AllRest}
use Rattle.math_search.proofs.Cuts.{left_of, right_of}
use Rattle.search_problems.specs.variables.Sets.{set_of}
use Rattle.math_codes.specs.Lines.{OurAtom, our_vars}
use Rattle.math_codes.proofs.Joins.{Represents}
use Rattle.search_spec.specs.Answers.{setting}
use Rattle.search_items.specs.codes.Codes.{On}
use Rattle.search_items.specs.declared.Items.{Items}
use Rattle.search_items.specs.Items.{blank_items}
use Rattle.search_items.specs.Values.{items_value}
use Rattle.search_problems.specs.declared.Problem.{Problem}

-- ---- the bindings

-- what the atom variables of a pair stand for
abbrev pub OurState : Type 0
OurState = State basics consts our_vars

-- an atom variable stands for one atom
abbrev pub one_atom : Variable Basic ℕ → Field setting → OurAtom
one_atom x [] = free x
one_atom x (atomic a ∷ s) = a
one_atom x (listvar n ∷ s) = free x

abbrev pub state_of : Bindings setting → OurState
state_of σ = λ x. one_atom x (σ (atomic (free x)))

abbrev pub is_open : Rest setting → Bool
is_open solved = false
is_open (equation L M) = true

-- over the pair's table
module _ (t : List (Option OurAtom)) where
  -- what is known of two fields of document 01 on the two sides
  pub record Equation (A B : Field setting) : Type 0 where
    pub linear : Linear setting A B
    pub left_short : length A ≤ most_terms
    pub right_short : length B ≤ most_terms
    pub left_in : All (On t) A
    pub right_in : All (On t) B

  -- the value of a field's list variable, by its names: blank where it has none
  abbrev pub value_in : Bindings setting → List ℕ → Items
  value_in σ [] = blank_items
  value_in σ (n ∷ u) = items_value t (σ (listvar n))

  -- ---- the relation

  -- p is the record of P, a problem of the search tree of A = B
  pub record Holds (A B : Field setting) (p : Problem) (P : search.Problem setting) : Type 0 where
    pub met : Met setting A B P
    pub opens : p.«open» ≡ is_open (rest setting P)
    pub left : p.left ≡ items_value t (left_of setting (rest setting P))
    pub right : p.right ≡ items_value t (right_of setting (rest setting P))
    pub atoms : Represents basics consts our_vars t p.atoms.atoms (state_of (bindings setting P))
    pub lists : p.lists ≡ value_in (bindings setting P) (names_in setting A) ∷ (value_in (bindings setting P) (names_in setting B) ∷ [])
    pub used : p.used ≡ set_of (search.used setting P)
    -- and all terms have a code
    pub rest_in : AllRest setting (On t) (rest setting P)
    pub values_in_lem : (x : Tm setting) → StandsIn setting A B x → All (On t) (bindings setting P x)
