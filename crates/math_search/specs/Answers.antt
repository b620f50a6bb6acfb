-- What an answer says: its values of the equation's own variables, what it is to solve the equation, and what its instances are.
use Rattle.std.specs.Prelude.{◌≡◌, ◌≢◌, ◌⊎◌, true, ℕ, suc, ◌+◌, ◌≤◌}
use Rattle.std.proofs.Math.Logic.{ite}
use mathlib.Core.List.{List, [], ◌∷◌, ◌++◌, map, Memᴰ}
use Rattle.math_terms.specs.Seqs.{concat_map}
use Rattle.math_overlaps.specs.Shapes.{fixed, free, val}
use Rattle.math_overlaps.specs.Overlaps.{firsts}
use Rattle.math_search.specs.Problems.{Setting, atomic, listvar, At, Tm, Field, tm_eq, kind_of, Bindings, Rest, solved}
use Rattle.math_search.specs.Problems.{equation}
use Rattle.math_search.specs.Problems.{Problem, rest, bindings}

module _ (E : Setting) where
  open E use {order, constants, variables, names}
  open order use {le}
  open constants use {Con, con_kind}
  open variables use {Var, sort}
  open names use {Name, name_eq}

  -- ---- the equation

  abbrev pub variables_in : Field E → Field E
  variables_in [] = []
  variables_in (atomic (fixed c) ∷ L) = variables_in L
  variables_in (atomic (free x) ∷ L) = atomic (free x) ∷ variables_in L
  variables_in (listvar n ∷ L) = listvar n ∷ variables_in L

  -- "the equation's own variables", each once, by first occurrence
  abbrev pub own_variables : Field E → Field E → Field E
  own_variables L M = firsts (tm_eq E) (variables_in (L ++ M))

  -- "The bindings cover the equation's own variables"
  abbrev pub values_in : Field E → Field E → Bindings E → List (Field E)
  values_in L M σ = map σ (own_variables L M)

  abbrev pub StandsIn : Field E → Field E → Tm E → Type 0
  StandsIn L M t = Memᴰ t L ⊎ Memᴰ t M

  -- what is left has the list variable n
  abbrev pub InRest : Rest E → Name → Type 0
  InRest solved n = ⊥
  InRest (equation L M) n = StandsIn L M (listvar n)

  -- "the list variables of a problem and its bindings, bound ones too", for a problem of the search for A = B: what is left has it, or it
  -- is bound, or the value of one of the equation's terms has it
  abbrev pub ListVariableOf : Field E → Field E → Problem E → Name → Type 0
  ListVariableOf A B p n =
      InRest (rest E p) n ⊎ ((bindings E p (listvar n) ≢ listvar n ∷ [])
      ⊎ ((t : Tm E) × StandsIn A B t × Memᴰ (listvar n) (bindings E p t)))

  -- how many list variables a field has, and how often one stands in it
  abbrev pub listvars : Field E → ℕ
  listvars [] = 0
  listvars (atomic a ∷ L) = listvars L
  listvars (listvar n ∷ L) = suc (listvars L)

  abbrev pub is_name : Name → Name → ℕ
  is_name n m = ite (name_eq m n) 1 0

  abbrev pub count_of : Name → Field E → ℕ
  count_of n [] = 0
  count_of n (atomic a ∷ L) = count_of n L
  count_of n (listvar m ∷ L) = is_name n m + count_of n L

  -- "a field has at most one" list variable, and "variables are distinct by side": none stands twice in the equation
  pub record Linear (L M : Field E) : Type 0 where
    pub left : listvars L ≤ 1
    pub right : listvars M ≤ 1
    pub once : (n : Name) → count_of n L + count_of n M ≤ 1

  -- ---- solving

  -- a value of the term's type: of an atom variable one atom at or below its type, of a list variable any field;
  -- a constant stands for itself
  abbrev pub Fits : Tm E → Field E → Type 0
  Fits (atomic (fixed c)) s = s ≡ atomic (fixed c) ∷ []
  Fits (atomic (free x)) s = (a : At E) × (s ≡ atomic a ∷ []) × (le (kind_of E a) (sort x) ≡ true)
  Fits (listvar n) s = Unit {0}

  -- an answer solves the equation: it makes the two sides equal, and gives every variable a value of its type
  abbrev pub Solves : Field E → Field E → Bindings E → Type 0
  Solves L M σ = (concat_map σ L ≡ concat_map σ M) × ((t : Tm E) → Fits t (σ t))

  -- ---- solutions by constants

  abbrev pub atom_value : (Var → Con) → At E → Con
  atom_value ρ a = val (λ c. c) ρ a

  -- a constant for every atom variable, constants for every list variable
  abbrev pub ground : (Var → Con) → (Name → List Con) → Tm E → List Con
  ground ρ m (atomic a) = atom_value ρ a ∷ []
  ground ρ m (listvar n) = m n

  abbrev pub WellTyped : (Var → Con) → Type 0
  WellTyped ρ = (x : Var) → le (con_kind (ρ x)) (sort x) ≡ true

  -- the values (ρ, m) are, on the terms R, an instance of σ: by values of σ's own variables
  abbrev pub Covers : (Tm E → Type 0) → (Var → Con) → (Name → List Con) → Bindings E → Type 0
  Covers R ρ m σ = (m' : Name → List Con) × ((t : Tm E) → R t → ground ρ m t ≡ concat_map (ground ρ m') (σ t))
