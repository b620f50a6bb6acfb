-- The problems of the search: what is left of the equation, the bindings so far, the list variables used so far.
use Rattle.std.proofs.Math.Logic.{ite}
use mathlib.Core.List.{List, [], ◌∷◌, ◌++◌, Memᴰ}
use Rattle.base_lists.specs.Equality.{list_eq}
use Rattle.math_types.specs.Order.{Order, Full, basic, list}
use Rattle.math_terms.specs.Constants.{Consts}
use Rattle.math_terms.specs.Seqs.{concat_map}
use Rattle.math_overlaps.specs.Shapes.{Atom, fixed, free, Vars, atom-eq}

-- ---- what the search is over

-- list variables: equality is decided, and for any list of them there is one that is not in it
pub record Names : Type 1 where
  pub Name : Type 0
  pub name_eq : Discrete Name
  pub pick : List Name → Name
  pub pick_new : (u : List Name) → Memᴰ (pick u) u → ⊥

-- everything that the search is over, in one: types below `list`, constants, variables of those types, list variables
pub record Setting : Type 1 where
  pub order : Order
  pub constants : Consts order
  pub variables : Vars order
  pub names : Names

-- ---- terms

-- a term of a field: an atom of the pair of rules, or a list variable
pub data FieldTerm (A L : Type 0) : Type 0 where
  atomic : A → FieldTerm A L
  listvar : L → FieldTerm A L
  deriving Discrete as term-eq

module _ (E : Setting) where
  open E use {order, constants, variables, names}
  open order use {Kind}
  open constants use {Con, con_eq, con_kind}
  open variables use {Var, var_eq, sort}
  open names use {Name, name_eq}

  abbrev pub At : Type 0
  At = Atom Con Var

  abbrev pub Tm : Type 0
  Tm = FieldTerm At Name

  -- "one field of the left rule and one of the right", normalized: no `empty` in it
  abbrev pub Field : Type 0
  Field = List Tm

  abbrev pub at_eq : Discrete At
  at_eq = atom-eq con_eq var_eq

  abbrev pub tm_eq : Discrete Tm
  tm_eq = term-eq at_eq name_eq

  abbrev pub field_eq : Discrete Field
  field_eq = list_eq tm_eq

  -- ---- types

  abbrev pub kind_of : At → Kind
  kind_of (fixed c) = con_kind c
  kind_of (free x) = sort x

  abbrev pub term_type : Tm → Full Kind
  term_type (atomic a) = basic (kind_of a)
  term_type (listvar n) = list

  -- the type of a field: of one term that term's, else list
  abbrev pub field_type : Field → Full Kind
  field_type [] = list
  field_type (t ∷ []) = term_type t
  field_type (t ∷ (u ∷ L)) = list

  -- ---- bindings (the substitution so far)

  -- "The bindings cover the equation's own variables; an unbound one stands for itself." Here they are a total function: a fresh
  -- list variable and a constant, too, stand for themselves. What is shown of an answer is in Answers.
  abbrev pub Bindings : Type 0
  Bindings = Tm → Field

  abbrev pub unbound : Bindings
  unbound t = t ∷ []

  -- {x ↦ s}
  abbrev pub put : Tm → Field → Bindings
  put x s t = ite (tm_eq t x) s (t ∷ [])

  -- L{x ↦ s}
  abbrev pub put_in : Tm → Field → Field → Field
  put_in x s L = concat_map (put x s) L

  -- σ ∘ {x ↦ s}
  abbrev pub compose : Bindings → Tm → Field → Bindings
  compose σ x s = λ t. put_in x s (σ t)

  -- ---- problems (a state of unification by transformation rules)

  -- what is left to solve: nothing, or an equation
  pub data Rest : Type 0 where
    solved : Rest
    equation : Field → Field → Rest

  -- ⟨L = M, σ⟩, and "the list variables of a problem and its bindings, bound ones too": those that were ever used on the way to it
  pub data Problem : Type 0 where
    problem : Rest → Bindings → List Name → Problem

  abbrev pub rest : Problem → Rest
  rest (problem n σ u) = n

  abbrev pub bindings : Problem → Bindings
  bindings (problem n σ u) = σ

  abbrev pub used : Problem → List Name
  used (problem n σ u) = u

  abbrev pub names_in : Field → List Name
  names_in [] = []
  names_in (atomic a ∷ L) = names_in L
  names_in (listvar n ∷ L) = n ∷ names_in L

  -- "The equation is one field of the left rule and one of the right"
  abbrev pub root : Field → Field → Problem
  root L M = problem (equation L M) unbound (names_in L ++ names_in M)
