-- The state of the fillings, and the join of two atoms.
use Rattle.std.proofs.Math.Logic.{ite}
use Rattle.std.specs.Prelude.{cond, List, [], ◌∷◌}
use Rattle.std.proofs.Math.Option.{Option, none, some}
use Rattle.math_types.specs.Order.{Order}
use Rattle.math_terms.specs.Constants.{Consts}
use Rattle.math_terms.specs.Matcher.{and_then}
use Rattle.math_overlaps.specs.Shapes.{Atom, fixed, free, val, Vars}

module _ (O : Order) (C : Consts O) (N : Vars O) where
  open O use {le}
  open C use {Con, con_eq, con_kind}
  open N use {Var, var_eq, sort}

  abbrev pub At : Type 0
  At = Atom Con Var

  -- a state gives every variable the atom of its class: the class's constant, else one of its variables of the lowest type
  -- (an idempotent substitution; the find map of a union-find)
  abbrev pub State : Type 0
  State = Var → At

  -- each variable alone in its class
  abbrev pub start : State
  start x = free x

  -- the atom that a state has for an atom
  abbrev pub resolve : State → At → At
  resolve s a = val fixed s a

  -- x is replaced by w
  abbrev pub replace : Var → At → At → At
  replace x w (fixed c) = fixed c
  replace x w (free z) = ite (var_eq z x) w (free z)

  -- the class of x goes over into that of w
  abbrev pub bind : Var → At → State → State
  bind x w s = λ z. replace x w (s z)

  -- "A joined class takes its constant, else its lowest type; two unequal constants, or types that clash, kill the candidate."
  -- Of two classes, given by their atoms:
  abbrev pub join_classes : State → At → At → Option State
  join_classes s (fixed c) (fixed d) = ite (con_eq c d) (some s) none
  join_classes s (fixed c) (free y) = cond (le (con_kind c) (sort y)) (some (bind y (fixed c) s)) none
  join_classes s (free x) (fixed d) = cond (le (con_kind d) (sort x)) (some (bind x (fixed d) s)) none
  join_classes s (free x) (free y) =
      ite (var_eq x y) (some s)
      (cond (le (sort y) (sort x)) (some (bind x (free y) s)) (cond (le (sort x) (sort y)) (some (bind y (free x) s)) none))

  -- "Each join of two atoms turns one state of the fillings into the next" (union of two classes; a clash is a failure of unification)
  abbrev pub join : State → At → At → Option State
  join s t u = join_classes s (resolve s t) (resolve s u)

  -- one pair of atoms after another
  abbrev pub joins : List (At × At) → State → Option State
  joins [] s = some s
  joins (e ∷ es) s = and_then (join s e.0 e.1) (λ s'. joins es s')
