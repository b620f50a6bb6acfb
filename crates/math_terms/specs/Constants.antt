-- Any constants over a type order. Document 01's constants are one instance; nothing here names them.
use Rattle.std.specs.Prelude.{◌≡◌, true}
use Rattle.math_types.specs.Order.{Order, Full}
use Rattle.math_terms.specs.Terms.{Term}

-- Equality is decided; each constant has a kind below `list`; each kind has a constant at or below it.
pub record Consts (O : Order) : Type 1 where
  pub Con : Type 0
  pub con_eq : Discrete Con
  pub con_kind : Con → O.Kind
  pub some_of : O.Kind → Con
  pub some_of_le : (k : O.Kind) → O.le (con_kind (some_of k)) k ≡ true

-- terms over them, with names A; `list` is one of the kinds of a variable
abbrev pub TermOver : (O : Order) → Consts O → Type 0 → Type 0
TermOver O C A = Term C.Con (Full O.Kind) A
