-- The values that a filling has, blank where it has none.
use Rattle.std.specs.Prelude.{ℕ, ◌+◌, ◌*◌, get_or}
use Rattle.base_limits.specs.Limits.{numbers_of_side}
use Rattle.math_types.specs.Types.{Kind, rank}
use Rattle.text_values.specs.declared.Term.{Term}
use Rattle.text_values.specs.Values.{blank_term}
use Rattle.match_fields.specs.declared.bindings.Values.{Values}
use Rattle.match_fields.specs.declared.bindings.Run.{Run}
use Rattle.match_fields.specs.declared.bindings.Filling.{Filling}

-- the place of the variable of kind k and number n
abbrev pub slot : Kind → ℕ → ℕ
slot k n = numbers_of_side * rank k + n

abbrev pub atom_of : Values → Kind → ℕ → Term
atom_of v k n = get_or v.terms (slot k n) blank_term

abbrev pub blank_run : Run
blank_run = record { field = 0; start = 0; count = 0 }

abbrev pub run_of : Filling → ℕ → Run
run_of x n = get_or x.runs n blank_run
