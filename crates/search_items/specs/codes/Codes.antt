-- The terms of the search as codes of the pair's table: an atom by the first place that holds it, a list variable by its number
-- behind the places.
use Rattle.std.proofs.Math.Option.{Option}
use Rattle.std.specs.Prelude.{List, map, ℕ, ◌+◌, ◌<◌}
use Rattle.base_limits.specs.Limits.{pair_places, list_items}
use Rattle.math_types.specs.Types.{basics}
use Rattle.text_grammar.specs.constants.Constants.{consts}
use Rattle.math_search.specs.Problems.{atomic, listvar, Tm, Field}
use Rattle.math_codes.specs.Tables.{Holds, code_of, same}
use Rattle.math_codes.specs.Lines.{OurAtom, our_vars}
use Rattle.search_spec.specs.Answers.{setting}

module _ (t : List (Option OurAtom)) where
  abbrev pub code_tm : Tm setting → ℕ
  code_tm (atomic a) = code_of (same basics consts our_vars) t a
  code_tm (listvar n) = pair_places + n

  -- a field's
  abbrev pub codes_of : Field setting → List ℕ
  codes_of ts = map code_tm ts

  -- a term that has a code: an atom that stands in the table, a list variable with a number below list_items
  abbrev pub On : Tm setting → Type 0
  On (atomic a) = (p : ℕ) × Holds t p a
  On (listvar n) = n < list_items
