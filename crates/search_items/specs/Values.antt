-- The values of the search's fields over the pair's table.
use Rattle.std.proofs.Math.Option.{Option}
use Rattle.std.specs.Prelude.{List}
use Rattle.math_search.specs.Problems.{Field}
use Rattle.math_codes.specs.Lines.{OurAtom}
use Rattle.search_spec.specs.Answers.{setting}
use Rattle.search_items.specs.codes.Codes.{codes_of}
use Rattle.search_items.specs.declared.Items.{Items}
use Rattle.search_items.specs.Items.{collect}

-- THE VALUE of a field
abbrev pub items_value : List (Option OurAtom) → Field setting → Items
items_value t ts = collect (codes_of t ts)
