-- A rule text by its sides: `place_rule` and `cut` of the grammar, as one answer.
use Rattle.std.proofs.Math.Option.{Option, none, some}
use Rattle.std.specs.Prelude.{List, ℕ, length}
use Rattle.text_grammar.specs.rules.Place.{cut, place_rule}
use Rattle.text_scan.specs.declared.split.Split.{Split}
use Rattle.text_scan.specs.declared.split.Split.TheVariants.{One, Two, Stops}

abbrev pub split_by : Option ℕ → Option (List ℕ × List ℕ) → Split
split_by (some p) o = Stops p
split_by none none = One
split_by none (some c) = Two (length c.0)

abbrev pub split_of : List ℕ → Split
split_of t = split_by (place_rule t) (cut t)
