-- A field term by term, as code makes it. `collected_short` and `collected_long` of proofs/Collected say what it holds.
use Rattle.std.specs.Prelude.{cond, List, [], ◌∷◌, ◌+◌, leb, set, Option, Some, None, option_and_then}
use Rattle.text_grammar.specs.Read.{slip}
use Rattle.text_values.specs.declared.Term.{Term}
use Rattle.text_values.specs.Values.{SlipField}
use Rattle.text_values.specs.Values.{blank_slip_field}

-- one term more, if there is a place for it
abbrev pub pushed : SlipField → Term → Option SlipField
pushed w t = cond (leb slip.width w.n) None (Some (record { n = w.n + 1; terms = set w.terms w.n t }))

-- these terms more, one after the other
abbrev pub pushed_all : SlipField → List Term → Option SlipField
pushed_all w [] = Some w
pushed_all w (t ∷ ts) = option_and_then (λ x. pushed_all x ts) (pushed w t)

abbrev pub collected : List Term → Option SlipField
collected ts = pushed_all blank_slip_field ts
