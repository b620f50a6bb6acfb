-- How many fields a text has, and one field of it at a time: who needs the first builds no whole rule and no whole slip.
-- `side_fields_lem`, `slip_fields_lem` of proofs/Fields say that, of a text that is accepted, these are the fields of what it says.
use Rattle.std.specs.Prelude.{cond, ℕ, ◌+◌, min, eqb, ltb}
use mathlib.Core.List.{List, foldl}
use Rattle.base_limits.specs.Limits.{most_fields}
use Rattle.text_grammar.specs.Tokens.{Token}
use Rattle.text_grammar.specs.Read.{rule, slip}
use Rattle.text_grammar.specs.Walk.{walked}
use Rattle.text_values.specs.declared.Terms.{Terms}
use Rattle.text_values.specs.Values.{Field, SlipField, no_terms}
use Rattle.text_passes.specs.Build.{add_raw}
use Rattle.text_passes.specs.Passes.{too_long}

-- a term's field is the last one so far
abbrev pub last_field : ℕ → Token → ℕ
last_field n m = m.in_field

-- document 01: "A rule is one to four fields"; so is a slip
abbrev pub field_count : List ℕ → ℕ
field_count t = cond (too_long t) 0 (min (foldl last_field 0 (walked t)) most_fields)

-- with a term more, where it is one of field j; fields are counted from 0 here, and from 1 in the tokens
abbrev pub add_to : {w : ℕ} → ℕ → Terms w → Token → Terms w
add_to j f m = cond (eqb m.in_field (j + 1)) (add_raw f m.raw) f

-- the terms of field j; there is no fifth field
abbrev pub field_in : (w : ℕ) → List ℕ → ℕ → Terms w
field_in w t j = cond (too_long t) (no_terms w) (cond (ltb j most_fields) (foldl (add_to j) (no_terms w) (walked t)) (no_terms w))

abbrev pub side_field : List ℕ → ℕ → Field
side_field = field_in rule.width

abbrev pub slip_field : List ℕ → ℕ → SlipField
slip_field = field_in slip.width
