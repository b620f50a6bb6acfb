-- The slips that reading can return, as a test; every other value counts as one with no fields.
-- `slip_value_iff` of proofs/Slips says that these are exactly the values that some text is read as.
use Rattle.std.specs.Prelude.{Bool, false, ◌&&◌, cond, [], ltb}
use Rattle.base_limits.specs.Limits.{most_fields}
use Rattle.text_grammar.specs.Terms.{OurFields}
use Rattle.text_values.specs.Values.{SlipField, Slip}
use Rattle.text_values.specs.Values.{view_slip}
use Rattle.text_values.specs.canonical.Filled.{filled_to}
use Rattle.text_accepted.specs.Accepted.{terms_ok, terms_blank}

abbrev pub slip_field_ok : SlipField → Bool
slip_field_ok = terms_ok false

abbrev pub slip_field_blank : SlipField → Bool
slip_field_blank = terms_blank false

abbrev pub accepted_slip : Slip → Bool
accepted_slip s = ltb 0 s.n && filled_to most_fields slip_field_ok slip_field_blank s.n s.fields

abbrev pub counted_slip : Slip → OurFields
counted_slip s = cond (accepted_slip s) (view_slip s) []
