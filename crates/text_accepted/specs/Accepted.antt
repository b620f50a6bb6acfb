-- The sides of rules and the fields that reading can return, as a test; every other value counts as one with no fields.
-- `rule_value_iff`, `field_value_iff` of proofs/Accepted say that these are exactly the values that some text is read as; of right sides
-- `side_value_iff` there says that they are those within the limits, and `rule_value_iff` of text_accepted::rules the same of whole rules.
use Rattle.std.specs.Prelude.{Bool, true, ◌&&◌, cond, [], ℕ, eqb, ltb}
use Rattle.base_limits.specs.Limits.{most_fields}
use Rattle.text_grammar.specs.Terms.{OurFields}
use Rattle.text_values.specs.declared.Term.{Term}
use Rattle.text_values.specs.declared.Terms.{Terms}
use Rattle.text_values.specs.declared.Fields.{Fields}
use Rattle.text_values.specs.Values.{Field, RuleSide}
use Rattle.text_accepted.specs.linearity.Lists.{linear}
use Rattle.text_values.specs.Values.{view_side, one_field}
use Rattle.text_values.specs.canonical.Filled.{filled_to}
use Rattle.text_values.specs.canonical.Terms.{term_ok, item_ok, term_blank}

-- a term of a field that may have variables, or of one that may not
abbrev pub may_stand : Bool → Term → Bool
may_stand v t = cond v (term_ok t) (item_ok t)

abbrev pub terms_ok : {w : ℕ} → Bool → Terms w → Bool
terms_ok {w} v f = filled_to w (may_stand v) term_blank f.n f.terms

abbrev pub terms_blank : {w : ℕ} → Bool → Terms w → Bool
terms_blank v f = eqb f.n 0 && terms_ok v f

-- the fields of a side or of a slip
abbrev pub fields_ok : {w : ℕ} → Bool → Fields w → Bool
fields_ok v r = filled_to most_fields (terms_ok v) (terms_blank v) r.n r.fields

abbrev pub field_ok : Field → Bool
field_ok = terms_ok true

abbrev pub field_blank : Field → Bool
field_blank = terms_blank true

-- a right side: at most four fields, none where there is no right side; its list variables may recur and share a field
abbrev pub accepted_right : RuleSide → Bool
accepted_right r = filled_to most_fields field_ok field_blank r.n r.fields

-- a left side: at least one field, and left-linear
abbrev pub accepted_left : RuleSide → Bool
accepted_left r = ltb 0 r.n && (accepted_right r && linear (view_side r))

-- document 01: a value "that no reading can return counts there as one with no fields"
abbrev pub counted_left : RuleSide → OurFields
counted_left r = cond (accepted_left r) (view_side r) []

-- ---- fields: one that stands on some accepted rule's left side stands there alone too

abbrev pub accepted_field : Field → Bool
accepted_field f = accepted_left (one_field f)

abbrev pub counted_field : Field → OurFields
counted_field f = counted_left (one_field f)
