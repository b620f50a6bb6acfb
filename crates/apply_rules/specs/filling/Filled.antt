-- A filling put into a side of a rule, on values. `fills` of proofs/Fills says that it is `fill` of the theory, where the value of each of
-- the side's variables is the filling's.
use Rattle.std.specs.Prelude.{Bool, true, ◌&&◌, cond, List, [], ◌∷◌, map, ℕ, leb, length, get_or, take, drop, Option, Some, None}
use Rattle.base_limits.specs.Limits.{most_fields}
use Rattle.math_types.specs.Order.{basic, list}
use Rattle.math_types.specs.Types.{Kind}
use Rattle.math_types.specs.Values.{kind_of}
use Rattle.math_terms.specs.Seqs.{concat_map}
use Rattle.text_grammar.specs.Read.{slip}
use Rattle.text_values.specs.declared.Form.{Form}
use Rattle.text_values.specs.declared.Form.TheVariants.{Con, Var}
use Rattle.text_values.specs.declared.Term.{Term}
use Rattle.text_values.specs.Values.{Field, RuleSide, SlipField, Slip}
use Rattle.text_values.specs.canonical.Filled.{pad}
use Rattle.text_values.specs.Values.{blank_term, blank_slip_field}
use Rattle.match_fields.specs.declared.bindings.Run.{Run}
use Rattle.match_fields.specs.declared.bindings.Filling.{Filling}
use Rattle.match_fields.specs.bindings.Values.{atom_of, run_of}
use Rattle.match_fields.specs.Fields.{terms_of, items_of}

-- ---- the terms that a term becomes

abbrev pub some_items : SlipField → ℕ → ℕ → List Term
some_items f start count = take count (drop start (items_of f))

abbrev pub run_items : Slip → Run → List Term
run_items s r = some_items (get_or s.fields r.field blank_slip_field) r.start r.count

-- document 01: "a list variable's value is a run of the slip's terms"
abbrev pub value_items : Filling → Slip → Kind → ℕ → List Term
value_items x s (basic k) n = atom_of x.values (basic k) n ∷ []
value_items x s list n = run_items s (run_of x n)

abbrev pub filled_form : Filling → Slip → Term → Form → List Term
filled_form x s t (Con c) = t ∷ []
filled_form x s t (Var k n) = value_items x s (kind_of k) n

abbrev pub filled_term : Filling → Slip → Term → List Term
filled_term x s t = filled_form x s t t.form

-- ---- the fields

abbrev pub filled_field : Filling → Slip → Field → List Term
filled_field x s f = concat_map (filled_term x s) (terms_of f)

abbrev pub filled_fields : Filling → Slip → RuleSide → List (List Term)
filled_fields x s r = map (filled_field x s) (take r.n r.fields)

-- no field has more terms than a slip's may have
abbrev pub all_short : {A : Type 0} → List (List A) → Bool
all_short [] = true
all_short (f ∷ fs) = leb (length f) slip.width && all_short fs

-- the slip of these terms; the other places are blank
abbrev pub slip_field : List Term → SlipField
slip_field ts = record { n = length ts; terms = pad slip.width blank_term ts }

abbrev pub slip_of : List (List Term) → Slip
slip_of fs = record { n = length fs; fields = pad most_fields blank_slip_field (map slip_field fs) }

abbrev pub filled_as : List (List Term) → Option Slip
filled_as fs = cond (all_short fs) (Some (slip_of fs)) None

-- document 02: "the right side with the filling put in"
abbrev pub filled_side : RuleSide → Filling → Slip → Option Slip
filled_side r x s = filled_as (filled_fields x s r)
