-- The test of a term against an item on values, as code makes it. `test_agrees` of matching's proofs/Agree says that it is the matcher's.
use Rattle.std.specs.Prelude.{Bool, true, false, cond, List, ℕ, get_or, set, Option, Some, None}
use Rattle.math_types.specs.Order.{basic, list}
use Rattle.math_types.specs.Types.{Kind, le}
use Rattle.math_types.specs.Values.{kind_of}
use Rattle.text_values.specs.declared.Form.{Form}
use Rattle.text_values.specs.declared.Form.TheVariants.{Con, Var}
use Rattle.text_values.specs.declared.Term.{Term}
use Rattle.text_values.specs.constants.Constants.{same_constant, constant_kind}
use Rattle.text_values.specs.Values.{blank_term}
use Rattle.match_fields.specs.declared.bindings.Values.{Values}
use Rattle.match_fields.specs.bindings.Values.{slot}

-- ---- equality of constants: their values have one form each

abbrev pub same_form : Form → Form → List ℕ → List ℕ → Bool
same_form (Con c) (Con d) s t = same_constant c d s t
same_form (Con c) (Var j n) s t = false
same_form (Var j m) g s t = false

abbrev pub same_term : Term → Term → Bool
same_term a b = same_form a.form b.form a.text b.text

-- the kind of a constant
abbrev pub item_kind : Form → Kind
item_kind (Con c) = constant_kind c
item_kind (Var k n) = kind_of k

-- ---- a term of the rule against an item of the slip

abbrev pub bound : Values → ℕ → Term → Values
bound v i t = record { known = set v.known i true; terms = set v.terms i t }

abbrev pub met : Bool → Kind → ℕ → Term → Values → Option Values
met true k i item v = cond (same_term (get_or v.terms i blank_term) item) (Some v) None
met false k i item v = cond (le (item_kind item.form) k) (Some (bound v i item)) None

abbrev pub test_var : Kind → ℕ → Term → Values → Option Values
test_var (basic k) n item v = met (get_or v.known (slot (basic k) n) false) (basic k) (slot (basic k) n) item v
test_var list n item v = Some v

abbrev pub test_by : Form → Term → Term → Values → Option Values
test_by (Con c) t item v = cond (same_term t item) (Some v) None
test_by (Var k n) t item v = test_var (kind_of k) n item v

-- the values behind an item that passes
abbrev pub tested : Term → Term → Values → Option Values
tested t item v = test_by t.form t item v
