-- The tests of matching and the runs on values, as code makes them. `fields_agree` of proofs/Agree says that the tests are the matcher's.
use Rattle.std.specs.Prelude.{false, cond, List, [], ◌∷◌, ℕ, ◌+◌, ◌-◌, length, set, replicate, Result, Ok, Err}
use Rattle.math_types.specs.Types.{is_list}
use Rattle.base_limits.specs.Limits.{numbers_of_side, atom_places}
use Rattle.math_types.specs.Values.{kind_of}
use Rattle.text_values.specs.declared.Form.{Form}
use Rattle.text_values.specs.declared.Form.TheVariants.{Con, Var}
use Rattle.text_values.specs.declared.Term.{Term}
use Rattle.text_values.specs.Values.{Field, SlipField}
use Rattle.text_values.specs.Values.{blank_term}
use Rattle.match_fields.specs.declared.bindings.Values.{Values}
use Rattle.match_fields.specs.declared.bindings.Run.{Run}
use Rattle.match_fields.specs.bindings.Values.{blank_run}
use Rattle.match_fields.specs.declared.Progress.{Progress}
use Rattle.match_fields.specs.Fields.{go_on, count_on, field_tested, field_compared, terms_of, items_of}

-- ---- a rule's fields against a slip's

abbrev pub no_values : Values
no_values = record { known = replicate atom_places false; terms = replicate atom_places blank_term }

abbrev pub fields_tested : List Field → List SlipField → Values → Result Values Values
fields_tested [] [] v = Ok v
fields_tested [] (w ∷ ws) v = Err v
fields_tested (f ∷ fs) [] v = Err v
fields_tested (f ∷ fs) (w ∷ ws) v = go_on (field_tested (terms_of f) (items_of w) v) (fields_tested fs ws)

-- how many items of the slip are compared on the way
abbrev pub fields_compared : List Field → List SlipField → Values → ℕ
fields_compared [] ws v = 0
fields_compared (f ∷ fs) [] v = 0
fields_compared (f ∷ fs) (w ∷ ws) v =
    field_compared (terms_of f) (items_of w) v + count_on (field_tested (terms_of f) (items_of w) v) (fields_compared fs ws)

abbrev pub fields_progress : List Field → List SlipField → Values → Progress
fields_progress fs ws v = record { tested = fields_tested fs ws v; compared = fields_compared fs ws v }

-- ---- the runs of list variables

abbrev pub no_runs : List Run
no_runs = replicate numbers_of_side blank_run

abbrev pub run_by : Form → Run → List Run → List Run
run_by (Con c) r rs = rs
run_by (Var k n) r rs = cond (is_list (kind_of k)) (set rs n r) rs

-- the terms of a field from the one of number i on
abbrev pub runs_over : ℕ → ℕ → ℕ → List Term → List Run → List Run
runs_over j gap i [] rs = rs
runs_over j gap i (t ∷ f) rs = runs_over j gap (i + 1) f (run_by t.form (record { field = j; start = i; count = gap }) rs)

-- a field has at most one list variable: it takes the items that the other terms leave
abbrev pub runs_in : ℕ → Field → SlipField → List Run → List Run
runs_in j f w rs = runs_over j (length (items_of w) + 1 - length (terms_of f)) 0 (terms_of f) rs

abbrev pub runs_all : ℕ → List Field → List SlipField → List Run → List Run
runs_all j [] ws rs = rs
runs_all j (f ∷ fs) [] rs = rs
runs_all j (f ∷ fs) (w ∷ ws) rs = runs_all (j + 1) fs ws (runs_in j f w rs)
