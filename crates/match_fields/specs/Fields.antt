-- The test of a field on values, as code makes it. `field_agrees` of matching's proofs/Agree says that it is the matcher's.
use Rattle.std.specs.Prelude.{Bool, false, cond, ℕ, ◌+◌, ◌-◌, eqb, leb, length, get_or, take, count_by, Result, Ok, Err, ok_or}
use mathlib.Core.List.{List, [], ◌∷◌}
use Rattle.math_types.specs.Types.{is_list}
use Rattle.math_types.specs.Values.{kind_of}
use Rattle.text_values.specs.declared.Form.{Form}
use Rattle.text_values.specs.declared.Form.TheVariants.{Con, Var}
use Rattle.text_values.specs.declared.Term.{Term}
use Rattle.text_values.specs.Values.{Field, SlipField}
use Rattle.text_values.specs.Values.{blank_term}
use Rattle.match_fields.specs.declared.bindings.Values.{Values}
use Rattle.match_fields.specs.items.Tests.{tested}
use Rattle.match_fields.specs.declared.Shape.{Shape}
use Rattle.match_fields.specs.declared.Progress.{Progress}

-- ---- the terms of a field from the left, the first at item p; a list variable takes `gap` items

abbrev pub is_list_form : Form → Bool
is_list_form (Con c) = false
is_list_form (Var k n) = is_list (kind_of k)

abbrev pub is_list_term : Term → Bool
is_list_term t = is_list_form t.form

abbrev pub width_of : ℕ → Term → ℕ
width_of gap t = cond (is_list_term t) gap 1

-- the values behind the test of one term, or, where it fails, those before it
abbrev pub term_tested : Term → Term → Values → Result Values Values
term_tested t item v = ok_or (tested t item v) v

-- behind a test that passes the next ones follow; one that fails is the last, and its values stay
abbrev pub go_on : Result Values Values → (Values → Result Values Values) → Result Values Values
go_on (Err v) k = Err v
go_on (Ok v) k = k v

abbrev pub walked : ℕ → List Term → List Term → ℕ → Values → Result Values Values
walked gap items [] p v = Ok v
walked gap items (t ∷ f) p v = go_on (term_tested t (get_or items p blank_term) v) (walked gap items f (p + width_of gap t))

-- how many of the items are compared on the way: one for each atom reached, the failing one included
abbrev pub atoms_in : Term → ℕ
atoms_in t = cond (is_list_term t) 0 1

abbrev pub count_on : Result Values Values → (Values → ℕ) → ℕ
count_on (Err v) k = 0
count_on (Ok v) k = k v

abbrev pub walk_compared : ℕ → List Term → List Term → ℕ → Values → ℕ
walk_compared gap items [] p v = 0
walk_compared gap items (t ∷ f) p v =
    atoms_in t + count_on (term_tested t (get_or items p blank_term) v) (walk_compared gap items f (p + width_of gap t))

-- how far the tests get: the values behind the last of them, or those before the one that failed, and how many items were compared
abbrev pub walk_progress : ℕ → List Term → List Term → Values → Progress
walk_progress gap items f v = record { tested = walked gap items f 0 v; compared = walk_compared gap items f 0 v }

-- ---- a field: first its length; where that fails, the values are the given ones

abbrev pub shape_of : List Term → Shape
shape_of f = record { atoms = length f - count_by is_list_term f; lists = count_by is_list_term f }

abbrev pub fits_length : Shape → ℕ → Bool
fits_length s n = cond (eqb s.lists 0) (eqb s.atoms n) (leb s.atoms n)

abbrev pub field_tested : List Term → List Term → Values → Result Values Values
field_tested f items v = cond (fits_length (shape_of f) (length items)) (walked (length items - (shape_of f).atoms) items f 0 v) (Err v)

-- a field whose length fails compares nothing
abbrev pub field_compared : List Term → List Term → Values → ℕ
field_compared f items v = cond (fits_length (shape_of f) (length items)) (walk_compared (length items - (shape_of f).atoms) items f 0 v) 0

abbrev pub field_progress : List Term → List Term → Values → Progress
field_progress f items v = record { tested = field_tested f items v; compared = field_compared f items v }

abbrev pub terms_of : Field → List Term
terms_of f = take f.n f.terms

abbrev pub items_of : SlipField → List Term
items_of w = take w.n w.terms
