-- The terms that reading can return, as a test. `term_stands`,
-- `item_stands` of proofs/Terms say that each is the one value of a term within its limits.
use Rattle.std.specs.Prelude.{Bool, true, false, ◌&&◌, List, ℕ, leb}
use Rattle.base_limits.specs.Limits.{largest_number}
use Rattle.text_values.specs.declared.Form.{Form}
use Rattle.text_values.specs.declared.Form.TheVariants.{Con, Var}
use Rattle.text_values.specs.declared.Term.{Term}
use Rattle.text_values.specs.constants.Constants.{text_ok, constant_ok, constant_blank}

abbrev pub form_ok : Form → List ℕ → Bool
form_ok (Con c) s = constant_ok c s
form_ok (Var k n) s = leb n largest_number && text_ok 0 s

abbrev pub term_ok : Term → Bool
term_ok t = form_ok t.form t.text

abbrev pub form_blank : Form → List ℕ → Bool
form_blank (Con c) s = constant_blank c s
form_blank (Var k n) s = false

abbrev pub term_blank : Term → Bool
term_blank t = form_blank t.form t.text

-- a term of a slip
abbrev pub is_constant : Form → Bool
is_constant (Con c) = true
is_constant (Var k n) = false

abbrev pub item_ok : Term → Bool
item_ok t = is_constant t.form && term_ok t
