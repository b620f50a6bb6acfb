-- The text of a match, from the values of fields. `reads_said` of print_matches' proofs/Said says that it is the definition's.
use Rattle.std.specs.Prelude.{◌≡◌, Bool, false, cond, List, [], ◌++◌, map, ℕ, ◌≤◌, get_or, take, drop}
use Rattle.base_limits.specs.Limits.{largest_number}
use Rattle.math_types.specs.Order.{basic, list}
use Rattle.math_types.specs.Types.{Kind, kinds}
use Rattle.math_terms.specs.Terms.{var}
use Rattle.math_terms.specs.Seqs.{concat_map}
use Rattle.text_grammar.specs.Ascii.{ascii}
use Rattle.text_grammar.specs.Numbers.{digits_of}
use Rattle.text_grammar.specs.Plain.{term_text, field_text}
use Rattle.text_values.specs.declared.Term.{Term}
use Rattle.text_values.specs.Values.{Field, SlipField}
use Rattle.text_values.specs.Values.{blank_slip_field, view_term, view_field}
use Rattle.match_fields.specs.declared.bindings.Filling.{Filling}
use Rattle.match_fields.specs.declared.bindings.Run.{Run}
use Rattle.match_fields.specs.declared.bindings.Values.{Values}
use Rattle.match_fields.specs.bindings.Values.{slot, atom_of, run_of}
use Rattle.match_fields.specs.Fields.{items_of}
use Rattle.match_rules.specs.declared.Comparison.{Comparison}
use Rattle.overlap_spec.specs.Variables.{numbers, occurs}

-- ---- a value

abbrev pub items_from : SlipField → ℕ → ℕ → List Term
items_from f start count = take count (drop start (items_of f))

abbrev pub run_text : List SlipField → Run → List ℕ
run_text ws r = field_text (map view_term (items_from (get_or ws r.field blank_slip_field) r.start r.count))

-- of the atom variable of type k and number n
abbrev pub atom_text : Values → Kind → ℕ → List ℕ
atom_text v k n = term_text (view_term (atom_of v k n))

-- of the list variable of number n
abbrev pub list_text : List SlipField → Filling → ℕ → List ℕ
list_text ws x n = run_text ws (run_of x n)

abbrev pub said_value : Kind → ℕ → List SlipField → Filling → List ℕ
said_value (basic k) n ws x = atom_text x.values (basic k) n
said_value list n ws x = list_text ws x n

abbrev pub name_text : Kind → ℕ → List ℕ
name_text k n = ascii " " ++ term_text (var k n) ++ ascii "="

-- of a variable that the rule lacks nothing is said
abbrev pub said_variable : List Field → List SlipField → Filling → Kind → ℕ → List ℕ
said_variable fs ws x k n = cond (occurs k n (map view_field fs)) (name_text k n ++ said_value k n ws x) []

abbrev pub said_kind : List Field → List SlipField → Filling → Kind → List ℕ
said_kind fs ws x k = concat_map (said_variable fs ws x k) numbers

abbrev pub said_values : List Field → List SlipField → Filling → List ℕ
said_values fs ws x = concat_map (said_kind fs ws x) kinds

-- ---- a match

-- `yes` or `no`, how many of the slip's items were compared, and with `yes` the values
abbrev pub said_match : List Field → List SlipField → Comparison → List ℕ
said_match fs ws c =
    cond c.found.yes (ascii "yes " ++ digits_of c.compared ++ said_values fs ws c.found.filling)
    (ascii "no " ++ digits_of c.compared)

-- ---- which variables a rule has, as code notes it: a place for each number of each type

-- the variable of type k and number n is noted where `has` says
abbrev pub Noted : List Bool → (Kind → ℕ → Bool) → Type 0
Noted v has = (k : Kind) (n : ℕ) → n ≤ largest_number → get_or v (slot k n) false ≡ has k n

-- of each variable of type k that is noted, its name and its value
abbrev pub noted_text : List Bool → Kind → (ℕ → List ℕ) → List ℕ
noted_text v k value = concat_map (λ (n : ℕ). cond (get_or v (slot k n) false) (name_text k n ++ value n) []) numbers
