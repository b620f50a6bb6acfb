-- Values and what they stand for: the view of a value in the mathematics, and the one value of each term, field, rule and slip.
use Rattle.std.specs.Prelude.{List, [], ◌∷◌, map, ℕ, length, take, replicate}
use Rattle.base_limits.specs.Limits.{most_fields, longest_string}
use Rattle.math_types.specs.Values.{kind_of, kind_from}
use Rattle.math_terms.specs.Terms.{con, var}
use Rattle.text_grammar.specs.Terms.{OurTerm, OurField, OurFields}
use Rattle.text_grammar.specs.Read.{rule, slip}
use Rattle.text_values.specs.declared.Form.{Form}
use Rattle.text_values.specs.declared.Form.TheVariants.{Con, Var}
use Rattle.text_values.specs.declared.Term.{Term}
use Rattle.text_values.specs.declared.Terms.{Terms}
use Rattle.text_values.specs.declared.Fields.{Fields}
use Rattle.text_values.specs.declared.Rule.{Rule}
use Rattle.text_values.specs.canonical.Filled.{pad}
use Rattle.text_values.specs.constants.Constants.{view_constant, encode_constant, blank_constant}

-- ---- the sizes of fields, sides and slips

abbrev pub Field : Type 0
Field = Terms rule.width

abbrev pub RuleSide : Type 0
RuleSide = Fields rule.width

abbrev pub SlipField : Type 0
SlipField = Terms slip.width

abbrev pub Slip : Type 0
Slip = Fields slip.width

-- ---- what a value stands for

abbrev pub view_form : Form → List ℕ → OurTerm
view_form (Con c) s = con (view_constant c s)
view_form (Var k n) s = var (kind_of k) n

abbrev pub view_term : Term → OurTerm
view_term t = view_form t.form t.text

abbrev pub view_terms : ℕ → List Term → List OurTerm
view_terms n ts = map view_term (take n ts)

abbrev pub view_field : {w : ℕ} → Terms w → OurField
view_field f = view_terms f.n f.terms

abbrev pub view_side : {w : ℕ} → Fields w → OurFields
view_side r = map view_field (take r.n r.fields)

-- both sides; a right side with no fields is none
abbrev pub view_rule : Rule → OurFields × OurFields
view_rule r = (view_side r.left, view_side r.right)

abbrev pub view_slip_field : SlipField → OurField
view_slip_field = view_field

abbrev pub view_slip : Slip → OurFields
view_slip = view_side

-- ---- the one value for each

-- document 01: "every number zero"
abbrev pub blank_term : Term
blank_term = record { form = Con blank_constant; text = replicate longest_string 0 }

abbrev pub no_terms : (w : ℕ) → Terms w
no_terms w = record { n = 0; terms = replicate w blank_term }

abbrev pub no_fields : (w : ℕ) → Fields w
no_fields w = record { n = 0; fields = replicate most_fields (no_terms w) }

abbrev pub blank_field : Field
blank_field = no_terms rule.width

abbrev pub blank_side : RuleSide
blank_side = no_fields rule.width

abbrev pub blank_rule : Rule
blank_rule = record { left = blank_side; right = blank_side }

abbrev pub blank_slip_field : SlipField
blank_slip_field = no_terms slip.width

abbrev pub blank_slip : Slip
blank_slip = no_fields slip.width

abbrev pub encode_term : OurTerm → Term
encode_term (con c) = record { form = Con (encode_constant c).0; text = (encode_constant c).1 }
encode_term (var k n) = record { form = Var (kind_from k) n; text = replicate longest_string 0 }

abbrev pub encode_terms : ℕ → List OurTerm → List Term
encode_terms w ts = pad w blank_term (map encode_term ts)

abbrev pub encode_to : (w : ℕ) → OurField → Terms w
encode_to w ts = record { n = length ts; terms = encode_terms w ts }

abbrev pub encode_all : (w : ℕ) → OurFields → Fields w
encode_all w r = record { n = length r; fields = pad most_fields (no_terms w) (map (encode_to w) r) }

abbrev pub encode_field : OurField → Field
encode_field = encode_to rule.width

abbrev pub encode_side : OurFields → RuleSide
encode_side = encode_all rule.width

abbrev pub encode_rule : OurFields × OurFields → Rule
encode_rule r = record { left = encode_side r.0; right = encode_side r.1 }

abbrev pub encode_slip_field : OurField → SlipField
encode_slip_field = encode_to slip.width

abbrev pub encode_slip : OurFields → Slip
encode_slip = encode_all slip.width

-- the rule with one field
abbrev pub one_field : Field → RuleSide
one_field f = record { n = 1; fields = f ∷ (blank_field ∷ (blank_field ∷ (blank_field ∷ []))) }
