-- The rules that reading can return, as a test; every other value counts as one with no fields.
-- `rule_value_iff` of proofs/ says that these are exactly the values that some text is read as.
use Rattle.std.specs.Prelude.{Bool, true, ◌&&◌, cond, [], ◌∷◌}
use Rattle.math_terms.specs.Terms.{con, var}
use Rattle.text_grammar.specs.Terms.{OurTerm, OurField, OurFields, terms_of}
use Rattle.text_grammar.specs.rules.Read.{OurRule}
use Rattle.overlap_spec.specs.Variables.{occurs}
use Rattle.text_values.specs.Values.{RuleSide}
use Rattle.text_values.specs.declared.Rule.{Rule}
use Rattle.text_values.specs.Values.{view_side, view_rule, blank_side}
use Rattle.text_accepted.specs.Accepted.{accepted_left, accepted_right}

-- x has the variable that a term is
abbrev pub known_term : OurFields → OurTerm → Bool
known_term x (con c) = true
known_term x (var k n) = occurs k n (terms_of x)

abbrev pub known_field : OurFields → OurField → Bool
known_field x [] = true
known_field x (t ∷ f) = known_term x t && known_field x f

-- x has every variable of y
abbrev pub known : OurFields → OurFields → Bool
known x [] = true
known x (f ∷ y) = known_field x f && known x y

abbrev pub accepted_rule : Rule → Bool
accepted_rule r = accepted_left r.left && (accepted_right r.right && known (view_side r.left) (view_side r.right))

-- document 01: a value "that no reading can return counts there as one with no fields",
-- also where only its right side is none that reading returns
abbrev pub counted_rule : Rule → OurRule
counted_rule r = cond (accepted_rule r) (view_rule r) ([], [])

-- the left side of what a value counts as
abbrev pub left_value : Rule → RuleSide
left_value r = cond (accepted_rule r) r.left blank_side
