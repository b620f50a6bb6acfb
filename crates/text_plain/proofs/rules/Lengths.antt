-- How long the plain text of a rule can be: 1,151 bytes for each side, and two for the arrow.
use mathlib.Core.Path.{◌≡◌, refl}
use mathlib.Core.Bool.{Bool, true, false, cond}
use mathlib.Core.List.{[]}
use Prim.Native.Nat.{◌≤◌}
use native.Mathlib.Omega.{arith}
use lib.ListN.{length}
use Rattle.base_limits.specs.Limits.{longest_rule}
use Rattle.text_grammar.specs.rules.Plain.{plain_both}
use Rattle.text_grammar.specs.rules.Read.{OurRule}
use Rattle.text_grammar.proofs.rules.Accepted.{rule_length}
use Rattle.text_values.specs.declared.Rule.{Rule}
use Rattle.text_values.specs.Values.{view_side, view_rule}
use Rattle.text_accepted.specs.rules.Rules.{accepted_rule, counted_rule}
use Rattle.text_accepted.proofs.rules.Rules.{accepted_rule_lem}

pub both_short : (r : Rule) → accepted_rule r ≡ true → length (plain_both (view_rule r)) ≤ longest_rule
both_short r e = let a = (accepted_rule_lem r e).0 in rule_length (view_side r.left) (view_side r.right) a.0 a.1

-- what is written of a value: its plain text, or nothing
pub plain_short : (r : Rule) → length (plain_both (counted_rule r)) ≤ longest_rule
plain_short r = go (accepted_rule r) refl
  where
    go : (b : Bool) → accepted_rule r ≡ b → length (plain_both (cond {A = OurRule} b (view_rule r) ([], []))) ≤ longest_rule
    go true e = both_short r e
    go false e = omega arith
