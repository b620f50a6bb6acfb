-- How long the plain text of a side can be.
use mathlib.Core.Path.{◌≡◌, refl}
use mathlib.Core.Bool.{Bool, true, false, cond}
use mathlib.Core.List.{[]}
use Prim.Native.Nat.{◌≤◌}
use native.Mathlib.Omega.{arith}
use lib.ListN.{length}
use Rattle.base_limits.specs.Limits.{longest_side}
use Rattle.text_grammar.specs.Plain.{plain}
use Rattle.text_grammar.proofs.Accepted.{rule_length}
use Rattle.text_values.specs.Values.{RuleSide}
use Rattle.text_values.specs.Values.{view_side}
use Rattle.text_accepted.specs.Accepted.{accepted_left, counted_left}
use Rattle.text_accepted.proofs.Accepted.{accepted_rule_lem}

pub left_short : (r : RuleSide) → accepted_left r ≡ true → length (plain (view_side r)) ≤ longest_side
left_short r e = rule_length (view_side r) (accepted_rule_lem r e).0.0

-- what is written of a value: its plain text, or nothing
pub plain_short : (r : RuleSide) → length (plain (counted_left r)) ≤ longest_side
plain_short r = go (accepted_left r) refl
  where
    go : (b : Bool) → accepted_left r ≡ b → length (plain (cond b (view_side r) [])) ≤ longest_side
    go true e = left_short r e
    go false e = omega arith
