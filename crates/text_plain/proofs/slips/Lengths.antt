-- How long the plain text of a slip can be.
use mathlib.Core.Path.{◌≡◌, refl}
use mathlib.Core.Bool.{Bool, true, false, cond}
use mathlib.Core.List.{[]}
use Prim.Native.Nat.{◌≤◌}
use native.Mathlib.Omega.{arith}
use lib.ListN.{length}
use Rattle.base_limits.specs.Limits.{longest_slip}
use Rattle.text_grammar.specs.Plain.{plain}
use Rattle.text_grammar.proofs.Accepted.{slip_length}
use Rattle.text_values.specs.Values.{Slip}
use Rattle.text_values.specs.Values.{view_slip}
use Rattle.text_accepted.specs.slips.Slips.{accepted_slip, counted_slip}
use Rattle.text_accepted.proofs.slips.Slips.{accepted_slip_lem}

pub slip_short : (s : Slip) → accepted_slip s ≡ true → length (plain (view_slip s)) ≤ longest_slip
slip_short s e = slip_length (view_slip s) (accepted_slip_lem s e).0.0

-- what is written of a value: its plain text, or nothing
pub plain_short : (s : Slip) → length (plain (counted_slip s)) ≤ longest_slip
plain_short s = go (accepted_slip s) refl
  where
    go : (b : Bool) → accepted_slip s ≡ b → length (plain (cond b (view_slip s) [])) ≤ longest_slip
    go true e = slip_short s e
    go false e = omega arith
