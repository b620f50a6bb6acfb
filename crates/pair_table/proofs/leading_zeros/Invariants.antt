use mathlib.Core.Path.{◌≡◌}
use Prim.Native.Nat.{◌+◌, ◌-◌, ◌≤◌}
use lib.ListN.{length}
use Rattle.math_codes.specs.Texts.{zeros}
use Rattle.pair_table.specs.Notes.{part_of}
use Rattle.pair_table.proofs.leading_zeros.Given as goal

abbrev pub invariant-loop-i : goal.invariant-loop-i
invariant-loop-i l = (l.at + l.i ≤ length l.text) × (zeros (part_of l.text l.at l.n) ≡ l.i + zeros (part_of l.text (l.at + l.i) (l.n - l.i)))
