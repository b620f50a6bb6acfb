use mathlib.Core.Path.{◌≡◌}
use Prim.Native.Nat.{◌+◌, ◌≤◌}
use lib.ListN.{length}
use Rattle.text_write.specs.Sizes.{longest_number}
use Rattle.text_grammar.specs.Numbers.{digits_of}
use Rattle.text_write.proofs.digits_size.Given as goal

abbrev pub invariant-loop-m : goal.invariant-loop-m
invariant-loop-m l = (l.size + length (digits_of l.m) ≡ length (digits_of l.n) + 1) × (length (digits_of l.n) ≤ longest_number)

abbrev pub decreases-loop-m : goal.decreases-loop-m
decreases-loop-m l = l.m
