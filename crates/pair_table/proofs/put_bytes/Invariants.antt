use mathlib.Core.Path.{◌≡◌}
use Prim.Native.Nat.{◌+◌, ◌-◌}
use lib.Seq.{sets}
use Rattle.pair_table.specs.Notes.{part_of}
use Rattle.pair_table.proofs.put_bytes.Given as goal

abbrev pub invariant-loop-i : goal.invariant-loop-i
invariant-loop-i l = sets l.texts (l.at + l.i) (part_of l.text (l.from + l.i) (l.n - l.i)) ≡ sets l.initial.texts l.at (part_of l.text l.from l.n)
