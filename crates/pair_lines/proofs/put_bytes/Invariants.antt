use Rattle.std.proofs.Common.{take}
use Rattle.pair_lines.specs.Lines.{Puts}
use Rattle.pair_lines.proofs.put_bytes.Given as goal

abbrev pub invariant-loop-b : goal.invariant-loop-b
invariant-loop-b l = Puts (take l.b-index l.bytes) l.at l.initial.out l.q l.out
