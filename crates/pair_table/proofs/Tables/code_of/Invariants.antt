use mathlib.Core.Path.{◌≡◌}
use Prim.Native.Nat.{◌-◌}
use Rattle.pair_table.specs.Notes.{member_from}
use Rattle.pair_table.proofs.Tables.code_of.Given as goal

abbrev pub invariant-loop-k : goal.invariant-loop-k
invariant-loop-k l = member_from l.self.row.now l.self.texts.now l.p 0 l.n ≡ member_from l.self.row.now l.self.texts.now l.p l.k (l.n - l.k)
