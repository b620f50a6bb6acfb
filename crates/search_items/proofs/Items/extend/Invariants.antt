use Rattle.std.proofs.Common.{◌≡◌, drop}
use mathlib.Core.List.{foldl}
use Rattle.search_items.specs.Items.{pushed}
use Rattle.search_items.proofs.Items.extend.Given as goal

-- what is left to put makes the whole
abbrev pub invariant-loop-c : goal.invariant-loop-c
invariant-loop-c l = foldl pushed l.self (drop l.c-index l.codes) ≡ foldl pushed l.fn.self l.codes
