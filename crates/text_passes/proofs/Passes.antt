-- A text that is not too long is gone through.
use mathlib.Core.Path.{◌≡◌}
use mathlib.Core.Bool.{false}
use Prim.Native.Nat.{ℕ, ◌≤◌}
use mathlib.Core.List.{List}
use lib.ListN.{length}
use borrow.Author.Tests.{le-ltb}
use Rattle.text_grammar.specs.Read.{slip}
use Rattle.text_passes.specs.Passes.{too_long}

pub is_short : (t : List ℕ) → length t ≤ slip.bytes → too_long t ≡ false
is_short t h = le-ltb slip.bytes (length t) h
