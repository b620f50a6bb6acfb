use Rattle.std.proofs.Common.{◌≡◌}
use Rattle.text_values.specs.Values.{view_side}
use Rattle.text_scan.specs.Places.{found_of}
use Rattle.text_refusals.specs.unknown.Unknown.{unknown_at}
use Rattle.text_passes.specs.Passes.{unknown_in}
use Rattle.text_passes.specs.Reader.{tokens_left}
use Rattle.text_passes.proofs.unknown_in.Given as goal

-- the first that is left is the first of all
abbrev pub invariant-loop-at : goal.invariant-loop-at
invariant-loop-at l = found_of (unknown_at (view_side l.left) (tokens_left l.at-iterator)) ≡ unknown_in (view_side l.left) l.text
