-- The place of refusal 2 as the code answers it: the specification's option as the code's.
use Rattle.std.proofs.Math.Option as maybe
use Rattle.std.specs.Prelude.{ℕ, Option, Some, None}

abbrev pub found_of : maybe.Option ℕ → Option ℕ
found_of (maybe.some p) = Some p
found_of maybe.none = None
