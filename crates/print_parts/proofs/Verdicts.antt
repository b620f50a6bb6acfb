-- A verdict's text, by the verdict. Assumes nothing.
use mathlib.Core.Path.{◌≡◌}
use mathlib.Core.List.{List, ◌++◌}
use Prim.Native.Nat.{ℕ}
use Rattle.text_refusals.specs.declared.verdicts.Reason.{Reason}
use Rattle.text_refusals.specs.verdicts.Verdicts.{Verdict, Accepted, Refused}
use Rattle.text_refusals.specs.verdicts.Verdicts.{number_of}
use Rattle.text_write.specs.pieces.Refusals.{number_at}
use Rattle.print_parts.specs.Verdicts.{verdict_text}

module _ (words : List ℕ) (v : Verdict) (t : List ℕ) where
  pub text_accepted : v ≡ Accepted → verdict_text words v t ≡ t
  text_accepted e = rw e

  pub text_refused : (r : Reason) (p : ℕ) → v ≡ Refused r p → verdict_text words v t ≡ words ++ number_at (number_of r) p
  text_refused r p e = rw e
