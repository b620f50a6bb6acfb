-- What writing a value answers, by whether a reading can return it. Assumes nothing.
use Rattle.std.specs.Prelude.{Result, Ok}
use mathlib.Core.Path.{◌≡◌, refl}
use mathlib.Core.Bool.{true, false}
use mathlib.Core.List.{List, []}
use Prim.Native.Nat.{ℕ}
use native.Mathlib.Omega.{arith}
use Rattle.text_grammar.specs.Plain.{plain}
use Rattle.text_values.specs.Values.{Slip}
use Rattle.text_values.specs.Values.{view_slip}
use Rattle.text_accepted.specs.slips.Slips.{accepted_slip, counted_slip}
use Rattle.text_write.specs.declared.TooSmall.{TooSmall}
use Rattle.text_write.specs.Answers.{Writes}
use Rattle.text_write.proofs.Answers.{wrote}

module _ (s : Slip) where
  -- a value that no reading returns has no bytes, and is never refused
  pub of_none : (l : List ℕ) → accepted_slip s ≡ false → Writes (plain (counted_slip s)) l (Ok 0) l
  of_none l e = rw e (wrote [] l (omega arith) refl refl)

  pub of_slip : (l : List ℕ) {w : Result ℕ TooSmall} {m : List ℕ} → accepted_slip s ≡ true → Writes (plain (view_slip s)) l w m
      → Writes (plain (counted_slip s)) l w m
  of_slip l e h = rw e h
