-- What writing a value answers, by whether a reading can return it. Assumes nothing.
use Rattle.std.specs.Prelude.{Result, Ok}
use mathlib.Core.Path.{◌≡◌, refl}
use mathlib.Core.Bool.{true, false}
use mathlib.Core.List.{List, []}
use Prim.Native.Nat.{ℕ}
use native.Mathlib.Omega.{arith}
use Rattle.text_values.specs.declared.Rule.{Rule}
use Rattle.text_values.specs.Values.{view_rule}
use Rattle.text_grammar.specs.rules.Plain.{plain_both}
use Rattle.text_accepted.specs.rules.Rules.{accepted_rule, counted_rule}
use Rattle.text_write.specs.declared.TooSmall.{TooSmall}
use Rattle.text_write.specs.Answers.{Writes}
use Rattle.text_write.proofs.Answers.{wrote}

module _ (r : Rule) where
  -- a value that no reading returns has no bytes, and is never refused
  pub of_none : (l : List ℕ) → accepted_rule r ≡ false → Writes (plain_both (counted_rule r)) l (Ok 0) l
  of_none l e = rw e (wrote [] l (omega arith) refl refl)

  pub of_rule : (l : List ℕ) {w : Result ℕ TooSmall} {m : List ℕ} → accepted_rule r ≡ true → Writes (plain_both (view_rule r)) l w m
      → Writes (plain_both (counted_rule r)) l w m
  of_rule l e h = rw e h
