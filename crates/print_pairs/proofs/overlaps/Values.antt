-- How long what is said of a refusal is. Assumes nothing.
use mathlib.Core.List.{List, ◌++◌}
use Prim.Native.Nat.{ℕ, ◌≤◌, ◌<◌}
use native.Mathlib.Omega.{arith}
use lib.ListN.{length, length-append}
use Rattle.base_limits.specs.Limits.{most_list_bytes}
use Rattle.text_grammar.specs.Ascii.{newline}
use Rattle.text_write.proofs.Digits.{digits_64}
use Rattle.text_refusals.specs.declared.verdicts.Reason.{Reason}
use Rattle.text_refusals.specs.declared.verdicts.Reason.TheVariants.{Long, Grammar, Fields, Terms, Limits, Linear, Variable, Unknown}
use Rattle.text_refusals.specs.verdicts.Verdicts.{number_of}
use Rattle.text_write.specs.pieces.Refusals.{number_at}
use Rattle.text_write.proofs.pieces.Refusals.{number_at_most}

number_small : (r : Reason) → number_of r < 100
number_small Long = omega arith
number_small Grammar = omega arith
number_small Fields = omega arith
number_small Terms = omega arith
number_small Limits = omega arith
number_small Linear = omega arith
number_small Variable = omega arith
number_small Unknown = omega arith

pub refusal_short : (words : List ℕ) (r : Reason) (p : ℕ) → length words ≤ 14 → p < 18446744073709551616
    → length (words ++ number_at (number_of r) p ++ newline) ≤ most_list_bytes
refusal_short words r p h k =
    let a = length-append (words ++ number_at (number_of r) p) newline in
    let b = length-append words (number_at (number_of r) p) in
    omega (arith, a, b, number_at_most (number_of r) p 20 (number_small r) (digits_64 p k))
