-- Refusal 10: the pass finds the first variable that the left side lacks, and of a text that says a right side the leftmost.
use mathlib.Core.Path.{◌≡◌, ◌∙◌, ap}
use mathlib.Core.List.{List}
use Prim.Native.Nat.{ℕ, ◌≤◌}
use lib.ListN.{length}
use Rattle.text_grammar.specs.Grammar.{Raw, Says}
use Rattle.text_grammar.specs.Terms.{OurFields}
use Rattle.text_grammar.specs.Read.{slip}
use Rattle.text_grammar.proofs.Walk.{walk_says}
use Rattle.text_grammar.specs.rules.Judge.{lacking_at}
use Rattle.text_scan.specs.Places.{found_of}
use Rattle.text_refusals.specs.unknown.Unknown.{unknown_at}
use Rattle.text_refusals.proofs.unknown.Unknown.{NumbersIn, unknown_is}
use Rattle.text_passes.specs.Passes.{unknown_in}
use Rattle.text_passes.proofs.Passes.{is_short}

-- REFUSAL 10 of a text that says y, behind a left side with numbers within their limit
pub unknown_says : (l : OurFields) (t : List ℕ) (y : List (List Raw)) → NumbersIn l → Says t y → length t ≤ slip.bytes
    → unknown_in l t ≡ found_of (lacking_at l y)
unknown_says l t y n s h = rw (is_short t h) (ap found_of (ap (unknown_at l) (walk_says t y s) ∙ unknown_is l n y))
