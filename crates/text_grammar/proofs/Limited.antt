-- The numbers of the variables that occur in fields within the limits. Assumes nothing.
use mathlib.Core.Logic.{inl, inr}
use mathlib.Core.List.{List, [], ◌∷◌}
use Prim.Native.Nat.{ℕ, ◌≤◌, ◌<◌}
use native.Mathlib.Omega.{arith}
use Rattle.base_lists.specs.Seqs.{All, Any}
use Rattle.math_types.specs.Order.{basic, list}
use Rattle.math_types.specs.Types.{Kind}
use Rattle.math_terms.specs.Terms.{con, var}
use Rattle.math_terms.specs.Fillings.{Occurs}
use Rattle.math_terms.specs.Linear.{lists}
use Rattle.text_grammar.specs.Terms.{OurTerm}
use Rattle.text_grammar.specs.Limits.{TermIn}
use Rattle.base_limits.specs.Limits.{largest_number}

-- what occurs in a rule within the limits has a number within its limit
pub number_field : (k : Kind) (n : ℕ) (f : List OurTerm) → All TermIn f → Occurs k n f → n ≤ largest_number
number_field k n [] h o = absurd o
number_field k n (con c ∷ f) h o = number_field k n f h.1 o
number_field k n (var j m ∷ f) h (inl e) = let q = e.1 in let l : m ≤ largest_number = h.0 in omega arith
number_field k n (var j m ∷ f) h (inr o) = number_field k n f h.1 o

pub number_rule : (k : Kind) (n : ℕ) (r : List (List OurTerm)) → All (All TermIn) r → Any (Occurs k n) r → n ≤ largest_number
number_rule k n [] h o = absurd o
number_rule k n (f ∷ r) h (inl o) = number_field k n f h.0 o
number_rule k n (f ∷ r) h (inr o) = number_rule k n r h.1 o

pub lists_small : (f : List OurTerm) → All TermIn f → All (λ n. n < 16) (lists f)
lists_small [] h = tt
lists_small (con c ∷ f) h = lists_small f h.1
lists_small (var (basic k) n ∷ f) h = lists_small f h.1
lists_small (var list n ∷ f) h = (omega (arith, h.0), lists_small f h.1)
