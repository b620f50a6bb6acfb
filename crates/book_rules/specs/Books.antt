-- A book as a value, and what is answered of it.
use Rattle.std.specs.Prelude as std
use Rattle.std.specs.Prelude.{◌≡◌, Some, None, cond, [], map, ℕ, suc, leb, take}
use Rattle.std.proofs.Math.Option
use Rattle.std.proofs.Math.Option.{Option, none, some}
use Rattle.base_limits.specs.Limits.{most_rules}
use Rattle.text_grammar.specs.Terms.{OurFields}
use Rattle.text_grammar.specs.constants.Matching.{constants}
use Rattle.text_values.specs.declared.Rule.{Rule as RuleValue}
use Rattle.text_accepted.specs.rules.Rules.{counted_rule}
use Rattle.book_spec.specs.Books.{Book, pick}
use Rattle.book_rules.specs.declared.Book.{Book as BookValue}

-- the left side of what a rule's value counts as
abbrev pub left_of : RuleValue → OurFields
left_of r = (counted_rule r).0

-- "A book value of more than 16 rules counts as an empty book." A rule that no reading returns has no fields, and keeps its position
abbrev pub counted_book : BookValue → Book
counted_book b = cond (leb b.n most_rules) (map left_of (take b.n b.rules)) []

-- the number of the rule picked, "numbered from 1", or none
abbrev pub Picked : Type 0
Picked = std.Option ℕ

-- as the mathematics has it
abbrev pub shown : Picked → Option ℕ
shown (Some k) = some k
shown None = none

-- WHAT A PICK PROMISES of the book B and the slip s
abbrev pub PicksRule : Book → OurFields → Picked → Type 0
PicksRule B s r = shown r ≡ Option.map suc (pick B (map constants s))
