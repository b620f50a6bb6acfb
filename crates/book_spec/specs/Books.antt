-- A MAKER'S BOOK. Document 02, E4: "Rules come as a book of up to 16. A slip's rule is the first in the book that matches it. The shop
-- wants to know whether the order in the book matters." Positions are counted from 0 here, and shown from 1.
use Rattle.std.specs.Prelude.{◌≡◌, ◌⊎◌, Bool, true, false, List, [], ◌∷◌, ◌++◌, map, ℕ, suc, ◌+◌, ◌-◌, ◌*◌, ◌/◌, ◌<◌, length, get_or}
use Rattle.std.proofs.Math.Option.{Option, none, some}
use Rattle.base_limits.specs.Limits.{most_rules}
use Rattle.base_lists.specs.Seqs.{All, IsNil}
use Rattle.math_terms.specs.Seqs.{concat_map}
use Rattle.text_grammar.specs.Ascii.{ascii, newline}
use Rattle.text_grammar.specs.Numbers.{digits_of}
use Rattle.text_grammar.specs.Terms.{OurFields, SlipFields}
use Rattle.text_grammar.specs.Limits.{IsLeft}
use Rattle.text_grammar.specs.constants.Matching.{matcher}
use Rattle.overlap_spec.specs.Variables.{numbers_from, keep}
use Rattle.overlap_spec.specs.Overlaps.{lines_of, overlapping}
use Rattle.book_spec.specs.Picks.{pick_in}

-- ---- books

-- the left sides of its rules, one behind the other: what a rule makes of a slip is no part of a pick. One that no reading returns has no
-- fields
abbrev pub Book : Type 0
Book = List OurFields

-- each rule is one that reading returns, or has no fields
abbrev pub Counted : OurFields → Type 0
Counted r = IsNil r ⊎ IsLeft r

abbrev pub IsBook : Book → Type 0
IsBook B = All Counted B

abbrev pub rule_at : Book → ℕ → OurFields
rule_at B i = get_or B i []

-- ---- picks

abbrev pub is_some : {X : Type 0} → Option X → Bool
is_some none = false
is_some (some x) = true

-- whether the rule matches the slip. Document 01: "A rule or slip with no fields gives no". `gives_iff` of proofs/ says that it is matching
abbrev pub gives : OurFields → SlipFields → Bool
gives [] w = false
gives (f ∷ r) w = is_some (matcher (f ∷ r) w)

-- the first that matches in the book reordered by p, told "by its old position, or none"; `old_position` of proofs/Books says that it is
-- the old position of what is picked in the reordered book
abbrev pub pick_by : Book → List ℕ → SlipFields → Option ℕ
pick_by B p w = pick_in (λ i. gives (rule_at B i) w) p

-- its rules in the order p
abbrev pub reordered : Book → List ℕ → Book
reordered B p = map (rule_at B) p

-- "A slip's rule is the first in the book that matches it": in the book's own order
abbrev pub pick : Book → SlipFields → Option ℕ
pick B w = pick_by B (numbers_from (length B) 0) w

-- ---- overlapping pairs

-- "all pairs of different positions have empty overlap lists"
abbrev pub Apart : Book → Type 0
Apart B = (i j : ℕ) → i < length B → j < length B → (i ≡ j → ⊥) → lines_of (rule_at B i) (rule_at B j) ≡ []

-- the pairs of i with a higher position below n
abbrev pub pairs_with : ℕ → ℕ → List (ℕ × ℕ)
pairs_with n i = map (λ (j : ℕ). (i, j)) (numbers_from (n - suc i) (suc i))

-- all pairs of positions below n, "lower number first, sorted by I, then by J, as numbers"
abbrev pub pairs_below : ℕ → List (ℕ × ℕ)
pairs_below n = concat_map (pairs_with n) (numbers_from n 0)

-- which of two pairs comes before the other
abbrev pub Sorted : ℕ × ℕ → ℕ × ℕ → Type 0
Sorted a b = (a.0 < b.0) ⊎ ((a.0 ≡ b.0) × (a.1 < b.1))

-- whether the rules at two positions overlap
abbrev pub meet : Book → ℕ × ℕ → Bool
meet B v = overlapping (rule_at B v.0) (rule_at B v.1)

-- "each overlapping pair"
abbrev pub pairs_of : Book → List (ℕ × ℕ)
pairs_of B = keep (meet B) (pairs_below (length B))

-- "a line `I J`", numbered from 1
abbrev pub pair_text : ℕ × ℕ → List ℕ
pair_text v = digits_of (suc v.0) ++ ascii " " ++ digits_of (suc v.1) ++ newline

-- THE TEXT of a book's overlapping pairs
abbrev pub book_text : Book → List ℕ
book_text B = concat_map pair_text (pairs_of B)

-- no book of at most 16 rules has a longer one (`text_short` of proofs/Pairs): every pair of positions, each with two numbers of two
-- digits, a blank and a newline
abbrev pub most_pairs : ℕ
most_pairs = most_rules * (most_rules - 1) / 2

abbrev pub longest_pair : ℕ
longest_pair = 2 + 1 + 2 + 1

abbrev pub longest_book_text : ℕ
longest_book_text = most_pairs * longest_pair
