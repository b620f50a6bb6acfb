-- Which rules and slips are within document 01's limits. `rule_iff` and `slip_iff` of proofs/ say that reading returns exactly these.
use Rattle.std.specs.Prelude.{List, [], ◌∷◌, ◌++◌, ℕ, suc, ◌≤◌, length}
use Rattle.base_limits.specs.Limits.{most_fields, largest_number}
use Rattle.base_lists.specs.Seqs.{All, Any, IsCons}
use Rattle.math_types.specs.Order.{basic, list}
use Rattle.math_terms.specs.Terms.{con, var}
use Rattle.text_grammar.specs.Leftmost.{NoneOf}
use Rattle.text_grammar.specs.Tokens.{Occ, Clash}
use Rattle.text_grammar.specs.Terms.{OurTerm, OurFields, terms_of}
use Rattle.text_grammar.specs.Read.{rule, slip}
use Rattle.text_grammar.specs.constants.Constants.{ConIn}

-- a term within its limits
abbrev pub TermIn : OurTerm → Type 0
TermIn (con c) = ConIn c
TermIn (var k n) = n ≤ largest_number

-- at least one field, not too many, none with too many terms, and each term within its limits
abbrev pub Within : ℕ → OurFields → Type 0
Within w r = IsCons r × (length r ≤ most_fields) × All (λ f. length f ≤ w) r × All (All TermIn) r

-- the occurrences of list variables, each with the number of its field
abbrev pub occ_t : ℕ → OurTerm → List Occ
occ_t n (con c) = []
occ_t n (var (basic k) v) = []
occ_t n (var list v) = (n, v) ∷ []

abbrev pub occ_f : ℕ → List OurTerm → List Occ
occ_f n [] = []
occ_f n (t ∷ ts) = occ_t n t ++ occ_f n ts

abbrev pub occ_r : ℕ → List (List OurTerm) → List Occ
occ_r n [] = []
occ_r n (f ∷ fs) = occ_f n f ++ occ_r (suc n) fs

-- document 01: "A list variable may occur once in a whole rule (left-linearity), and a field has at most one"
abbrev pub Linear : OurFields → Type 0
Linear r = NoneOf (λ b o. Any (Clash o) b) [] (occ_r 1 (terms_of r))

-- document 01: a slip is "without variables"
abbrev pub IsCon : OurTerm → Type 0
IsCon (con c) = Unit {0}
IsCon (var k v) = ⊥

-- the rules that reading returns
abbrev pub IsLeft : OurFields → Type 0
IsLeft r = Within rule.width r × Linear r

-- the slips that reading returns
abbrev pub IsSlip : OurFields → Type 0
IsSlip r = Within slip.width r × All (All IsCon) r
