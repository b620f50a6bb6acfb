-- What matching answers. Document 01: "no with the blank filling (every number zero), or yes with the value of every variable,
-- blank for those the rule lacks; a list variable's value is a run of the slip's terms".
use Rattle.std.specs.Prelude.{Bool, true, false, cond, List, [], ◌∷◌, map, ℕ, ◌+◌, ◌-◌, ◌/◌, ◌%◌, ◌<◌, ◌≤◌, eqb, length, get_or, set, take, drop}
use Rattle.std.proofs.Math.Option.{Option, none, some}
use Rattle.std.specs.Prelude.{Result, Ok, Err}
use Rattle.base_limits.specs.Limits.{numbers_of_side, atom_places}
use Rattle.base_lists.specs.Seqs.{tabulate}
use Rattle.math_types.specs.Order.{basic, list}
use Rattle.math_types.specs.Types.{Kind, kind_at}
use Rattle.math_terms.specs.Terms.{con, var}
use Rattle.math_terms.specs.Fillings.{Filling}
use Rattle.math_terms.specs.Matcher.{atoms}
use Rattle.text_grammar.specs.Terms.{OurTerm, OurFields, terms_of, SlipFields, items_of}
use Rattle.text_grammar.specs.constants.Constants.{Con}
use Rattle.text_grammar.specs.constants.Matching.{constants, matcher, compared}
use Rattle.text_values.specs.declared.Term.{Term}
use Rattle.text_values.specs.Values.{Field, SlipField}
use Rattle.text_values.specs.Values.{blank_term, encode_term}
use Rattle.match_fields.specs.declared.bindings.Values.{Values}
use Rattle.match_fields.specs.declared.bindings.Run.{Run}
use Rattle.match_rules.specs.declared.Match.{Match}
use Rattle.match_rules.specs.declared.Comparison.{Comparison}
use Rattle.match_rules.specs.Tests.{no_values, fields_tested, fields_compared, no_runs, runs_all}

-- ---- the atom variables

abbrev pub is_known : List Con → Bool
is_known [] = false
is_known (c ∷ w) = true

abbrev pub value_term : List Con → Term
value_term [] = blank_term
value_term (c ∷ w) = encode_term (con c)

-- 16 places for each type below list, in their order
abbrev pub encode_values : Filling Con Kind ℕ → Values
encode_values φ = record {
  known = tabulate atom_places (λ i. is_known (φ (kind_at (i / numbers_of_side)) (i % numbers_of_side)));
  terms = tabulate atom_places (λ i. value_term (φ (kind_at (i / numbers_of_side)) (i % numbers_of_side)));
}

-- ---- the list variables: the slip's field, the first item there, how many items

abbrev pub runs_field : ℕ → ℕ → ℕ → List OurTerm → List Run → List Run
runs_field j gap i [] rs = rs
runs_field j gap i (con c ∷ f) rs = runs_field j gap (i + 1) f rs
runs_field j gap i (var (basic k) n ∷ f) rs = runs_field j gap (i + 1) f rs
runs_field j gap i (var list n ∷ f) rs = runs_field j gap (i + 1) f (set rs n (record { field = j; start = i; count = gap }))

abbrev pub runs_from : ℕ → List (List OurTerm) → List (List Con) → List Run → List Run
runs_from j [] ws rs = rs
runs_from j (f ∷ fs) [] rs = rs
runs_from j (f ∷ fs) (w ∷ ws) rs = runs_from (j + 1) fs ws (runs_field j (length w - atoms f) 0 f rs)

abbrev pub runs_of : OurFields → SlipFields → List Run
runs_of rule slip = runs_from 0 (terms_of rule) (items_of slip) no_runs

-- the items that a run names
abbrev pub items_at : SlipFields → Run → List Con
items_at slip r = take r.count (drop r.start (get_or slip r.field []))

-- a run lies within the field that it names
pub record LiesIn (slip : SlipFields) (r : Run) : Type 0 where
  pub there : r.field < length slip
  pub whole : r.start + r.count ≤ length (get_or slip r.field [])

-- ---- the answer

abbrev pub no_match : Match
no_match = record { yes = false; filling = record { values = no_values; runs = no_runs } }

abbrev pub found : OurFields → SlipFields → Option (Filling Con Kind ℕ) → Match
found rule slip none = no_match
found rule slip (some φ) = record { yes = true; filling = record { values = encode_values φ; runs = runs_of rule slip } }

-- "A rule or slip with no fields gives no"
abbrev pub match_of : OurFields → OurFields → Match
match_of [] slip = no_match
match_of (f ∷ fs) [] = no_match
match_of (f ∷ fs) (w ∷ ws) = found (f ∷ fs) (map constants (w ∷ ws)) (matcher (f ∷ fs) (map constants (w ∷ ws)))

-- ---- the answer with the count

-- Document 02, E2: "It also returns how many slip items it compared"; "No shop should see another yes, no or filling"
abbrev pub comparison : OurFields → OurFields → Comparison
comparison r s = record { found = match_of r s; compared = compared r (map constants s) }

abbrev pub no_comparison : Comparison
no_comparison = record { found = no_match; compared = 0 }

-- The same on values, as code makes it: "0 where the field counts differ", else by the tests, with the runs where they pass.
-- `comparison_on_lem` of proofs/Found says that it is the comparison, where the values are those of fields within their limits.
abbrev pub found_by : List Field → List SlipField → Result Values Values → Match
found_by fs ws (Err v) = no_match
found_by fs ws (Ok v) = record { yes = true; filling = record { values = v; runs = runs_all 0 fs ws no_runs } }

abbrev pub comparison_by : List Field → List SlipField → Comparison
comparison_by fs ws = record { found = found_by fs ws (fields_tested fs ws no_values); compared = fields_compared fs ws no_values }

abbrev pub comparison_on : List Field → List SlipField → Comparison
comparison_on fs ws = cond (eqb (length fs) (length ws)) (comparison_by fs ws) no_comparison
