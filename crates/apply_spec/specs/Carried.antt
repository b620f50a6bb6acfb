-- WHAT CARRYING OUT ANSWERS, by fillings alone: document 02's sentences on it, of a rule that reading returns and slips of any length.
-- `carries_out` and `carries_one` of proofs/Carried say that all of it holds of the answer `carried r w`, and of no other.
use Rattle.std.specs.Prelude.{◌≡◌, ◌↔◌, map, ℕ}
use Rattle.base_limits.specs.Limits.{most_items}
use Rattle.base_lists.specs.Seqs.{IsCons}
use Rattle.math_types.specs.Types.{Kind, basics}
use Rattle.math_terms.specs.Fillings.{Filling, Typed, fill}
use Rattle.text_grammar.specs.Terms.{terms_of, SlipFields, items_of}
use Rattle.text_grammar.specs.constants.Constants.{Con, consts}
use Rattle.text_grammar.specs.constants.Matching.{Matches}
use Rattle.text_grammar.specs.rules.Read.{OurRule}
use Rattle.apply_spec.specs.Carrying.{Carried, result, unmatched, too_long, limited, Short, Over}
use Rattle.apply_spec.specs.Rules.{Readable}

-- the answer to carrying out the rule r on the slip w
pub record CarriesOut (r : OurRule) (w : SlipFields) (answer : Carried SlipFields) : Type 0 where
  -- "Carrying out a rule on a slip it matches gives the right side with the filling put in": s is the result exactly when there is a right
  -- side, some filling, each variable by its type, makes the left side the slip and the right side s, and refusal 11 does not apply
  pub yes : (s : SlipFields) → (answer ≡ result s)
      ↔ (IsCons r.1
      × ((θ : Filling Con Kind ℕ) × Typed basics consts θ × (map (fill θ) (terms_of r.0) ≡ items_of w)
      × (map (fill θ) (terms_of r.1) ≡ items_of s) × Short most_items (items_of s)))
  -- "refusal 11 (a result field over 64 terms) is the only one of carrying out": the same, and some field has more
  pub over : (answer ≡ too_long)
      ↔ (IsCons r.1
      × ((θ : Filling Con Kind ℕ) × Typed basics consts θ × (map (fill θ) (terms_of r.0) ≡ items_of w)
      × Over most_items (map (fill θ) (terms_of r.1))))
  -- "on a slip it doesn't match, or without a right side, the slip unchanged and a no"
  pub no : (answer ≡ unmatched) ↔ (IsCons r.1 × Matches r.0 w → ⊥)
  -- "the filling", document 01: "There is never more than one filling": put into the right side, all that match give the same
  pub any_filling : IsCons r.1 → (θ : Filling Con Kind ℕ) → Typed basics consts θ → map (fill θ) (terms_of r.0) ≡ items_of w
      → answer ≡ limited most_items (map (fill θ) (terms_of r.1))
  -- the result of a slip that reading returns is one that reading returns: a right side has "one to four fields", its variables are the
  -- left side's by refusal 10, and refusal 11 leaves 64 terms a field
  pub readable : Readable w → (s : SlipFields) → answer ≡ result s → Readable s
