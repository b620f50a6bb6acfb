-- WHAT CARRYING OUT PROMISES, in document 02's words, of a rule value v, a slip value s and the answer c. `carries` of proofs/Carries says
-- that it holds of what the contract answers, `carried_of v s`.
use Rattle.std.specs.Prelude.{◌≡◌, ◌↔◌, true, false, map, ℕ}
use Rattle.std.proofs.Math.Option.{some}
use Rattle.base_limits.specs.Limits.{most_items}
use Rattle.base_lists.specs.Seqs.{IsCons}
use Rattle.math_types.specs.Types.{Kind, basics}
use Rattle.math_terms.specs.Terms.{con}
use Rattle.math_terms.specs.Fillings.{Filling, Typed, fill}
use Rattle.text_grammar.specs.Terms.{OurFields, terms_of, SlipFields, items_of}
use Rattle.text_grammar.specs.constants.Constants.{Con, consts}
use Rattle.text_grammar.specs.constants.Matching.{constants, Matches}
use Rattle.apply_spec.specs.Carrying.{Short, Over}
use Rattle.text_values.specs.declared.Rule.{Rule}
use Rattle.text_values.specs.Values.{Slip}
use Rattle.text_values.specs.Values.{view_side, view_slip, encode_slip}
use Rattle.text_accepted.specs.rules.Rules.{accepted_rule}
use Rattle.text_accepted.specs.slips.Slips.{accepted_slip}
use Rattle.apply_rules.specs.declared.Carry.TheVariants.{Yes, No}
use Rattle.apply_rules.specs.declared.Carried.{Carried}
use Rattle.apply_rules.specs.Answers.{told}

-- the filling θ, each variable by its type, makes the left side x the slip w
abbrev pub Makes : OurFields → SlipFields → Filling Con Kind ℕ → Type 0
Makes x w θ = Typed basics consts θ × (map (fill θ) (terms_of x) ≡ items_of w)

-- of a rule with the sides x and y and a slip w, as reading returns them
pub record CarriesOn (x y : OurFields) (w : SlipFields) (c : Carried) : Type 0 where
  -- "Carrying out a rule on a slip it matches gives ..": yes exactly when there is a right side, some filling makes the left side the slip,
  -- and no field of the right side with it put in has more terms than a slip's field may have
  pub yes : (c.answer ≡ Yes) ↔ (IsCons y × ((θ : Filling Con Kind ℕ) × Makes x w θ × Short most_items (map (fill θ) (terms_of y))))
  -- ".. the right side with the filling put in", whichever filling it is
  pub result : c.answer ≡ Yes → (θ : Filling Con Kind ℕ) → Makes x w θ → c.slip ≡ encode_slip (map (map con) (map (fill θ) (terms_of y)))
  -- what is returned is a slip that reading returns
  pub readable : accepted_slip c.slip ≡ true
  -- "on a slip it doesn't match, or without a right side, .. a no"
  pub no : (c.answer ≡ No) ↔ (IsCons y × Matches x w → ⊥)
  -- "refusal 11 (a result field over 64 terms)"
  pub eleven : ((told c.answer).number ≡ some 11)
      ↔ (IsCons y × ((θ : Filling Con Kind ℕ) × Makes x w θ × Over most_items (map (fill θ) (terms_of y))))

pub record Carries (v : Rule) (s : Slip) (c : Carried) : Type 0 where
  pub carried : accepted_rule v ≡ true → accepted_slip s ≡ true
      → CarriesOn (view_side v.left) (view_side v.right) (map constants (view_slip s)) c
  -- "the slip unchanged and a no", and 11 "leaves the slip as given": whatever value it is
  pub kept : (c.answer ≡ Yes → ⊥) → c.slip ≡ s
  -- 11 "is the only one of carrying out"
  pub only_eleven : (n : ℕ) → (told c.answer).number ≡ some n → n ≡ 11
  -- a value that no reading returns counts as one with no fields: a no
  pub unread_rule : accepted_rule v ≡ false → c ≡ record { answer = No; slip = s }
  pub unread_slip : accepted_slip s ≡ false → c ≡ record { answer = No; slip = s }
