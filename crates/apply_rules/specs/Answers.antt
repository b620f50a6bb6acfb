-- What carrying out answers. Document 02: "Carrying out a rule on a slip it matches gives the right side with the filling put in; on a
-- slip it doesn't match, or without a right side, the slip unchanged and a no", and "refusal 11 (a result field over 64 terms) is the only
-- one of carrying out; it leaves the slip as given".
use Rattle.std.specs.Prelude.{[], map}
use Rattle.std.proofs.Math.Option.{none, some}
use Rattle.math_terms.specs.Terms.{con}
use Rattle.text_grammar.specs.Terms.{SlipFields}
use Rattle.text_grammar.specs.Told.{Told}
use Rattle.text_grammar.specs.constants.Matching.{constants}
use Rattle.apply_spec.specs.Carrying.{Carried, result, unmatched, too_long}
use Rattle.apply_spec.specs.Rules.{carried}
use Rattle.text_values.specs.declared.Rule.{Rule}
use Rattle.text_values.specs.Values.{Slip}
use Rattle.text_values.specs.Values.{encode_slip}
use Rattle.text_accepted.specs.rules.Rules.{counted_rule}
use Rattle.text_accepted.specs.slips.Slips.{counted_slip}
use Rattle.apply_rules.specs.declared.Carry.{Carry}
use Rattle.apply_rules.specs.declared.Carry.TheVariants.{Yes, No, TooLong}
use Rattle.apply_rules.specs.declared.Carried.{Carried as CarriedValue}

-- the paper's number of each answer; the slip is returned beside it
abbrev pub told : Carry → Told
told Yes = record { number = none; values = [] }
told No = record { number = none; values = [] }
told TooLong = record { number = some 11; values = [] }

-- the answer's value, where the slip given is the value s
abbrev pub answer_of : Slip → Carried SlipFields → CarriedValue
answer_of s (result w) = record { answer = Yes; slip = encode_slip (map (map con) w) }
answer_of s unmatched = record { answer = No; slip = s }
answer_of s too_long = record { answer = TooLong; slip = s }

-- a rule or slip that no reading returns counts as one with no fields
abbrev pub carried_of : Rule → Slip → CarriedValue
carried_of r s = answer_of s (carried (counted_rule r) (map constants (counted_slip s)))
