-- Carrying out document 02's rules: the definitions of Carrying at document 01's constants.
use Rattle.std.specs.Prelude.{map}
use Rattle.std.proofs.Math.Decide.{ℕ_discrete}
use Rattle.base_limits.specs.Limits.{most_items}
use Rattle.math_types.specs.Types.{basics}
use Rattle.math_terms.specs.Terms.{con}
use Rattle.text_grammar.specs.Terms.{terms_of, SlipFields, items_of}
use Rattle.text_grammar.specs.constants.Constants.{consts}
use Rattle.text_grammar.specs.Limits.{IsSlip}
use Rattle.text_grammar.specs.rules.Read.{OurRule}
use Rattle.apply_spec.specs.Carrying as theory

-- a slip that reading returns, by its constants
abbrev pub Readable : SlipFields → Type 0
Readable w = IsSlip (map (map con) w)

-- CARRYING OUT; document 02 refuses "a result field over 64 terms", as many as a slip's field may have
abbrev pub carried : OurRule → SlipFields → theory.Carried SlipFields
carried r w = theory.carried basics consts ℕ_discrete most_items (terms_of r.0) (terms_of r.1) (items_of w)
