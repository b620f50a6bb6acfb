-- What the library's carrying out answers, in the documents' numbers and values, of a rule text and a slip text.
use Rattle.std.specs.Prelude.{◌≡◌, List, [], ◌∷◌, map, ℕ, length}
use Rattle.std.proofs.Math.Option.{Option, none, some}
use Rattle.math_terms.specs.Terms.{con}
use Rattle.text_grammar.specs.Told.{by_room}
use Rattle.text_grammar.specs.Plain.{plain}
use Rattle.text_grammar.specs.Terms.{OurFields, SlipFields}
use Rattle.text_grammar.specs.Read.{OutcomeOf, Outcome, refused, accepted, read_slip}
use Rattle.text_grammar.specs.rules.Read.{OurRule, read_rule}
use Rattle.text_grammar.specs.constants.Matching.{constants}
use Rattle.apply_spec.specs.Carrying.{Carried, result, unmatched, too_long}
use Rattle.apply_spec.specs.Rules.{carried}
use Rattle.text_read.specs.Answers.{side_said}
use Rattle.apply_rules.specs.declared.Carry.TheVariants.{TooLong}
use Rattle.apply_rules.specs.Answers.{told}
use Rattle.text_write.specs.Answers.{after}
use Rattle.yopobrush.specs.declared.Carrying.{Carrying}
use Rattle.yopobrush.specs.Answers.{reading_of, numbered}

-- document 01: "A refusal returns its number, its place and the rule with no fields"; and a slip text that is refused says none
-- (`side_said` of text_read/specs): "The slip with no fields is returned"
abbrev pub rule_said : OutcomeOf OurRule → OurRule
rule_said (refused r p) = ([], [])
rule_said (accepted w) = w

-- carrying out what the texts say
abbrev pub carried_said : OutcomeOf OurRule → Outcome → Carried SlipFields
carried_said rule slip = carried (rule_said rule) (map constants (side_said slip))

-- document 02: "the right side with the filling put in"; "the slip unchanged and a no"; 11 "leaves the slip as given"
abbrev pub given : OurFields → Carried SlipFields → OurFields
given slip (result w) = map (map con) w
given slip unmatched = slip
given slip too_long = slip

-- its plain text; of the slip with no fields it has no bytes
abbrev pub text_said : OutcomeOf OurRule → Outcome → List ℕ
text_said rule slip = plain (given (side_said slip) (carried_said rule slip))

-- yes and no have numbers that are no refusal's
abbrev pub number_for : Carried SlipFields → ℕ
number_for (result w) = 1
number_for unmatched = 0
number_for too_long = numbered (told TooLong).number

-- a refusal by room goes before the answer
abbrev pub unless : ℕ → Option ℕ → ℕ
unless n none = n
unless n (some m) = m

-- "Too small a buffer is refused by 8", with the needed byte count: in a buffer of so much room
abbrev pub carrying_of : OutcomeOf OurRule → Outcome → ℕ → Carrying
carrying_of rule slip room =
    let bytes = length (text_said rule slip) in
    record {
      rule = reading_of rule;
      slip = reading_of slip;
      answer = unless (number_for (carried_said rule slip)) (by_room bytes room (bytes ∷ [])).number;
      bytes = bytes;
    }

-- WHAT THE LIBRARY PROMISES of the rule text t, the slip text u and the lent bytes `old`: the answer, and what the bytes are afterwards
pub record LibraryCarries (t u old : List ℕ) (r : Carrying) (new : List ℕ) : Type 0 where
  pub answer : r ≡ carrying_of (read_rule t) (read_slip u) (length old)
  pub bytes : new ≡ after (text_said (read_rule t) (read_slip u)) old
