-- The same texts, from the values that reading and carrying out answer. `line_said` of proofs/Said says that they are the same.
use Rattle.std.specs.Prelude.{List, ◌++◌, ℕ}
use Rattle.text_grammar.specs.Ascii.{ascii}
use Rattle.text_grammar.specs.Plain.{plain}
use Rattle.text_values.specs.declared.Rule.{Rule}
use Rattle.text_values.specs.Values.{view_slip}
use Rattle.apply_rules.specs.declared.Carry.{Carry}
use Rattle.apply_rules.specs.declared.Carry.TheVariants.{Yes, No, TooLong}
use Rattle.apply_rules.specs.declared.Carried.{Carried}
use Rattle.apply_rules.specs.Answers.{told, carried_of}
use Rattle.text_read.specs.declared.RuleRead.{RuleRead}
use Rattle.text_read.specs.declared.SlipRead.{SlipRead}
use Rattle.print_parts.specs.Verdicts.{verdict_text}
use Rattle.print_carry.specs.Carry.{refusal_text}

-- the words before the slip
abbrev pub said_answer : Carry → List ℕ
said_answer Yes = ascii "yes "
said_answer No = ascii "no "
said_answer TooLong = refusal_text (told TooLong).number

abbrev pub said_carried : Carried → List ℕ
said_carried c = said_answer c.answer ++ plain (view_slip c.slip)

-- the slip, with a rule; both, as they were read
abbrev pub said_slip : Rule → SlipRead → List ℕ
said_slip r s = verdict_text (ascii "refused slip ") s.verdict (said_carried (carried_of r s.slip))

abbrev pub said_reads : RuleRead → SlipRead → List ℕ
said_reads r s = verdict_text (ascii "refused rule ") r.verdict (said_slip r.rule s)
