-- The same texts, from the values that the reading functions answer.
-- `rule_said_lem`, `slip_said` of proofs/Verdicts say that they are the same.
use Rattle.std.specs.Prelude.{List, ◌++◌, ℕ}
use Rattle.text_grammar.specs.rules.Plain.{plain_both}
use Rattle.text_values.specs.Values.{view_rule}
use Rattle.std.specs.Prelude.{Ok, Err}
use Rattle.text_refusals.specs.verdicts.Verdicts.{Verdict, Accepted, Refused}
use Rattle.text_refusals.specs.declared.verdicts.Reason.{Reason}
use Rattle.text_read.specs.declared.RuleRead.{RuleRead}
use Rattle.text_refusals.specs.verdicts.Verdicts.{number_of}
use Rattle.text_grammar.specs.Ascii.{ascii}
use Rattle.text_write.specs.pieces.Refusals.{number_at}

abbrev pub refused_text : Reason → ℕ → List ℕ
refused_text r p = ascii "refused " ++ number_at (number_of r) p

-- the refusal's text, or the text t where there is none
abbrev pub verdict_text : Verdict → List ℕ → List ℕ
verdict_text (Ok u) t = t
verdict_text (Err e) t = refused_text e.reason e.place

abbrev pub rule_said : RuleRead → List ℕ
rule_said r = verdict_text r.verdict (plain_both (view_rule r.rule))
