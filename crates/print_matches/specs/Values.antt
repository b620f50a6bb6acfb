-- The same texts, as code makes them of the two texts of a line. `slip_said`, `rule_said_lem` of proofs/Said say that they are the same.
use Rattle.std.specs.Prelude.{List, ℕ}
use Rattle.text_grammar.specs.Ascii.{ascii}
use Rattle.text_grammar.specs.Read.{read_slip}
use Rattle.text_refusals.specs.verdicts.Verdicts.{verdict_of}
use Rattle.match_rules.specs.Answers.{comparison_on}
use Rattle.match_rules.specs.texts.Texts.{side_fields, slip_fields}
use Rattle.print_parts.specs.Verdicts.{verdict_text}
use Rattle.print_matches.specs.answers.Values.{said_match}

-- the text t of a left side against the text u of a slip
abbrev pub said_texts : List ℕ → List ℕ → List ℕ
said_texts t u = said_match (side_fields t) (slip_fields u) (comparison_on (side_fields t) (slip_fields u))

-- the same, or how the slip is refused
abbrev pub said_slip : List ℕ → List ℕ → List ℕ
said_slip t u = verdict_text (ascii "refused slip ") (verdict_of (read_slip u)) (said_texts t u)
