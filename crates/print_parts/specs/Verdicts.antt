-- What is said of a verdict.
use Rattle.std.specs.Prelude.{List, ◌++◌, ℕ}
use Rattle.std.specs.Prelude.{Ok, Err}
use Rattle.text_refusals.specs.verdicts.Verdicts.{Verdict, Accepted, Refused}
use Rattle.text_refusals.specs.verdicts.Verdicts.{number_of}
use Rattle.text_write.specs.pieces.Refusals.{number_at}

-- a refusal with the words before it, or the text t where there is none
abbrev pub verdict_text : List ℕ → Verdict → List ℕ → List ℕ
verdict_text words (Ok u) t = t
verdict_text words (Err e) t = words ++ number_at (number_of e.reason) e.place
