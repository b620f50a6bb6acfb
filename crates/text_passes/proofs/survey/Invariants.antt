use Rattle.std.proofs.Common.{◌≡◌}
use mathlib.Core.List.{foldl}
use Rattle.text_refusals.specs.verdicts.Verdicts.{sort_of}
use Rattle.text_refusals.specs.Refusals.{survey_token}
use Rattle.text_passes.specs.Passes.{survey_in}
use Rattle.text_passes.specs.Reader.{tokens_left}
use Rattle.text_passes.proofs.survey.Given as goal

-- what is left to note makes of the survey so far that of all terms
abbrev pub invariant-loop-at : goal.invariant-loop-at
invariant-loop-at l = foldl (survey_token l.sort (sort_of l.sort).width) l.s (tokens_left l.at-iterator) ≡ survey_in l.sort l.text
