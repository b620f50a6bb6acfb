-- What the passes over the terms of a text come to. A text with more bytes than any rule or slip may have is not gone through.
use Rattle.std.specs.Prelude.{Bool, cond, ℕ, ltb, length, Option, None}
use mathlib.Core.List.{List, [], foldl}
use Rattle.text_grammar.specs.Terms.{OurFields}
use Rattle.text_grammar.specs.Read.{rule, slip}
use Rattle.text_grammar.specs.Walk.{walked}
use Rattle.text_values.specs.declared.Fields.{Fields}
use Rattle.text_values.specs.Values.{RuleSide, Slip, no_fields}
use Rattle.text_refusals.specs.verdicts.Verdicts.{sort_of}
use Rattle.text_refusals.specs.declared.Sort.{Sort}
use Rattle.text_refusals.specs.declared.Survey.{Survey}
use Rattle.text_refusals.specs.Refusals.{survey_token, nothing_yet}
use Rattle.text_scan.specs.Places.{found_of}
use Rattle.text_refusals.specs.unknown.Unknown.{unknown_at}
use Rattle.text_passes.specs.Build.{built}

-- more bytes than document 01 lets a slip have, the longer of the two
abbrev pub too_long : List ℕ → Bool
too_long t = ltb slip.bytes (length t)

-- the bytes that the passes read
abbrev pub gone_through : List ℕ → List ℕ
gone_through t = cond (too_long t) [] t

abbrev pub survey_in : Sort → List ℕ → Survey
survey_in s t = cond (too_long t) nothing_yet (foldl (survey_token s (sort_of s).width) nothing_yet (walked t))

-- the first variable of a right side's text that the left side l lacks
abbrev pub unknown_in : OurFields → List ℕ → Option ℕ
unknown_in l t = cond (too_long t) None (found_of (unknown_at l (walked t)))

-- the fields of up to w terms
abbrev pub fields_in : (w : ℕ) → List ℕ → Fields w
fields_in w t = cond (too_long t) (no_fields w) (built w (walked t))

abbrev pub side_in : List ℕ → RuleSide
side_in = fields_in rule.width

abbrev pub slip_in : List ℕ → Slip
slip_in = fields_in slip.width
