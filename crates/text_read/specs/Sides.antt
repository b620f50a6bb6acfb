-- What is said of the sides of a rule text, as the verdict of the whole text.
use Rattle.std.specs.Prelude.{ℕ, ◌+◌, ◌≤◌, Option, Some, None, Ok, Err}
use Rattle.text_scan.specs.declared.split.Split.{Split}
use Rattle.text_scan.specs.declared.split.Split.TheVariants.{One, Two, Stops}
use Rattle.text_refusals.specs.declared.verdicts.Reason.{Reason}
use Rattle.text_refusals.specs.declared.verdicts.Reason.TheVariants.{Long, Grammar, Fields, Terms, Limits, Linear, Variable, Unknown}
use Rattle.text_refusals.specs.verdicts.Verdicts.{Verdict, Accepted, Refused}

-- what the right side's own verdict says: 6 is none there, and the side begins at place d
abbrev pub right_by : ℕ → Reason → ℕ → Verdict
right_by d Long p = Refused Long (d + p)
right_by d Grammar p = Refused Grammar (d + p)
right_by d Fields p = Refused Fields (d + p)
right_by d Terms p = Refused Terms (d + p)
right_by d Limits p = Refused Limits (d + p)
right_by d Linear p = Accepted
right_by d Variable p = Refused Variable (d + p)
right_by d Unknown p = Refused Unknown (d + p)

abbrev pub right_of : ℕ → Verdict → Verdict
right_of d (Ok u) = Accepted
right_of d (Err e) = right_by d e.reason e.place

-- refusal 10, at a place of the right side
abbrev pub unknown_of : ℕ → Option ℕ → Verdict
unknown_of d (Some q) = Refused Unknown (d + q)
unknown_of d None = Accepted

-- a refusal's place is not beyond n
abbrev pub PlacedIn : ℕ → Verdict → Type 0
PlacedIn n (Ok u) = Unit {0}
PlacedIn n (Err e) = e.place ≤ n

abbrev pub FoundIn : ℕ → Option ℕ → Type 0
FoundIn n (Some q) = q ≤ n
FoundIn n None = Unit {0}

-- how many bytes the left side of a text of n bytes has
abbrev pub end_of : ℕ → Split → ℕ
end_of n (Stops p) = 0
end_of n One = n
end_of n (Two p) = p
