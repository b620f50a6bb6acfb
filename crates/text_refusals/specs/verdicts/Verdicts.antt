-- What is said of a text, in the documents' numbers.
use Rattle.std.specs.Prelude.{ℕ, cond, ltb, [], ◌∷◌, Result, Ok, Err}
use Rattle.std.proofs.Math.Option.{none, some}
use Rattle.text_grammar.specs.Told.{Told}
use Rattle.text_grammar.specs.Read.{rule, slip, OutcomeOf, refused, accepted}
use Rattle.text_grammar.specs.Read as read
use Rattle.text_refusals.specs.declared.Sort.{Sort}
use Rattle.text_refusals.specs.declared.Sort.TheVariants.{Rule, Slip}
use Rattle.text_refusals.specs.declared.verdicts.Reason.{Reason}
use Rattle.text_refusals.specs.declared.verdicts.Reason.TheVariants.{Long, Grammar, Fields, Terms, Limits, Linear, Variable, Unknown}
use Rattle.text_refusals.specs.declared.verdicts.Refusal.{Refusal}

-- accepted, or refused for a reason at a place
abbrev pub Verdict : Type 0
Verdict = Result (Unit {0}) Refusal

abbrev pub Accepted : Verdict
Accepted = Ok tt

abbrev pub Refused : Reason → ℕ → Verdict
Refused r p = Err (record { reason = r; place = p })

-- whether a rule or a slip is read
abbrev pub sort_of : Sort → read.Sort
sort_of Slip = slip
sort_of Rule = rule

abbrev pub reason_from : read.Reason → Reason
reason_from read.long = Long
reason_from read.grammar = Grammar
reason_from read.fields = Fields
reason_from read.terms = Terms
reason_from read.limits = Limits
reason_from read.linear = Linear
reason_from read.variable = Variable
reason_from read.unknown = Unknown

-- the documents' number of a refusal
abbrev pub number_of : Reason → ℕ
number_of Long = 1
number_of Grammar = 2
number_of Fields = 3
number_of Terms = 4
number_of Limits = 5
number_of Linear = 6
number_of Variable = 7
number_of Unknown = 10

-- what is told of a text, in document 01's number and values. "A refusal returns its number, its place"
abbrev pub told : Verdict → Told
told (Ok u) = record { number = none; values = [] }
told (Err e) = record { number = some (number_of e.reason); values = e.place ∷ [] }

-- refused by the number of r, at p; and not refused
abbrev pub refusal : read.Reason → ℕ → Told
refusal r p = record { number = some (read.number r); values = p ∷ [] }

abbrev pub no_refusal : Told
no_refusal = record { number = none; values = [] }

abbrev pub verdict_of : {X : Type 0} → OutcomeOf X → Verdict
verdict_of (refused r p) = Refused (reason_from r) p
verdict_of (accepted x) = Accepted

-- the refusal that is tried first, which is the one of the lower number; the former's where both are for the same reason
abbrev pub first_of : Verdict → Verdict → Verdict
first_of (Ok u) v = v
first_of (Err x) (Ok u) = Err x
first_of (Err x) (Err y) = cond (ltb (number_of y.reason) (number_of x.reason)) (Err y) (Err x)
