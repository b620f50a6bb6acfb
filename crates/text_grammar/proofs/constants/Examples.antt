-- Rules against slips, as texts: the answer and how many items are compared, computed from the definitions.
use Prim.Native.Nat.{ℕ}
use Prim.Native.String.{String}
use mathlib.Core.Path.{◌≡◌, refl}
use mathlib.Core.Option
use mathlib.Core.Option.{Option, none, some}
use mathlib.Core.List.{List, [], ◌∷◌, map}
use native.Mathlib.Decide.{ℕ_discrete, dec_le, dec_lt}
use Rattle.base_lists.specs.Seqs.{any?}
use Rattle.math_types.specs.Types.{Kind}
use Rattle.math_terms.specs.Terms.{con}
use Rattle.math_terms.specs.Fillings.{Filling, value}
use Rattle.text_grammar.specs.Bytes.{digit?, begins, follows, first, holds}
use Rattle.text_grammar.specs.Tokens.{fifth?, many?, over?, clash?, clash_of?}
use Rattle.text_grammar.specs.Terms.{OurFields, SlipFields}
use Rattle.text_grammar.specs.constants.Constants.{Con}
use Rattle.text_grammar.specs.Read.{Outcome, refused, accepted, read_side, read_slip}
use Rattle.text_grammar.specs.Plain.{plain}
use Rattle.text_grammar.proofs.Examples.{bytes}
use Rattle.text_grammar.specs.constants.Matching.{constants, matcher, compared}

abbrev fields : Outcome → OurFields
fields (refused r p) = []
fields (accepted r) = r

abbrev rule_of : String → OurFields
rule_of t = fields (read_side (bytes t))

abbrev slip_of : String → SlipFields
slip_of t = map constants (fields (read_slip (bytes t)))

-- the values of the variables of a field, each as a field's text
abbrev shown : OurFields → Filling Con Kind ℕ → List ℕ
shown [] φ = []
shown (f ∷ fs) φ = plain (map (λ t. map con (value φ t)) f)

-- how many items were compared, and the values, if it is a yes
pub data Answer : Type 0 where
  fails : ℕ → Answer
  fills : ℕ → List ℕ → Answer

abbrev matches : ℕ → String → Answer
matches n t = fills n (bytes t)

abbrev answer : ℕ → Option (List ℕ) → Answer
answer n none = fails n
answer n (some t) = fills n t

-- a rule, a slip, variables whose values are shown, and the answer
pub record Case : Type 0 where
  pub rule : String
  pub slip : String
  pub variables : String
  pub answers : Answer

abbrev match : Case → Answer
match c = answer (compared (rule_of c.rule) (slip_of c.slip)) (Option.map (shown (rule_of c.variables)) (matcher (rule_of c.rule) (slip_of c.slip)))

abbrev table : List Case
table =
    -- a variable met again has its earlier value
    record { rule = "a0:a0"; slip = "1:1"; variables = "a0"; answers = matches 2 "1" } ∷
    record { rule = "a0:a0"; slip = "1:\"1\""; variables = "a0"; answers = fails 2 } ∷
    record { rule = "a0:a0"; slip = "007:7"; variables = "a0"; answers = matches 2 "7" } ∷
    -- integers are equal by their values, signs and all
    record { rule = "a0:a0"; slip = "-1:1"; variables = "a0"; answers = fails 2 } ∷
    record { rule = "a0:a0"; slip = "-0:0"; variables = "a0"; answers = matches 2 "0" } ∷
    record { rule = "i0:-7"; slip = "-7:-007"; variables = "i0"; answers = matches 2 "-7" } ∷
    record { rule = "7"; slip = "-7"; variables = "i0"; answers = fails 1 } ∷
    -- a list variable may take no terms
    record { rule = "i0:l0"; slip = "3"; variables = "i0:l0"; answers = matches 1 "3|empty" } ∷
    record { rule = "l0:2"; slip = "2"; variables = "l0"; answers = matches 1 "empty" } ∷
    record { rule = "l0:2"; slip = "1:2:2"; variables = "l0"; answers = matches 1 "1:2" } ∷
    record { rule = "1:l0:a0"; slip = "1:2:3:\"b\""; variables = "l0:a0"; answers = matches 2 "2:3|\"b\"" } ∷
    -- variables that the rule lacks are blank
    record { rule = "a0"; slip = "1"; variables = "a0:s0:l0"; answers = matches 1 "1|empty|empty" } ∷
    -- an item of the wrong type, and a field of the wrong length
    record { rule = "s0"; slip = "1"; variables = "s0"; answers = fails 1 } ∷
    record { rule = "i0:i1"; slip = "1"; variables = "i0"; answers = fails 0 } ∷
    record { rule = "1:l0:2"; slip = "1"; variables = "l0"; answers = fails 0 } ∷
    record { rule = "empty"; slip = "1"; variables = "l0"; answers = fails 0 } ∷
    record { rule = "empty"; slip = "empty"; variables = "l0"; answers = matches 0 "empty" } ∷
    -- different field counts
    record { rule = "l0"; slip = "1|2"; variables = "l0"; answers = fails 0 } ∷
    record { rule = "l0|l1"; slip = "1"; variables = "l0"; answers = fails 0 } ∷
    -- a variable shared by two fields
    record { rule = "i0|i0:l0"; slip = "3|3:4"; variables = "i0:l0"; answers = matches 2 "3|4" } ∷
    record { rule = "i0|i0:l0"; slip = "3|4:3"; variables = "i0:l0"; answers = fails 2 } ∷
    -- the tests end at the first that fails
    record { rule = "1:2:3|4"; slip = "1:9:3|4"; variables = "i0"; answers = fails 2 } ∷
    record { rule = "1:2|i0:i1|3"; slip = "1:2|5|3"; variables = "i0"; answers = fails 2 } ∷
    []

pub examples : map match table ≡ map (λ (c : Case). c.answers) table
unfolding bytes dec_le dec_lt ℕ_discrete digit? begins follows first holds fifth? many? over? any? clash? clash_of?
examples = refl
