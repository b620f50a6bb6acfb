-- Document 02's cases of carrying out, computed from the definitions: the texts are read, and the answer is written as text.
use mathlib.Core.Path.{◌≡◌, refl}
use mathlib.Core.Bool.{false}
use mathlib.Core.List.{List, [], ◌∷◌, map}
use Prim.Native.Nat.{ℕ}
use Prim.Native.String.{String}
use native.Mathlib.Decide.{ℕ_discrete, dec_le, dec_lt}
use lib.ListN.{length, replicate}
use Rattle.base_lists.specs.Seqs.{all?, any?}
use Rattle.math_terms.specs.Terms.{con}
use Rattle.text_grammar.specs.Terms.{SlipFields}
use Rattle.text_grammar.specs.Ascii.{ascii}
use Rattle.text_grammar.specs.Bytes.{digit?, begins, follows, first, holds}
use Rattle.text_grammar.specs.Tokens.{fifth?, many?, over?, clash?, clash_of?}
use Rattle.text_grammar.specs.constants.Constants.{int}
use Rattle.text_grammar.specs.Read.{OutcomeOf, Outcome, refused, accepted, read_slip}
use Rattle.text_grammar.specs.Plain.{plain}
use Rattle.text_grammar.specs.constants.Matching.{constants}
use Rattle.text_grammar.specs.rules.Tokens.{occurs?, has?}
use Rattle.text_grammar.specs.rules.Read.{OurRule, read_rule}
use Rattle.apply_spec.specs.Carrying.{Carried, result, unmatched, too_long}
use Rattle.apply_spec.specs.Rules.{carried}

-- a rule, a slip, and the answer: the result, `no` or `11`
abbrev Case : Type 0
Case = record { rule : String; slip : String; answer : String }

abbrev answer_text : Carried SlipFields → List ℕ
answer_text (result s) = plain (map (map con) s)
answer_text unmatched = ascii "no"
answer_text too_long = ascii "11"

abbrev carry_read : OutcomeOf OurRule → Outcome → List ℕ
carry_read (refused q p) o = ascii "refused rule"
carry_read (accepted r) (refused q p) = ascii "refused slip"
carry_read (accepted r) (accepted w) = answer_text (carried r (map constants w))

abbrev carry_case : Case → List ℕ
carry_case c = carry_read (read_rule (ascii c.rule)) (read_slip (ascii c.slip))

abbrev cases : List Case
cases =
    -- the right side with the filling put in, also where a list variable takes nothing
    record { rule = "l0=>l0:9|empty"; slip = "empty"; answer = "9|empty" } ∷
    record { rule = "a0|l0=>l0|a0"; slip = "1|2:\"x\""; answer = "2:\"x\"|1" } ∷
    record { rule = "i0=>i0"; slip = "007"; answer = "7" } ∷
    record { rule = "i0:s0=>1"; slip = "2:\"\""; answer = "1" } ∷
    -- "its list variables may recur and share a field"
    record { rule = "l0=>l0:l0|l0"; slip = "1:2"; answer = "1:2:1:2|1:2" } ∷
    record { rule = "i0:l0=>l0:l0:i0"; slip = "1:2:3"; answer = "2:3:2:3:1" } ∷
    -- an arrow in a string is none
    record { rule = "\"=>\"=>1"; slip = "\"=>\""; answer = "1" } ∷
    record { rule = "\"=>\""; slip = "\"=>\""; answer = "no" } ∷
    -- no match, by a type, by a value met again, by the field count
    record { rule = "s0=>s0"; slip = "1"; answer = "no" } ∷
    record { rule = "a0:a0=>a0"; slip = "1:2"; answer = "no" } ∷
    record { rule = "l0=>l0"; slip = "1|2"; answer = "no" } ∷
    -- without a right side, although it matches
    record { rule = "l0"; slip = "1"; answer = "no" } ∷
    -- 10 goes by letter and number, and a slip's grammar has no arrow
    record { rule = "i0=>a0"; slip = "1"; answer = "refused rule" } ∷
    record { rule = "l0=>1"; slip = "2=>3"; answer = "refused slip" } ∷ []

pub carry_cases : map carry_case cases ≡ map (λ (c : Case). ascii c.answer) cases
unfolding dec_le dec_lt ℕ_discrete digit? begins follows first holds fifth? many? over? any? clash? clash_of? occurs? has? all?
carry_cases = refl

-- ---- 64 items and 65

pub data Said : Type 0 where
  lengths : List ℕ → Said
  said_no : Said
  said_11 : Said

-- how many items the result's fields have
abbrev said : Carried SlipFields → Said
said (result s) = lengths (map length s)
said unmatched = said_no
said too_long = said_11

-- a rule that is refused says none of the answers below
abbrev on_items : OutcomeOf OurRule → ℕ → Said
on_items (refused q p) n = lengths []
on_items (accepted r) n = said (carried r (replicate n (int false 0) ∷ []))

-- a rule, how many items the slip's one field has, and the answer
abbrev Edge : Type 0
Edge = record { rule : String; items : ℕ; answer : Said }

abbrev edges : List Edge
edges =
    record { rule = "l0=>l0"; items = 64; answer = lengths (64 ∷ []) } ∷
    record { rule = "l0=>l0"; items = 65; answer = said_11 } ∷
    record { rule = "l0=>l0:0"; items = 63; answer = lengths (64 ∷ []) } ∷
    record { rule = "l0=>l0:0"; items = 64; answer = said_11 } ∷
    -- every field is looked at
    record { rule = "l0=>1|l0:l0"; items = 32; answer = lengths (1 ∷ 64 ∷ []) } ∷
    record { rule = "l0=>1|l0:l0"; items = 33; answer = said_11 } ∷
    -- the result's fields alone
    record { rule = "l0=>1"; items = 65; answer = lengths (1 ∷ []) } ∷
    -- without a right side there is no result to be too long
    record { rule = "l0"; items = 65; answer = said_no } ∷ []

pub carry_edges : map (λ (c : Edge). on_items (read_rule (ascii c.rule)) c.items) edges ≡ map (λ (c : Edge). c.answer) edges
unfolding dec_le dec_lt ℕ_discrete digit? begins follows first holds fifth? many? over? any? clash? clash_of? occurs? has? all?
carry_edges = refl
