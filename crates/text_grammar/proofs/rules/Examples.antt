-- Document 02's cases of rule texts, computed from the definitions.
use mathlib.Core.Path.{◌≡◌, refl}
use mathlib.Core.List.{List, [], ◌∷◌, ◌++◌, map}
use Prim.Native.Nat.{ℕ, zero, suc}
use Prim.Native.String.{String}
use native.Mathlib.Decide.{ℕ_discrete, dec_le, dec_lt}
use lib.ListN.{length, replicate}
use Rattle.base_lists.specs.Seqs.{any?}
use Rattle.math_types.specs.Order.{list}
use Rattle.math_terms.specs.Terms.{con, var}
use Rattle.text_grammar.specs.Ascii.{ascii}
use Rattle.text_grammar.specs.Bytes.{digit?, begins, follows, first, holds}
use Rattle.text_grammar.specs.Tokens.{fifth?, many?, over?, clash?, clash_of?}
use Rattle.text_grammar.specs.constants.Constants.{str}
use Rattle.text_grammar.specs.Read.{Reason, long, grammar, fields, terms, limits, linear, unknown, OutcomeOf, refused, accepted, read_side, read_slip}
use Rattle.text_grammar.proofs.Examples.{whole}
use Rattle.text_grammar.specs.rules.Tokens.{occurs?, has?}
use Rattle.text_grammar.specs.rules.Sides.{joined}
use Rattle.text_grammar.specs.rules.Read.{OurRule, read_rule}
use Rattle.text_grammar.specs.rules.Plain.{plain_both}

-- ---- refusal 2: before a side, behind a side, behind `=`, behind `=>`; a second arrow

abbrev Case : Type 0
Case = record { rule : String; why : Reason; at : ℕ }

abbrev answers_are : List Case → Type 0
answers_are cs = map (λ (c : Case). read_rule (ascii c.rule)) cs ≡ map (λ (c : Case). refused c.why c.at) cs

pub places : answers_are (
    record { rule = ""; why = grammar; at = 0 }
    ∷ record { rule = "=>1"; why = grammar; at = 0 }
    ∷ record { rule = "1="; why = grammar; at = 2 }
    ∷ record { rule = "1=>"; why = grammar; at = 3 }
    ∷ record { rule = "i0=x"; why = grammar; at = 3 }
    ∷ record { rule = "1:=>2"; why = grammar; at = 2 }
    ∷ record { rule = "1=>2=>3"; why = grammar; at = 4 }
    ∷ record { rule = "1=>2="; why = grammar; at = 4 }
    ∷ record { rule = "1=>=>2"; why = grammar; at = 3 }
    ∷ record { rule = "1 =>2"; why = grammar; at = 1 }
    ∷ record { rule = "i=>2"; why = grammar; at = 1 }
    ∷ record { rule = "\"=>1"; why = grammar; at = 4 }
    ∷ record { rule = "1=>2\n"; why = grammar; at = 4 }
    ∷ [])
unfolding dec_le dec_lt ℕ_discrete digit? begins follows first holds fifth? many? over? any? clash? clash_of? occurs? has?
places = refl

-- ---- the order 1, 2, 3, 4, 5, 6, 10, each over the whole text; 6 of the left side only; 10 by letter and number

pub orders : answers_are (
    record { rule = "1|2|3|4|5=>("; why = grammar; at = 11 }
    ∷ record { rule = "1|2|3|4|5=>1|2|3|4|5"; why = fields; at = 8 }
    ∷ record { rule = "1|2|3|4=>1|2|3|4|5"; why = fields; at = 17 }
    ∷ record { rule = "99999999999=>1|2|3|4|5"; why = fields; at = 21 }
    ∷ record { rule = "1=>0:0:0:0:0:0:0:0:0:0:0:0:0:0:0:0:0"; why = terms; at = 35 }
    ∷ record { rule = "l0:l1=>i16"; why = limits; at = 7 }
    ∷ record { rule = "l0:l1=>s1"; why = linear; at = 3 }
    ∷ record { rule = "l0|l0=>l0"; why = linear; at = 3 }
    ∷ record { rule = "i0=>a0"; why = unknown; at = 4 }
    ∷ record { rule = "i0=>i0:i1:a0"; why = unknown; at = 7 }
    ∷ record { rule = "1=>l0:l0"; why = unknown; at = 3 }
    ∷ [])
unfolding dec_le dec_lt ℕ_discrete digit? begins follows first holds fifth? many? over? any? clash? clash_of? occurs? has?
orders = refl

-- refusal 1 comes before 2; a text of 4096 bytes is not refused by it
pub long_texts :
    read_rule (replicate 4097 32) ∷ read_rule (replicate 4096 48) ∷ read_rule (48 ∷ (61 ∷ (62 ∷ replicate 4093 48))) ∷ []
    ≡ refused long 4096 ∷ refused limits 0 ∷ refused limits 3 ∷ []
unfolding dec_le dec_lt ℕ_discrete digit? begins follows first holds fifth? many? over? any? clash? clash_of? occurs? has?
long_texts = refl

-- ---- accepted, and written

abbrev written : OutcomeOf OurRule → List ℕ
written (refused w p) = []
written (accepted w) = plain_both w

pub copies :
    map (λ (t : String). written (read_rule (ascii t)))
    ("\"=>\"=>1" ∷ "l0=>l0:l0|l0" ∷ "007=>empty:empty|empty:08" ∷ "empty=>\"=\":\">\"" ∷ "i0:a0|s15=>s15|a0|i0:i0" ∷ "1:02|l3" ∷ "i0:-007=>-0:i0" ∷ [])
    ≡ map (λ (t : String). ascii t)
    ("\"=>\"=>1" ∷ "l0=>l0:l0|l0" ∷ "7=>empty|8" ∷ "empty=>\"=\":\">\"" ∷ "i0:a0|s15=>s15|a0|i0:i0" ∷ "1:2|l3" ∷ "i0:-7=>0:i0" ∷ [])
unfolding dec_le dec_lt ℕ_discrete digit? begins follows first holds fifth? many? over? any? clash? clash_of? occurs? has?
copies = refl

pub read_values :
    map (λ (t : String). read_rule (ascii t)) ("\"=>\"=>1" ∷ "l0=>l0:l0|l0" ∷ "1" ∷ [])
    ≡ accepted (((con (str (61 ∷ (62 ∷ []))) ∷ []) ∷ []), ((whole 1 ∷ []) ∷ []))
    ∷ accepted (((var list 0 ∷ []) ∷ []), ((var list 0 ∷ var list 0 ∷ []) ∷ (var list 0 ∷ []) ∷ []))
    ∷ accepted (((whole 1 ∷ []) ∷ []), [])
    ∷ []
unfolding dec_le dec_lt ℕ_discrete digit? begins follows first holds fifth? many? over? any? clash? clash_of? occurs? has?
read_values = refl

-- the bound of 2,304 bytes is met: two sides of four fields of 16 strings of 15 bytes

abbrev run_of : ℕ → List ℕ → List ℕ → List ℕ
run_of zero c w = []
run_of (suc n) c w = c ++ (w ++ run_of n c w)

abbrev long_term : List ℕ
long_term = 34 ∷ (replicate 15 97 ++ 34 ∷ [])

abbrev long_field : List ℕ
long_field = long_term ++ run_of 15 (58 ∷ []) long_term

abbrev long_side : List ℕ
long_side = long_field ++ run_of 3 (124 ∷ []) long_field

pub longest : length (joined long_side long_side) ∷ length (written (read_rule (joined long_side long_side))) ∷ [] ≡ 2304 ∷ 2304 ∷ []
unfolding dec_le dec_lt ℕ_discrete digit? begins follows first holds fifth? many? over? any? clash? clash_of? occurs? has?
longest = refl

-- ---- a slip's grammar has no `=>`; and `1=` is refused one byte later than by the grammar of one side, which has no `=` at all

pub slips : read_slip (ascii "2=>3") ∷ read_side (ascii "1=") ∷ [] ≡ refused grammar 1 ∷ refused grammar 1 ∷ []
unfolding dec_le dec_lt ℕ_discrete digit? begins follows first holds fifth? many? over? any? clash? clash_of?
slips = refl
