-- Document 01's edge cases of reading and writing, computed from the definitions.
use Prim.Native.Nat.{ℕ}
use Prim.Native.String as S
use Prim.Native.String.{String}
use Prim.Native.Char.{code}
use mathlib.Core.Path.{◌≡◌, refl}
use mathlib.Core.Bool.{true, false}
use mathlib.Core.List.{List, [], ◌∷◌, map}
use native.Mathlib.Decide.{ℕ_discrete, dec_le, dec_lt}
use lib.ListN.{replicate, length}
use Rattle.base_lists.specs.Seqs.{any?}
use Rattle.math_types.specs.Order.{basic, list}
use Rattle.math_types.specs.Types.{atom}
use Rattle.math_terms.specs.Terms.{con, var}
use Rattle.text_grammar.specs.Bytes.{digit?, begins, follows, first, holds}
use Rattle.text_grammar.specs.Tokens.{fifth?, many?, over?, clash?, clash_of?}
use Rattle.text_grammar.specs.Terms.{OurTerm}
use Rattle.text_grammar.specs.constants.Constants.{int, str}
use Rattle.text_grammar.specs.Read.{Reason, long, grammar, fields, terms, limits, linear, variable, refused, accepted, read_side, read_slip}
use Rattle.text_grammar.specs.Plain.{plain}

unfoldable pub bytes : String → List ℕ
bytes S.[] = []
bytes (S.◌∷◌ c s) = code c ∷ bytes s

-- an integer from 0 on, and one below 0
abbrev pub whole : ℕ → OurTerm
whole n = con (int false n)

abbrev pub below : ℕ → OurTerm
below n = con (int true n)

pub rules :
    map (λ (t : String). read_side (bytes t)) (
    "2147483647"
    ∷ "2147483648"
    ∷ "0000000000"
    ∷ "00000000000"
    ∷ "\"abcdefghijklmno\""
    ∷ "\"abcdefghijklmnop\""
    ∷ "i01"
    ∷ "l0|l0"
    ∷ "l0:l1"
    ∷ ""
    ∷ "emp"
    ∷ "1:"
    ∷ "i"
    ∷ "\"ab"
    ∷ "\"a\tb\""
    ∷ "a0:a0"
    ∷ "i15:s16"
    ∷ "007|empty:7:empty"
    ∷ "1|2|3|4|5"
    ∷ "0:1:2:3:4:5:6:7:8:9:0:1:2:3:4:5"
    ∷ "0:1:2:3:4:5:6:7:8:9:0:1:2:3:4:5:6"
    ∷ "empty"
    ∷ "1 "
    ∷ "00:99999999999|l0:l0|x"
    ∷ "99999999999|l0:l0"
    ∷ "emptyy"
    ∷ "l10:empty|l1"
    ∷ []
    )
    ≡ accepted ((whole 2147483647 ∷ []) ∷ [])
    ∷ refused limits 0
    ∷ accepted ((whole 0 ∷ []) ∷ [])
    ∷ refused limits 0
    ∷ accepted ((con (str (bytes "abcdefghijklmno")) ∷ []) ∷ [])
    ∷ refused limits 0
    ∷ refused grammar 2
    ∷ refused linear 3
    ∷ refused linear 3
    ∷ refused grammar 0
    ∷ refused grammar 3
    ∷ refused grammar 2
    ∷ refused grammar 1
    ∷ refused grammar 3
    ∷ refused grammar 2
    ∷ accepted ((var (basic atom) 0 ∷ var (basic atom) 0 ∷ []) ∷ [])
    ∷ refused limits 4
    ∷ accepted ((whole 7 ∷ []) ∷ (whole 7 ∷ []) ∷ [])
    ∷ refused fields 8
    ∷ accepted ((whole 0 ∷ whole 1 ∷ whole 2 ∷ whole 3 ∷ whole 4 ∷ whole 5 ∷ whole 6 ∷ whole 7
    ∷ whole 8 ∷ whole 9 ∷ whole 0 ∷ whole 1 ∷ whole 2 ∷ whole 3 ∷ whole 4 ∷ whole 5 ∷ []) ∷ [])
    ∷ refused terms 32
    ∷ accepted ([] ∷ [])
    ∷ refused grammar 1
    ∷ refused grammar 21
    ∷ refused limits 0
    ∷ refused grammar 5
    ∷ accepted ((var list 10 ∷ []) ∷ (var list 1 ∷ []) ∷ [])
    ∷ []
unfolding bytes dec_le dec_lt ℕ_discrete digit? begins follows first holds fifth? many? over? any? clash? clash_of?
rules = refl

pub slips :
    map (λ (t : String). read_slip (bytes t)) ("i16" ∷ "i0" ∷ "l0:l0" ∷ "1:\"i0\":i0" ∷ "empty:1|\"\"" ∷ "l1|l1:2147483648" ∷ "1::i0" ∷ [])
    ≡ refused limits 0 ∷ refused variable 0 ∷ refused variable 0 ∷ refused variable 7
    ∷ accepted ((whole 1 ∷ []) ∷ (con (str []) ∷ []) ∷ []) ∷ refused limits 6 ∷ refused grammar 2 ∷ []
unfolding bytes dec_le dec_lt ℕ_discrete digit? begins follows first holds fifth? many? over? any? clash? clash_of?
slips = refl

-- refusal 1 comes before 2; a text of 4096 bytes is not refused by it
pub long_texts : read_side (replicate 4097 32) ∷ read_side (replicate 4096 48) ∷ read_side (replicate 4096 32) ∷ []
    ≡ refused long 4096 ∷ refused limits 0 ∷ refused grammar 0 ∷ []
unfolding bytes dec_le dec_lt ℕ_discrete digit? begins follows first holds fifth? many? over? any? clash? clash_of?
long_texts = refl

-- plain texts
pub plains :
    map plain (
    ((whole 7 ∷ []) ∷ ([] ∷ []))
    ∷ ((whole 2147483647 ∷ con (str (bytes "a|b")) ∷ var list 31 ∷ []) ∷ [])
    ∷ ((whole 0 ∷ whole 10 ∷ []) ∷ [])
    ∷ ((below 2147483648 ∷ below 7 ∷ []) ∷ [])
    ∷ ([] ∷ [])
    ∷ []
    )
    ≡ map bytes ("7|empty" ∷ "2147483647:\"a|b\":l31" ∷ "0:10" ∷ "-2147483648:-7" ∷ "empty" ∷ [])
unfolding bytes dec_lt
plains = refl

-- the longest texts that are read
pub longest : length (plain (replicate 4 (replicate 16 (con (str (replicate 15 97))))))
    ∷ length (plain (replicate 4 (replicate 64 (con (str (replicate 15 97)))))) ∷ []
    ≡ 1151 ∷ 4607 ∷ []
longest = refl

-- ---- document 02: minus amounts

pub minus_read :
    map (λ (t : String). read_side (bytes t)) ("-2147483648" ∷ "-0" ∷ "-0000000000" ∷ "-12|-3" ∷ "-007" ∷ "\"-\"" ∷ [])
    ≡ accepted ((below 2147483648 ∷ []) ∷ [])
    ∷ accepted ((whole 0 ∷ []) ∷ [])
    ∷ accepted ((whole 0 ∷ []) ∷ [])
    ∷ accepted ((below 12 ∷ []) ∷ (below 3 ∷ []) ∷ [])
    ∷ accepted ((below 7 ∷ []) ∷ [])
    ∷ accepted ((con (str (bytes "-")) ∷ []) ∷ [])
    ∷ []
unfolding bytes dec_le dec_lt ℕ_discrete digit? begins follows first holds fifth? many? over? any? clash? clash_of?
minus_read = refl

-- as a rule's side and as a slip alike
abbrev Refusal : Type 0
Refusal = record { text : String; why : Reason; at : ℕ }

abbrev refusals : List Refusal
refusals =
    record { text = "-"; why = grammar; at = 1 }
    ∷ record { text = "--1"; why = grammar; at = 1 }
    ∷ record { text = "- 1"; why = grammar; at = 1 }
    ∷ record { text = "-a0"; why = grammar; at = 1 }
    ∷ record { text = "-\"a\""; why = grammar; at = 1 }
    ∷ record { text = "-empty"; why = grammar; at = 1 }
    ∷ record { text = "1-2"; why = grammar; at = 1 }
    ∷ record { text = "i-1"; why = grammar; at = 1 }
    ∷ record { text = "a0:-"; why = grammar; at = 4 }
    ∷ record { text = "-1:"; why = grammar; at = 3 }
    ∷ record { text = "-2147483649"; why = limits; at = 0 }
    ∷ record { text = "2147483648"; why = limits; at = 0 }
    ∷ record { text = "-00000000000"; why = limits; at = 0 }
    ∷ record { text = "-02147483648"; why = limits; at = 0 }
    ∷ []

pub minus_refused :
    (map (λ (c : Refusal). read_side (bytes c.text)) refusals ≡ map (λ (c : Refusal). refused c.why c.at) refusals)
    × (map (λ (c : Refusal). read_slip (bytes c.text)) refusals ≡ map (λ (c : Refusal). refused c.why c.at) refusals)
unfolding bytes dec_le dec_lt ℕ_discrete digit? begins follows first holds fifth? many? over? any? clash? clash_of?
minus_refused = (refl, refl)
