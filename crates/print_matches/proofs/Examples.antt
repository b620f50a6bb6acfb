-- Lines and their answers, computed from the definitions.
use Prim.Native.String.{String}
use mathlib.Core.Path.{◌≡◌, refl}
use mathlib.Core.List.{List, [], ◌∷◌, ◌++◌, map}
use native.Mathlib.Decide.{ℕ_discrete, dec_le, dec_lt}
use lib.ListN.{replicate}
use Rattle.base_lists.specs.Seqs.{any?}
use Rattle.base_bytes.specs.Bytes.{index_after, index_of}
use Rattle.text_grammar.specs.Ascii.{ascii, newline}
use Rattle.text_grammar.specs.Bytes.{digit?, begins, follows, first, holds}
use Rattle.text_grammar.specs.Tokens.{fifth?, many?, over?, clash?, clash_of?}
use Rattle.text_grammar.specs.rules.Tokens.{occurs?, has?}
use Rattle.print_matches.specs.Matches.{texts_text, line_text, match_answer}

-- a line and what is said of it
pub record Case : Type 0 where
  pub line : String
  pub said : String

abbrev table : List Case
table =
    record { line = "7:i0:l0|\"matt white\"\t7:3:\"a\":4|\"matt white\""; said = "yes 3 i0=3 l0=\"a\":4" } ∷
    -- a list variable's value may have no terms
    record { line = "7:i0:l0|\"matt white\"\t7:3|\"matt white\""; said = "yes 3 i0=3 l0=empty" } ∷
    record { line = "7:i0:l0|\"matt white\"\t7:\"x\"|\"matt white\""; said = "no 2" } ∷
    -- the order i, s, a, l and then by number, whatever the rule's
    record { line = "l0:a1|i10:i2|l1:s0|a0\t1:2|007:8|\"s\"|\"\""; said = "yes 5 i2=8 i10=7 s0=\"s\" a0=\"\" a1=2 l0=1 l1=empty" } ∷
    -- a variable that occurs twice is shown once
    record { line = "a0:a0|l3\t1:1|2:3"; said = "yes 2 a0=1 l3=2:3" } ∷
    record { line = "a0:a0|l3\t1:2|2:3"; said = "no 2" } ∷
    record { line = "1:l0:2|s0\t1:5:6:7:2|\"=\""; said = "yes 3 s0=\"=\" l0=5:6:7" } ∷
    record { line = "empty\tempty"; said = "yes 0" } ∷
    record { line = "1|2\t1"; said = "no 0" } ∷
    -- a list variable is no atom; the count runs on over the fields, with the failing item; a field whose length fails compares nothing
    record { line = "1:l0:2\t1:5:3"; said = "no 2" } ∷
    record { line = "i0|s0:3\t1|\"q\":4"; said = "no 3" } ∷
    record { line = "i0|s0\t1|\"q\":4"; said = "no 1" } ∷
    -- a rule with a right side matches by its left side; refusal 10 is the rule's
    record { line = "i0:l0=>l0:l0|i0\t1:2"; said = "yes 1 i0=1 l0=2" } ∷
    record { line = "i0=>i0\t\"a\""; said = "no 1" } ∷
    record { line = "i0=>a0\t1=>1"; said = "refused rule 10 at 4" } ∷
    record { line = "i0=>i0\t1=>1"; said = "refused slip 2 at 1" } ∷
    -- the rule's refusal goes before the slip's
    record { line = "l0:l1\ti0"; said = "refused rule 6 at 3" } ∷
    record { line = "1\ti0"; said = "refused slip 7 at 0" } ∷
    -- the first tab divides, and a line without one has an empty slip
    record { line = "1\t1\t1"; said = "refused slip 2 at 1" } ∷
    record { line = "i0"; said = "refused slip 2 at 0" } ∷
    record { line = ""; said = "refused rule 2 at 0" } ∷
    []

pub lines_said : map (λ (c : Case). line_text (ascii c.line)) table ≡ map (λ (c : Case). ascii c.said) table
unfolding line_text texts_text index_after index_of dec_le dec_lt ℕ_discrete digit? begins follows first holds fifth? many? over? any? clash? clash_of? occurs? has?
lines_said = refl

-- a line of as many bytes as it may have is read, and one of one more is not
pub long_lines : map line_text (replicate 12289 49 ∷ replicate 12290 49 ∷ []) ≡ ascii "refused rule 1 at 4096" ∷ ascii "line too long" ∷ []
unfolding line_text texts_text index_after index_of dec_le dec_lt ℕ_discrete digit? begins follows first holds fifth? many? over? any? clash? clash_of? occurs? has?
long_lines = refl

pub two_lines : match_answer 12 (ascii "i0\t5") ≡ ascii "match 12" ++ newline ++ ascii "yes 1 i0=5" ++ newline
unfolding match_answer line_text texts_text index_after index_of dec_le dec_lt ℕ_discrete digit?
    begins follows first holds fifth? many? over? any? clash? clash_of? occurs? has?
two_lines = refl
