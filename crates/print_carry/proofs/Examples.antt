-- Lines and their answers, computed from the definitions.
use Prim.Native.String.{String}
use mathlib.Core.Path.{◌≡◌, refl}
use mathlib.Core.List.{List, [], ◌∷◌, ◌++◌, map}
use Prim.Native.Nat.{ℕ}
use native.Mathlib.Decide.{ℕ_discrete, dec_le, dec_lt}
use lib.ListN.{replicate}
use Rattle.base_lists.specs.Seqs.{any?, all?}
use Rattle.base_bytes.specs.Bytes.{index_after, index_of}
use Rattle.text_grammar.specs.Ascii.{ascii, newline}
use Rattle.text_grammar.specs.Bytes.{digit?, begins, follows, first, holds}
use Rattle.text_grammar.specs.Tokens.{fifth?, many?, over?, clash?, clash_of?}
use Rattle.text_grammar.specs.rules.Tokens.{occurs?, has?}
use Rattle.print_carry.specs.Carry.{line_text, carry_answer}

-- a line and what is said of it
pub record Case : Type 0 where
  pub line : String
  pub said : String

abbrev table : List Case
table =
    record { line = "a0:l0=>l0:a0\t1:2:3"; said = "yes 2:3:1" } ∷
    -- a list variable of the left side may recur on the right, and share a field; its value may have no terms
    record { line = "l0=>l0:9:l0|empty\tempty"; said = "yes 9|empty" } ∷
    -- a result has as many fields as the right side
    record { line = "i0|s0=>s0\t007|\"a\""; said = "yes \"a\"" } ∷
    -- 66 terms in a field of the result: refusal 11, and the slip
    record {
      line = "i0:l0=>l0:l0:i0:i0\t01:1:1:1:1:1:1:1:1:1:1:1:1:1:1:1:1:1:1:1:1:1:1:1:1:1:1:1:1:1:1:1:1";
      said = "refusal 11 1:1:1:1:1:1:1:1:1:1:1:1:1:1:1:1:1:1:1:1:1:1:1:1:1:1:1:1:1:1:1:1:1";
    } ∷
    -- no match, and no right side: the slip, in plain text
    record { line = "1=>2\t007"; said = "no 7" } ∷
    record { line = "i0:l0\t007:empty"; said = "no 7" } ∷
    -- the rule's refusal goes before the slip's
    record { line = "i0=>a0\t1=>1"; said = "refused rule 10 at 4" } ∷
    record { line = "1=>2\t2=>3"; said = "refused slip 2 at 1" } ∷
    record { line = "1=>2\ti0"; said = "refused slip 7 at 0" } ∷
    -- the first tab divides, and a line without one has an empty slip
    record { line = "1=>2\t1\t1"; said = "refused slip 2 at 1" } ∷
    record { line = "1=>2"; said = "refused slip 2 at 0" } ∷
    record { line = ""; said = "refused rule 2 at 0" } ∷
    []

pub lines_said : map (λ (c : Case). line_text (ascii c.line)) table ≡ map (λ (c : Case). ascii c.said) table
unfolding line_text index_after index_of dec_le dec_lt ℕ_discrete digit? begins follows first holds fifth? many? over? any? clash? clash_of? occurs? has? all?
lines_said = refl

-- a line of as many bytes as it may have is read, and one of one more is not
pub long_lines : map line_text (replicate 12289 49 ∷ replicate 12290 49 ∷ []) ≡ ascii "refused rule 1 at 4096" ∷ ascii "line too long" ∷ []
unfolding line_text index_after index_of dec_le dec_lt ℕ_discrete digit? begins follows first holds fifth? many? over? any? clash? clash_of? occurs? has?
long_lines = refl

pub two_lines : (t : List ℕ) → carry_answer 12 t ≡ ascii "carry 12" ++ newline ++ line_text t ++ newline
unfolding carry_answer dec_lt
two_lines t = refl
