-- Lines and their answers, computed from the definitions.
use Prim.Native.String.{String}
use mathlib.Core.Path.{◌≡◌, refl}
use mathlib.Core.List.{List, [], ◌∷◌, ◌++◌, map}
use Prim.Native.Nat.{ℕ}
use native.Mathlib.Decide.{ℕ_discrete, dec_le, dec_lt}
use lib.ListN.{replicate}
use Rattle.base_lists.specs.Seqs.{any?}
use Rattle.base_bytes.specs.Bytes.{index_after, index_of}
use Rattle.text_grammar.specs.Ascii.{ascii, newline}
use Rattle.text_grammar.specs.Bytes.{digit?, begins, follows, first, holds}
use Rattle.text_grammar.specs.Tokens.{fifth?, many?, over?, clash?, clash_of?}
use Rattle.text_grammar.specs.rules.Tokens.{occurs?, has?}
use Rattle.print_pairs.specs.overlaps.Texts.{listed_text}
use Rattle.print_pairs.specs.Pairs.{line_text, pair_answer}

-- a line and what is said of it
pub record Case : Type 0 where
  pub line : String
  pub said : List String

abbrev printed : List String → List ℕ
printed [] = []
printed (l ∷ ls) = ascii l ++ newline ++ printed ls

abbrev table : List Case
table =
    record { line = "a0:l0\tl0:2"; said = "2 <a0=2 <l0=empty >l0=empty" ∷ "a0:l0:2 <a0=a0 <l0=l0:2 >l0=a0:l0" ∷ [] } ∷
    -- no overlaps, no lines
    record { line = "i0\ts0"; said = [] } ∷
    record { line = "l0\tl0|l1"; said = [] } ∷
    -- the left rule's refusal goes before the right one's
    record { line = "l0:l1\ti01"; said = "refused left 6 at 3" ∷ [] } ∷
    record { line = "1\ti01"; said = "refused right 2 at 2" ∷ [] } ∷
    -- the first tab divides, and a line without one has an empty right rule
    record { line = "1\t1\t1"; said = "refused right 2 at 1" ∷ [] } ∷
    record { line = "i0"; said = "refused right 2 at 0" ∷ [] } ∷
    record { line = ""; said = "refused left 2 at 0" ∷ [] } ∷
    -- the overlaps of rules with right sides are those of their left sides
    record { line = "a0:l0=>l0:l0|a0\tl0:2=>1"; said = "2 <a0=2 <l0=empty >l0=empty" ∷ "a0:l0:2 <a0=a0 <l0=l0:2 >l0=a0:l0" ∷ [] } ∷
    record { line = "i0=>1|2\ti0"; said = "i0 <i0=i0 >i0=i0" ∷ [] } ∷
    -- a right side is refused too, by a number of two digits where its variable is no variable of the left side
    record { line = "i0=>i0:s0\t1"; said = "refused left 10 at 7" ∷ [] } ∷
    record { line = "1\t1=>1|1|1|1|1"; said = "refused right 3 at 11" ∷ [] } ∷
    []

pub lines_said : map (λ (c : Case). line_text (ascii c.line)) table ≡ map (λ (c : Case). printed c.said) table
unfolding line_text index_after index_of dec_le dec_lt ℕ_discrete digit? begins follows first holds fifth? many? over? any? clash? clash_of? occurs? has?
lines_said = refl

-- a line of as many bytes as it may have is read, and one of one more is not
pub long_lines : map line_text (replicate 8193 49 ∷ replicate 8194 49 ∷ []) ≡ printed ("refused left 1 at 4096" ∷ []) ∷ printed ("line too long" ∷ []) ∷ []
unfolding line_text index_after index_of dec_le dec_lt ℕ_discrete digit? begins follows first holds fifth? many? over? any? clash? clash_of? occurs? has?
long_lines = refl

-- a list of one byte more than it may have is too long
pub long_lists : listed_text (replicate 65537 49) ≡ printed ("too long 65537" ∷ [])
unfolding dec_le dec_lt ℕ_discrete digit?
long_lists = refl

-- document 01's input of two lines, and what it "prints, whole"
pub the_example : pair_answer 1 (ascii "a0:l0\tl0:2") ++ pair_answer 2 (ascii "i0\ts0")
    ≡ printed ("pair 1" ∷ "2 <a0=2 <l0=empty >l0=empty" ∷ "a0:l0:2 <a0=a0 <l0=l0:2 >l0=a0:l0" ∷ "pair 2" ∷ [])
unfolding pair_answer line_text index_after index_of dec_le dec_lt ℕ_discrete digit? begins follows first holds fifth? many? over? any? clash? clash_of? occurs? has?
the_example = refl

pub two_digits : pair_answer 12 (ascii "i0\t5") ≡ printed ("pair 12" ∷ "5 <i0=5" ∷ [])
unfolding pair_answer line_text index_after index_of dec_le dec_lt ℕ_discrete digit? begins follows first holds fifth? many? over? any? clash? clash_of? occurs? has?
two_digits = refl
