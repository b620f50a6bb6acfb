-- Lines and their answers, computed from the definitions.
use Prim.Native.String.{String}
use mathlib.Core.Path.{◌≡◌, refl}
use mathlib.Core.List.{List, [], ◌∷◌, ◌++◌, map}
use Prim.Native.Nat.{ℕ}
use native.Mathlib.Decide.{ℕ_discrete, dec_le, dec_lt}
use lib.ListN.{replicate}
use Rattle.base_lists.specs.Seqs.{any?}
use Rattle.base_bytes.specs.Bytes.{index_after, index_of}
use Rattle.text_grammar.specs.Ascii.{ascii, newline}
use Rattle.text_grammar.specs.Bytes.{digit?, begins, follows, first, holds}
use Rattle.text_grammar.specs.Tokens.{fifth?, many?, over?, clash?, clash_of?}
use Rattle.text_grammar.specs.rules.Tokens.{occurs?, has?}
use Rattle.print_solve.specs.Solve.{line_text, solve_answer}

-- a line and what is said of it
pub record Case : Type 0 where
  pub line : String
  pub said : List String

abbrev printed : List String → List ℕ
printed [] = []
printed (l ∷ ls) = ascii l ++ newline ++ printed ls

abbrev table : List Case
table =
    -- Figure 8 of document 001: it takes a row of 7 records and a room of 118 bytes
    record {
      line = "l0:2\ta0:l0\t007\t118";
      said =
          "refusal 0 lines 5 bytes 118" ∷ "<l0=a0 >a0=a0 >l0=2" ∷ "<l0=a0:l0 >a0=a0 >l0=l0:2"
          ∷ "<l0=empty >a0=2 >l0=empty" ∷ "<l0=a0:l0 >a0=a0 >l0=l0:2" ∷ "<l0=a0 >a0=a0 >l0=2" ∷ [];
    } ∷
    record { line = "l0:2\ta0:l0\t7\t117"; said = "refusal 8 lines 5 bytes 118" ∷ [] } ∷
    record { line = "l0:2\ta0:l0\t6\t117"; said = "refusal 9 lines 0 bytes 0" ∷ [] } ∷
    -- a missing part, an empty one and `-` are as many as there are
    record { line = "2\t2"; said = "refusal 0 lines 2 bytes 2" ∷ "" ∷ "" ∷ [] } ∷
    record { line = "2\t2\t\t"; said = "refusal 0 lines 2 bytes 2" ∷ "" ∷ "" ∷ [] } ∷
    record { line = "2\t2\t-\t1"; said = "refusal 8 lines 2 bytes 2" ∷ [] } ∷
    record { line = "2\t2\t1\t-"; said = "refusal 9 lines 0 bytes 0" ∷ [] } ∷
    -- no rule of one field: no search, even in a row of no records
    record { line = "i0|i0\ti0\t0\t0"; said = "refusal 0 lines 0 bytes 0" ∷ [] } ∷
    record { line = "i0\ti01"; said = "refusal 0 lines 0 bytes 0" ∷ [] } ∷
    record { line = ""; said = "refusal 0 lines 0 bytes 0" ∷ [] } ∷
    -- nor is a rule with a right side, on either side of the search
    record { line = "2=>2\t2\t0\t0"; said = "refusal 0 lines 0 bytes 0" ∷ [] } ∷
    record { line = "2\t2=>2\t0\t0"; said = "refusal 0 lines 0 bytes 0" ∷ [] } ∷
    -- the limits of the sizes, and the order of the faults
    record { line = "i0\ts0\t640\t131072"; said = "refusal 0 lines 0 bytes 0" ∷ [] } ∷
    record { line = "i0\ts0\t641\t131073"; said = "bad row" ∷ [] } ∷
    record { line = "i0\ts0\t640\t131073"; said = "bad room" ∷ [] } ∷
    record { line = "i0\ts0\t+1\t--"; said = "bad row" ∷ [] } ∷
    record { line = "i0\ts0\t\t--"; said = "bad room" ∷ [] } ∷
    record { line = "i0\ts0\tx\tx\t"; said = "bad line" ∷ [] } ∷
    []

pub lines_said : map (λ (c : Case). line_text (ascii c.line)) table ≡ map (λ (c : Case). printed c.said) table
unfolding line_text index_after index_of dec_le dec_lt ℕ_discrete digit? begins follows first holds fifth? many? over? any? clash? clash_of? occurs? has?
lines_said = refl

-- a line of as many bytes as it may have is read, and one of one more is not
pub long_lines : map line_text (replicate 8204 49 ∷ replicate 8205 49 ∷ []) ≡ printed ("refusal 0 lines 0 bytes 0" ∷ []) ∷ printed ("line too long" ∷ []) ∷ []
unfolding line_text index_after index_of dec_le dec_lt ℕ_discrete digit? begins follows first holds fifth? many? over? any? clash? clash_of? occurs? has?
long_lines = refl

pub two_lines : solve_answer 9 (ascii "i0\t2:l0") ++ solve_answer 10 (ascii "i0\ts0")
    ≡ printed ("search 9" ∷ "refusal 0 lines 1 bytes 16" ∷ "<i0=2 >l0=empty" ∷ "search 10" ∷ "refusal 0 lines 0 bytes 0" ∷ [])
unfolding solve_answer line_text index_after index_of dec_le dec_lt ℕ_discrete digit? begins follows first holds fifth? many? over? any? clash? clash_of? occurs? has?
two_lines = refl
