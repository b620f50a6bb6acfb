-- Figure 8 of document 001, document 01's starred pairs of one field, and some more: texts in, lines out, through reading and searching
-- as defined; "all by one statement on a table of them".
use mathlib.Core.Path.{◌≡◌, refl}
use mathlib.Core.List.{List, [], ◌∷◌, ◌++◌, map}
use Prim.Native.Nat.{ℕ, ◌-◌}
use Prim.Native.String.{String}
use native.Mathlib.Decide.{ℕ_discrete, dec_le, dec_lt}
use Rattle.base_lists.specs.Seqs.{any?}
use Rattle.text_grammar.specs.Bytes.{digit?, begins, follows, first, holds}
use Rattle.text_grammar.specs.Tokens.{fifth?, many?, over?, clash?, clash_of?}
use Rattle.text_grammar.specs.Ascii.{ascii, newline}
use Rattle.text_grammar.specs.Terms.{OurFields}
use Rattle.text_grammar.specs.Read.{Outcome, refused, accepted, read_side}
use Rattle.search_spec.specs.Answers.{Lines, lines, nine, lines_for, bytes_of}

-- the rule that is read, or the one with no fields
abbrev side_in : Outcome → OurFields
side_in (refused r p) = []
side_in (accepted x) = x

abbrev searched : ℕ → String → String → Lines
searched room s t = lines_for room (side_in (read_side (ascii s))) (side_in (read_side (ascii t)))

pub record Case : Type 0 where
  pub left : String
  pub right : String
  -- the fewest records that it takes
  pub needs : ℕ
  pub lines : List String

abbrev printed : List String → List ℕ
printed [] = []
printed (l ∷ ls) = ascii l ++ newline ++ printed ls

abbrev with_newlines : List String → List (List ℕ)
with_newlines ls = map (λ l. ascii l ++ newline) ls

-- with so many records, with one less, and the bytes
abbrev outcome : Case → Lines × Lines × List ℕ
outcome c = (searched c.needs c.left c.right, searched (c.needs - 1) c.left c.right, bytes_of (searched c.needs c.left c.right))

abbrev table : List Case
table =
    -- Figure 8: y : 2 = a : x. Its three unifiers come first, then two of them again
    record {
      left = "l0:2";
      right = "a0:l0";
      needs = 7;
      lines = "<l0=a0 >a0=a0 >l0=2" ∷ "<l0=a0:l0 >a0=a0 >l0=l0:2" ∷ "<l0=empty >a0=2 >l0=empty" ∷ "<l0=a0:l0 >a0=a0 >l0=l0:2" ∷ "<l0=a0 >a0=a0 >l0=2" ∷ [];
    } ∷
    record {
      left = "a0:l0";
      right = "l0:2";
      needs = 7;
      lines = "<a0=a0 <l0=2 >l0=a0" ∷ "<a0=a0 <l0=l0:2 >l0=a0:l0" ∷ "<a0=2 <l0=empty >l0=empty" ∷ "<a0=a0 <l0=l0:2 >l0=a0:l0" ∷ "<a0=a0 <l0=2 >l0=a0" ∷ [];
    } ∷
    record { left = "l0"; right = "l0"; needs = 1; lines = "<l0=l0 >l0=l0" ∷ [] } ∷
    record { left = "empty"; right = "empty"; needs = 1; lines = "" ∷ [] } ∷
    record { left = "i0"; right = "2:l0"; needs = 1; lines = "<i0=2 >l0=empty" ∷ [] } ∷
    record { left = "i0"; right = "s0"; needs = 1; lines = [] } ∷
    record {
      left = "1:2:l0";
      right = "l0:2:3";
      needs = 8;
      lines = "<l0=3 >l0=1" ∷ "<l0=2:3 >l0=1:2" ∷ "<l0=l0:2:3 >l0=1:2:l0" ∷ "<l0=3 >l0=1" ∷ "<l0=l0:2:3 >l0=1:2:l0" ∷ "<l0=2:3 >l0=1:2" ∷ [];
    } ∷
    record { left = "a0:a0"; right = "i0:l0"; needs = 1; lines = "<a0=i0 >i0=i0 >l0=i0" ∷ [] } ∷
    record { left = "a0:a0"; right = "1:\"1\""; needs = 1; lines = [] } ∷
    -- without variables; repeats stay
    record { left = "1:2"; right = "1:2"; needs = 2; lines = "" ∷ "" ∷ "" ∷ [] } ∷
    -- the numbers are those of the whole line
    record { left = "i0:a0"; right = "a0:i0"; needs = 1; lines = "<i0=i0 <a0=i1 >i0=i1 >a0=i0" ∷ [] } ∷
    -- the values stand by the variables' numbers
    record { left = "a12:a3"; right = "a5:a2"; needs = 1; lines = "<a3=a0 <a12=a1 >a2=a0 >a5=a1" ∷ [] } ∷ []

pub starred : map outcome table ≡ map (λ (c : Case). (lines (with_newlines c.lines), nine, printed c.lines)) table
unfolding dec_le dec_lt ℕ_discrete digit? begins follows first holds fifth? many? over? any? clash? clash_of?
starred = refl

-- a field that no reading returns: no lines, and no refusal, even of a row of no records
pub unread : searched 0 "l0:l1" "1" ∷ searched 0 "1" "l0:l1" ∷ [] ≡ lines [] ∷ lines [] ∷ []
unfolding dec_le dec_lt ℕ_discrete digit? begins follows first holds fifth? many? over? any? clash? clash_of?
unread = refl
