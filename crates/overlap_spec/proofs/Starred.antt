-- Document 01's starred pairs, "shown as theorems about the definitions, all by one statement on a table of them": texts in, lines out,
-- through reading and listing as defined. And document 02's minus amounts in the same way.
use mathlib.Core.Path.{◌≡◌, refl}
use mathlib.Core.List.{List, [], ◌∷◌, ◌++◌, map}
use Prim.Native.Nat.{ℕ}
use Prim.Native.String.{String}
use native.Mathlib.Decide.{ℕ_discrete, dec_le, dec_lt}
use Rattle.base_lists.specs.Seqs.{any?}
use Rattle.text_grammar.specs.Bytes.{digit?, begins, follows, first, holds}
use Rattle.text_grammar.specs.Tokens.{fifth?, many?, over?, clash?, clash_of?}
use Rattle.text_grammar.specs.Ascii.{ascii, newline}
use Rattle.text_grammar.specs.Read.{Outcome, refused, accepted, read_side}
use Rattle.overlap_spec.specs.Overlaps.{overlap_text}

-- the list of two texts' rules; nothing, if one is refused
abbrev listed : Outcome → Outcome → List ℕ
listed (refused r p) o = []
listed (accepted x) (refused r p) = []
listed (accepted x) (accepted y) = overlap_text x y

abbrev Case : Type 0
Case = record { left : String; right : String; lines : List String }

abbrev printed : List String → List ℕ
printed [] = []
printed (l ∷ ls) = ascii l ++ newline ++ printed ls

abbrev starred_pairs : List Case
starred_pairs =
    record { left = "a0:l0"; right = "l0:2"; lines = "2 <a0=2 <l0=empty >l0=empty" ∷ "a0:l0:2 <a0=a0 <l0=l0:2 >l0=a0:l0" ∷ [] } ∷
    record { left = "l0"; right = "l0"; lines = "l0 <l0=l0 >l0=l0" ∷ [] } ∷
    record { left = "empty"; right = "empty"; lines = "empty" ∷ [] } ∷
    record { left = "i0"; right = "2:l0"; lines = "2 <i0=2 >l0=empty" ∷ [] } ∷
    record { left = "i0"; right = "s0"; lines = [] } ∷
    record { left = "1:2:l0"; right = "l0:2:3"; lines = "1:2:3 <l0=3 >l0=1" ∷ "1:2:l0:2:3 <l0=l0:2:3 >l0=1:2:l0" ∷ [] } ∷
    record { left = "a0|a0"; right = "1|\"m\""; lines = [] } ∷
    record { left = "i0|i0:l0"; right = "3|a0"; lines = "3|3 <i0=3 <l0=empty >a0=3" ∷ [] } ∷
    record { left = "a0:a0"; right = "i0:l0"; lines = "i0:i0 <a0=i0 >i0=i0 >l0=i0" ∷ [] } ∷
    record { left = "a0:a0"; right = "1:\"1\""; lines = [] } ∷ []

-- the lists of the pairs are the lines beside them
abbrev Listed : List Case → Type 0
Listed cs = map (λ (c : Case). listed (read_side (ascii c.left)) (read_side (ascii c.right))) cs ≡ map (λ (c : Case). printed c.lines) cs

pub starred : Listed starred_pairs
unfolding dec_le dec_lt ℕ_discrete digit? begins follows first holds fifth? many? over? any? clash? clash_of?
starred = refl

abbrev minus_pairs : List Case
minus_pairs =
    record { left = "i0:l0"; right = "l0:-2"; lines = "-2 <i0=-2 <l0=empty >l0=empty" ∷ "i0:l0:-2 <i0=i0 <l0=l0:-2 >l0=i0:l0" ∷ [] } ∷
    record { left = "-0"; right = "0"; lines = "0" ∷ [] } ∷
    record { left = "a0:a0"; right = "-1:1"; lines = [] } ∷
    record { left = "-007"; right = "-7"; lines = "-7" ∷ [] } ∷
    record { left = "a0"; right = "-2147483648"; lines = "-2147483648 <a0=-2147483648" ∷ [] } ∷
    record { left = "s0"; right = "-1"; lines = [] } ∷ []

pub minus : Listed minus_pairs
unfolding dec_le dec_lt ℕ_discrete digit? begins follows first holds fifth? many? over? any? clash? clash_of?
minus = refl
