-- Document 02's cases of books, computed from the definitions: the lines are read, and the answer is written as text.
use mathlib.Core.Path.{◌≡◌, refl}
use mathlib.Core.Option.{none, some}
use mathlib.Core.List.{List, [], ◌∷◌, ◌++◌, map}
use Prim.Native.Nat.{ℕ}
use Prim.Native.String.{String}
use native.Mathlib.Decide.{ℕ_discrete, dec_le, dec_lt}
use lib.ListN.{length, replicate}
use Rattle.base_lists.specs.Seqs.{any?}
use Rattle.text_grammar.specs.Ascii.{ascii}
use Rattle.text_grammar.specs.Bytes.{digit?, begins, follows, first, holds}
use Rattle.text_grammar.specs.Tokens.{fifth?, many?, over?, clash?, clash_of?}
use Rattle.text_grammar.specs.Read.{said}
use Rattle.text_grammar.specs.Terms.{OurFields, fields_of}
use Rattle.text_grammar.specs.constants.Matching.{constants}
use Rattle.text_grammar.specs.rules.Tokens.{occurs?, has?}
use Rattle.book_spec.specs.Books.{Book, pick, pick_by, pairs_of, book_text}
use Rattle.book_spec.specs.Reading.{BookRead, stopped, rules, read_book, book_of}

-- ---- pairs

-- what a side's text says, without the limits
abbrev side : String → OurFields
side t = fields_of (said (ascii t))

abbrev sides : List String → Book
sides ts = map side ts

-- `i0` and `s0` are apart, and `a0` overlaps both; two equal rules overlap; a rule with no fields overlaps none
pub book_pairs :
    map pairs_of (sides ("i0" ∷ "s0" ∷ "a0" ∷ []) ∷ sides ("1" ∷ "1" ∷ []) ∷ ([] ∷ [] ∷ sides ("l0" ∷ [])) ∷ sides ("i0" ∷ []) ∷ [] ∷ [])
    ≡ ((0, 2) ∷ (1, 2) ∷ []) ∷ ((0, 1) ∷ []) ∷ [] ∷ [] ∷ [] ∷ []
unfolding dec_le dec_lt ℕ_discrete digit? begins follows first holds any?
book_pairs = refl

-- ---- lines read, and the text of the pairs

-- the text, or a line, a refusal and a place
pub data Answer : Type 0 where
  text : List ℕ → Answer
  refusal : ℕ → ℕ → ℕ → Answer

abbrev answer : BookRead → Answer
answer (stopped k n p) = refusal k n p
answer (rules xs) = text (book_text (book_of xs))

abbrev Case : Type 0
Case = record { lines : List String; said : Answer }

abbrev cases : List Case
cases =
    record { lines = "i0" ∷ "s0" ∷ "a0" ∷ []; said = text (ascii "1 3\n2 3\n") } ∷
    record { lines = "i0=>1" ∷ "i0" ∷ []; said = text (ascii "1 2\n") } ∷
    record { lines = "1|l0" ∷ "1" ∷ "2|l0" ∷ []; said = text [] } ∷
    record { lines = []; said = text [] } ∷
    -- refused lines, the first of them alone
    record { lines = "" ∷ []; said = refusal 1 2 0 } ∷
    record { lines = "i0" ∷ "x" ∷ "" ∷ []; said = refusal 2 2 0 } ∷
    record { lines = "i0" ∷ "i0=>a0" ∷ []; said = refusal 2 10 4 } ∷ []

pub book_cases : map (λ (c : Case). answer (read_book (map ascii c.lines))) cases ≡ map (λ (c : Case). c.said) cases
unfolding dec_le dec_lt ℕ_discrete digit? begins follows first holds fifth? many? over? any? clash? clash_of? occurs? has?
book_cases = refl

-- ---- sixteen lines and seventeen

abbrev Edge : Type 0
Edge = record { before : ℕ; line : String; said : Answer }

abbrev edges : List Edge
edges =
    -- a seventeenth is refused whatever it holds, and a sixteenth by its text
    record { before = 16; line = ""; said = refusal 17 12 0 } ∷
    record { before = 16; line = "1"; said = refusal 17 12 0 } ∷
    record { before = 15; line = ""; said = refusal 16 2 0 } ∷ []

pub book_edges :
    map (λ (c : Edge). answer (read_book (replicate c.before (ascii "i0") ++ ascii c.line ∷ []))) edges ≡ map (λ (c : Edge). c.said) edges
unfolding dec_le dec_lt ℕ_discrete digit? begins follows first holds fifth? many? over? any? clash? clash_of? occurs? has?
book_edges = refl

-- sixteen are read; numbers of two digits are shown, in the order of their values
abbrev sixteen : List String
sixteen = "1" ∷ "2" ∷ "3" ∷ "4" ∷ "5" ∷ "6" ∷ "7" ∷ "8" ∷ "9" ∷ "10" ∷ "11" ∷ "12" ∷ "13" ∷ "14" ∷ "15" ∷ "a0" ∷ []

pub book_sixteen :
    answer (read_book (map ascii sixteen))
    ≡ text (ascii "1 16\n2 16\n3 16\n4 16\n5 16\n6 16\n7 16\n8 16\n9 16\n10 16\n11 16\n12 16\n13 16\n14 16\n15 16\n")
unfolding dec_le dec_lt ℕ_discrete digit? begins follows first holds fifth? many? over? any? clash? clash_of? occurs? has?
book_sixteen = refl

-- all 120 pairs of sixteen rules
pub all_pairs : length (book_text (replicate 16 (side "i0"))) ≡ 585
unfolding dec_le dec_lt ℕ_discrete digit? begins follows first holds any?
all_pairs = refl

-- ---- picks

-- the slip's rule in the book's own order, and with the last rule first
pub book_picks :
    map (λ (w : String). pick (sides ("i0" ∷ "s0" ∷ "a0" ∷ [])) (map constants (side w))) ("7" ∷ "\"7\"" ∷ "7|7" ∷ [])
    ++ pick_by (sides ("i0" ∷ "s0" ∷ "a0" ∷ [])) (2 ∷ 0 ∷ 1 ∷ []) (map constants (side "7"))
    ∷ pick ([] ∷ sides ("l0" ∷ [])) (map constants (side "empty"))
    ∷ []
    ≡ some 0 ∷ some 1 ∷ none ∷ some 2 ∷ some 1 ∷ []
unfolding dec_le dec_lt ℕ_discrete digit? begins follows first holds any?
book_picks = refl
