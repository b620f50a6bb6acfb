-- The classes of bytes. Document 01: "a table over all 256 byte values says what each byte may begin".
-- The document's five classes are read off the grammar. The code's table holds finer classes,
-- for the five do not decide the machine's step:
-- it tells `0` from the other digits, `:` from `|`, and the letters of `empty` from each other and from those of the types.
-- Document 02's minus is a class of its own.
--     class_by_grammar    a byte's class among the five
--     fine_of            a byte's finer class
--     coarse-is         each finer class is a part of one of the five, and a byte's is a part of its own
-- `begun_is` of proofs/ says which term each finer class begins, and `table_is` there that the finer classes decide each step.
use Rattle.std.specs.Prelude.{◌≡◌, Bool, true, false, List, [], ◌∷◌, ℕ, ◌<◌, T, leb, eqb, get_or}
use Rattle.std.proofs.Math.Bool.{decide}
use Rattle.std.proofs.Math.Decide.{ℕ_discrete, dec_le}
use Rattle.base_lists.specs.Seqs.{Any, any?}
use Rattle.base_lists.specs.Tables.{both, all_below, all_below_lem}
use Rattle.text_grammar.specs.Letters.{letters}
use Rattle.text_grammar.specs.Bytes.{digit?, Begins, b_digit, b_minus, b_quote, b_letter, b_e, b_none, begins, Follows, f_digit, f_colon}
use Rattle.text_grammar.specs.Bytes.{f_bar}
use Rattle.text_grammar.specs.Bytes.{f_none}
use Rattle.text_grammar.specs.Bytes.{follows, Holds, h_quote, h_in, h_none, holds}
use Rattle.text_grammar.specs.Grammar.{raw_empty, spell}

-- ---- the five classes

-- document 01's five, document 02's sign, and the bytes that no text of the grammar has
pub data Class : Type 0 where
  digit letter quote separator inString sign nowhere : Class
  deriving Discrete as class-eq

-- A string may hold any of these bytes but the quote. So a byte is classed by what it may be outside a string,
-- and as `inString` where it is nothing there.
-- The letters are those that begin a variable, and those of `empty`.
module _ {b : ℕ} where
  abbrev pub inside : Holds b → Class
  inside (h_quote h) = quote
  inside (h_in h) = inString
  inside (h_none n h) = nowhere

  abbrev pub or_letter : Dec (Any (λ c. b ≡ c) (spell raw_empty)) → Class → Class
  or_letter (yes h) c = letter
  or_letter (no n) c = c

  abbrev pub or_follows : Follows b → Class → Class
  or_follows (f_digit h) c = digit
  or_follows (f_colon h) c = separator
  or_follows (f_bar h) c = separator
  or_follows (f_none d e f) c = c

  abbrev pub or_begins : Begins b → Class → Class
  or_begins (b_digit h) c = digit
  or_begins (b_minus h) c = sign
  or_begins (b_quote h) c = quote
  or_begins (b_letter k h) c = letter
  or_begins (b_e h) c = letter
  or_begins (b_none d m q l e) c = c

-- by the grammar's own decisions: what the byte may begin, what it may follow, whether `empty` has it, whether a string holds it
abbrev pub class_by_grammar : ℕ → Class
class_by_grammar b =
    or_begins (begins b) (or_follows (follows b) (or_letter (any? (λ c. b ≡ c) (ℕ_discrete b) (spell raw_empty)) (inside (holds b))))

-- ---- the finer classes

abbrev pub pick : Bool → ℕ → ℕ → ℕ
pick true x y = x
pick false x y = y

-- from lo to hi, both counted in
abbrev pub within : ℕ → ℕ → ℕ → Bool
within lo hi b = both (leb lo b) (leb b hi)

abbrev pub is_in : ℕ → List ℕ → Bool
is_in b [] = false
is_in b (c ∷ cs) = or_else (eqb b c) (is_in b cs)
  where
    or_else : Bool → Bool → Bool
    or_else true y = true
    or_else false y = y

-- 0  nowhere
-- 1  a digit: `0`; a variable's number that begins with it ends there
-- 2  a digit: `1` to `9`
-- 3  a letter: `i`, `s`, `a`, `l`, with which a variable begins
-- 4  the quote
-- 5  a separator: `:`, between terms
-- 6  a separator: `|`, between fields
-- 7 to 11  a letter: `e`, `m`, `p`, `t`, `y`, the bytes of `empty` in their order
-- 12  in a string alone
-- 13  the minus
abbrev pub class_count : ℕ
class_count = 14

unfoldable pub fine_of : ℕ → ℕ
fine_of b =
    pick (eqb b 48) 1
    (pick (within 49 57 b) 2
    (pick (is_in b letters) 3
    (pick (eqb b 34) 4
    (pick (eqb b 58) 5
    (pick (eqb b 124) 6
    (pick (eqb b 101) 7
    (pick (eqb b 109) 8
    (pick (eqb b 112) 9
    (pick (eqb b 116) 10
    (pick (eqb b 121) 11
    (pick (eqb b 45) 13
    (pick (within 32 126 b) 12 0))))))))))))

-- which of the five a finer class is a part of
abbrev pub coarse : ℕ → Class
coarse n =
    get_or (
    nowhere
    ∷ digit ∷ digit
    ∷ letter
    ∷ quote
    ∷ separator ∷ separator
    ∷ letter ∷ letter ∷ letter ∷ letter ∷ letter
    ∷ inString
    ∷ sign
    ∷ []
    ) n nowhere

-- ---- the rule, by one computed test

abbrev agree : ℕ → Bool
agree b = decide (class-eq (coarse (fine_of b)) (class_by_grammar b))

all_agree : T (all_below agree 256)
unfolding fine_of begins follows holds digit? any? dec_le ℕ_discrete decide
all_agree = tt

pub decided : {P : Type 0} (d : Dec P) → T (decide d) → P
unfolding decide
decided (yes p) t = p
decided (no n) t = absurd t

-- THE CLASSES of the table are the grammar's
pub coarse_is : (b : ℕ) → b < 256 → coarse (fine_of b) ≡ class_by_grammar b
coarse_is b h = decided (class-eq (coarse (fine_of b)) (class_by_grammar b)) (all_below_lem agree 256 all_agree b h)
