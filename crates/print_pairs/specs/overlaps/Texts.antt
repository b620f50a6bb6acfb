-- What is said of two texts that are to be rules: a refusal, their overlaps, or how long these are. Document 01, "The program".
use Rattle.std.specs.Prelude.{cond, List, [], ◌++◌, ℕ, ◌-◌, leb, length}
use Rattle.base_limits.specs.Limits.{most_list_bytes}
use Rattle.text_grammar.specs.Ascii.{ascii, newline}
use Rattle.text_grammar.specs.Numbers.{digits_of}
use Rattle.text_grammar.specs.Read.{number, OutcomeOf, refused, accepted}
use Rattle.text_grammar.specs.rules.Read.{OurRule, read_rule}
use Rattle.overlap_spec.specs.Overlaps.{overlap_text}
use Rattle.text_write.specs.pieces.Refusals.{number_at}

-- "the overlap lines", each of which ends with a newline, or in their place one line with their size
abbrev pub listed_text : List ℕ → List ℕ
listed_text t = cond (leb (length t) most_list_bytes) t (ascii "too long " ++ digits_of (length t) ++ newline)

-- "`refused left N at P`, or else `refused right N at P`, N the number and P the place"; the overlaps are those of the left sides
abbrev pub read_text : OutcomeOf OurRule → OutcomeOf OurRule → List ℕ
read_text (refused r p) o = ascii "refused left " ++ number_at (number r) p ++ newline
read_text (accepted left) (refused r p) = ascii "refused right " ++ number_at (number r) p ++ newline
read_text (accepted left) (accepted right) = listed_text (overlap_text left.0 right.0)

-- the same where k bytes are left for it: with fewer than it may have nothing is said
abbrev pub texts_in : ℕ → OutcomeOf OurRule → OutcomeOf OurRule → List ℕ
texts_in k o p = cond (leb most_list_bytes k) (read_text o p) []

-- ---- of texts, and of the bytes from a place on

abbrev pub said_of : List ℕ → List ℕ → List ℕ
said_of t u = read_text (read_rule t) (read_rule u)

abbrev pub said_in : List ℕ → ℕ → List ℕ → List ℕ → List ℕ
said_in old at t u = texts_in (length old - at) (read_rule t) (read_rule u)
