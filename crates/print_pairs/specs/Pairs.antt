-- What `pairs` prints for one line, which has two rules with a tab between them: the overlaps of the rules. Document 01, "The program".
use Rattle.std.specs.Prelude.{cond, List, ◌++◌, ℕ, suc, ◌+◌, ltb, length, take, drop}
use Rattle.base_bytes.specs.Bytes.{index_of}
use Rattle.base_limits.specs.Limits.{most_list_bytes, pair_line}
use Rattle.text_grammar.specs.Ascii.{ascii, newline}
use Rattle.text_grammar.specs.Numbers.{digits_of}
use Rattle.text_write.specs.Sizes.{longest_number}
use Rattle.print_pairs.specs.overlaps.Texts.{said_of}

-- ---- a line

-- byte 9
abbrev pub tab : ℕ
tab = 9

-- "The first tab divides; a line without a tab has an empty right rule"
abbrev pub left_part : List ℕ → List ℕ
left_part t = take (index_of tab t) t

abbrev pub right_part : List ℕ → List ℕ
right_part t = drop (suc (index_of tab t)) t

-- ---- the answer

-- a line over its limit is too long whatever it holds
unfoldable pub line_text : List ℕ → List ℕ
line_text t = cond (ltb pair_line (length t)) (ascii "line too long" ++ newline) (said_of (left_part t) (right_part t))

-- "`pair K` (K the line number from 1)"
abbrev pub title_text : ℕ → List ℕ
title_text k = ascii "pair " ++ digits_of k ++ newline

-- THE ANSWER to line number k
unfoldable pub pair_answer : ℕ → List ℕ → List ℕ
pair_answer k t = title_text k ++ line_text t

-- a title, and behind it a list: no answer has more
abbrev pub longest_title : ℕ
longest_title = 5 + longest_number + 1

abbrev pub longest_answer : ℕ
longest_answer = longest_title + most_list_bytes
