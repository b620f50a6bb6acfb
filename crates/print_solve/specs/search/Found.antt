-- What is said of a search: its refusal and its counts, and its lines.
use Prim.Native.String.{String}
use Rattle.std.specs.Prelude.{cond, List, ◌++◌, ℕ, ◌+◌, leb, length}
use Rattle.text_grammar.specs.Ascii.{ascii, newline}
use Rattle.text_grammar.specs.Numbers.{digits_of}
use Rattle.text_write.specs.Sizes.{longest_number}
use Rattle.search_spec.specs.Answers.{Lines, lines, nine, bytes_of}

-- as many bytes as there are
abbrev pub most_bytes : ℕ
most_bytes = 131072

abbrev pub count_text : String → ℕ → List ℕ
count_text words n = ascii words ++ digits_of n

-- the refusal's number, or 0 for none, and the two counts
abbrev pub counts_text : ℕ → ℕ → ℕ → List ℕ
counts_text refusal count bytes = count_text "refusal " refusal ++ count_text " lines " count ++ count_text " bytes " bytes ++ newline

-- the lines; document 01: "8: the lines need more bytes than the output buffer has; the line count and the needed byte count are returned",
-- and 9 with "both counts .. 0"
abbrev pub found_text : ℕ → Lines → List ℕ
found_text room (lines ls) =
    let text = bytes_of (lines ls) in
    cond (leb (length text) room) (counts_text 0 (length ls) (length text) ++ text) (counts_text 8 (length ls) (length text))
found_text room nine = counts_text 9 0 0

-- the counts' line: `refusal ` and a digit, ` lines ` and ` bytes ` with a number each, the line's end
abbrev pub longest_counts : ℕ
longest_counts = 8 + 1 + (7 + longest_number) + (7 + longest_number) + 1

-- and behind it at most `most_bytes`
abbrev pub longest_body : ℕ
longest_body = longest_counts + most_bytes
