-- The lines of a book's overlapping pairs row by row, as code puts them. `text_rows` of book_spec's proofs/Pairs says that they are the
-- text of the book.
use Rattle.std.specs.Prelude.{List, ℕ, length}
use Rattle.math_terms.specs.Seqs.{concat_map}
use Rattle.overlap_spec.specs.Variables.{keep}
use Rattle.book_spec.specs.Books.{Book, pairs_with, meet, pair_text}

-- those of position i with the positions behind it
abbrev pub row_text : Book → ℕ → List ℕ
row_text B i = concat_map pair_text (keep (meet B) (pairs_with (length B) i))
