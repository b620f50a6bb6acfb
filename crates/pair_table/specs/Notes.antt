-- What noting a term makes of the row and of the constants' bytes, as code does it.
-- `pair_noted` of proofs/ says that, of two texts that are accepted, the tables are those of their rules (specs/Pairs).
use Rattle.std.specs.Prelude.{◌≡◌, Bool, true, false, cond, ◌&&◌, ℕ, zero, suc, ◌+◌, ◌-◌, ◌*◌, ◌%◌, eqb, leb, ltb, length, get_or, set, replicate}
use mathlib.Core.List.{List, foldl}
use Rattle.std.proofs.lemmas.List.Edits.{sets}
use Rattle.base_limits.specs.Limits.{most_fields, most_terms, longest_string, kind_count, numbers_of_side, variable_places, field_places}
use Rattle.base_limits.specs.Limits.{pair_places}
use Rattle.base_lists.specs.Seqs.{tabulate}
use Rattle.math_types.specs.Order.{basic}
use Rattle.math_types.specs.Types.{leaf, Basic, rank, is_list, integer, string}
use Rattle.math_types.specs.Values.{kind_of}
use Rattle.text_grammar.specs.constants.Constants.{signed, sign_size, sign_of}
use Rattle.text_grammar.specs.Tokens.{Token}
use Rattle.text_grammar.specs.Walk.{walked}
use Rattle.math_codes.specs.Texts.{zeros}
use Rattle.text_scan.specs.declared.Lexeme.{Lexeme}
use Rattle.text_scan.specs.declared.Literal.{Literal}
use Rattle.text_scan.specs.declared.Literal.TheVariants.{Int, Str}
use Rattle.text_scan.specs.declared.Spelled.{Spelled}
use Rattle.text_scan.specs.declared.Spelled.TheVariants.{Con, Var, Empty}
use Rattle.text_scan.specs.Lexemes.{lexeme_of}
use Rattle.pair_row.specs.Row.{kinds_at, variables_at, shapes_at, indexes_at, tops_at, count_at, members_at, cell_bytes, row_bytes, texts_bytes}
use Rattle.pair_table.specs.declared.Tables.{Tables}
use Rattle.pair_row.specs.Row.{shape_bytes}
use Rattle.pair_row.specs.Row.{field_of, is_set}

-- n bytes of a text from a place on
abbrev pub part_of : List ℕ → ℕ → ℕ → List ℕ
part_of text from n = tabulate n (λ i. get_or text (from + i) 0)

-- ---- constants

-- the bytes of the constant at place p, their number before them
abbrev pub celled : ℕ → List ℕ → List ℕ → List ℕ
celled p bs texts = sets (set texts (cell_bytes * p) (length bs)) (cell_bytes * p + 1) bs

-- the bytes from a and from b on are the same, k of them
abbrev pub same_from : List ℕ → ℕ → ℕ → ℕ → Bool
same_from texts a b zero = true
same_from texts a b (suc k) = eqb (get_or texts a 0) (get_or texts b 0) && same_from texts (suc a) (suc b) k

-- one type, one number of bytes, and these alike
abbrev pub same_constant : List ℕ → List ℕ → ℕ → ℕ → Bool
same_constant row texts p q =
    eqb (get_or row (kinds_at + p) 0) (get_or row (kinds_at + q) 0)
    && same_from texts (cell_bytes * p) (cell_bytes * q) (suc (get_or texts (cell_bytes * p) 0))

-- the first of k members, from the m-th on, that is the constant at p; else p
abbrev pub member_from : List ℕ → List ℕ → ℕ → ℕ → ℕ → ℕ
member_from row texts p m zero = p
member_from row texts p m (suc k) =
    cond (same_constant row texts p (get_or row (members_at + m) 0)) (get_or row (members_at + m) 0) (member_from row texts p (suc m) k)

abbrev pub code_in : List ℕ → List ℕ → ℕ → ℕ
code_in row texts p = member_from row texts p 0 (get_or row count_at 0)

abbrev pub classed : ℕ → ℕ → ℕ → List ℕ → List ℕ
classed p k v row = set (set row (kinds_at + p) k) (variables_at + p) v

-- one member more
abbrev pub joined_member : ℕ → List ℕ → List ℕ
joined_member p row =
    cond (ltb (get_or row count_at 0) pair_places) (set (set row (members_at + get_or row count_at 0) p) count_at (get_or row count_at 0 + 1)) row

-- the row, with `texts` the bytes that hold the constant already
abbrev pub constant_noted : ℕ → ℕ → List ℕ → List ℕ → List ℕ
constant_noted p k texts row =
    let r = classed p k 0 row in
    let c = code_in r texts p in
    cond (eqb c p) (joined_member p (set r p c)) (set r p c)

-- the bytes of a constant that is written at a place of the text as l, with so many digits of value v, or bytes:
-- an integer's are its plain text
abbrev pub literal_cell : Literal → List ℕ → ℕ → ℕ → ℕ → List ℕ
literal_cell (Int m) text at size v =
    let from = at + sign_size m in
    let z = zeros (part_of text from size) in
    signed (sign_of m v) (part_of text (from + z) (size - z))
literal_cell Str text at size v = part_of text (at + 1) size

abbrev pub literal_kind : Literal → Basic
literal_kind (Int m) = leaf integer
literal_kind Str = leaf string

abbrev pub literal_noted : List ℕ → ℕ → ℕ → Literal → ℕ → ℕ → List ℕ → List ℕ → List ℕ × List ℕ
literal_noted text at p l size v row texts =
    let cells = celled p (literal_cell l text at size v) texts in
    (constant_noted p (rank (basic (literal_kind l))) cells row, cells)

-- ---- variables

abbrev pub side_of : Bool → ℕ
side_of true = 1
side_of false = 0

-- its place is its code where it is met first
abbrev pub indexed : ℕ → ℕ → List ℕ → List ℕ
indexed i p row = cond (eqb (get_or row i 0) 0) (set (set row i (p + 1)) p p) (set row p (get_or row i 0 - 1))

abbrev pub topped : ℕ → ℕ → List ℕ → List ℕ
topped t n row = cond (leb (get_or row t 0) n) (set row t (n + 1)) row

abbrev pub variable_noted : ℕ → Bool → ℕ → ℕ → List ℕ → List ℕ
variable_noted p right k n row =
    topped (tops_at + kind_count * side_of right + k) n
    (indexed (indexes_at + variable_places * side_of right + numbers_of_side * k + n) p (classed p k 1 row))

-- ---- shapes

-- no field has more terms than places
abbrev pub more : ℕ → ℕ
more n = cond (leb most_terms n) most_terms (n + 1)

abbrev pub shape_noted : ℕ → Bool → ℕ → List ℕ → List ℕ
shape_noted f is_list n row =
    let k = shapes_at + shape_bytes * f in
    cond (is_set (get_or row (k + 3) 0)) (set row (k + 1) (more (get_or row (k + 1) 0)))
    (cond is_list (set (set row (k + 2) n) (k + 3) 1) (set row k (more (get_or row k 0))))

-- ---- terms

-- the tables that are lent are the same ones
abbrev pub Kept : Tables → Tables → Type 0
Kept t u = (u.row.ghost_name ≡ t.row.ghost_name) × (u.texts.ghost_name ≡ t.texts.ghost_name)

-- a rule has four fields, counted from 1
abbrev pub is_field : ℕ → Bool
is_field field = leb 1 field && leb field most_fields

-- how many terms of the pair's field f are noted: `empty` is none, so this is the next term's place in the field; a token's index is not
abbrev pub terms_in : List ℕ → ℕ → ℕ
terms_in row f =
    let k = shapes_at + shape_bytes * f in
    get_or row k 0 + get_or row (k + 1) 0 + cond (is_set (get_or row (k + 3) 0)) 1 0

-- the term at place p of the pair, which is a term of the pair's field f
abbrev pub note_by : Bool → List ℕ → ℕ → ℕ → ℕ → Spelled → ℕ → ℕ → List ℕ → List ℕ → List ℕ × List ℕ
note_by right text at f p (Con l) size v row texts = literal_noted text at p l size v (shape_noted f false 0 row) texts
note_by right text at f p (Var k) size v row texts =
    (variable_noted p right (rank (kind_of k)) (v % numbers_of_side) (shape_noted f (is_list (kind_of k)) (v % numbers_of_side) row), texts)
note_by right text at f p Empty size v row texts = (row, texts)

-- the field's number among the pair's eight, and the term's place
abbrev pub note_lexeme : Bool → List ℕ → ℕ → ℕ → Lexeme → List ℕ → List ℕ → List ℕ × List ℕ
note_lexeme right text at field t row texts =
    let f = field_of right (field - 1) in
    cond (is_field field && (ltb (terms_in row f) most_terms && (ltb at (length text) && leb t.size longest_string)))
    (note_by right text at f (field_places * f + terms_in row f) t.what t.size t.value row texts) (row, texts)

-- ---- texts

-- all terms of a rule's side
abbrev pub note_token : Bool → List ℕ → List ℕ × List ℕ → Token → List ℕ × List ℕ
note_token right text x m = note_lexeme right text m.place m.in_field (lexeme_of m.raw) x.0 x.1

abbrev pub side_noted : Bool → List ℕ → List ℕ × List ℕ → List ℕ × List ℕ
side_noted right text x = foldl (note_token right text) x (walked text)

-- rows that hold nothing
abbrev pub blank_rows : List ℕ × List ℕ
blank_rows = (replicate row_bytes 0, replicate texts_bytes 0)

-- THE TABLES of two texts, the left rule's side and the right one's
abbrev pub rows_of : List ℕ → List ℕ → List ℕ × List ℕ
rows_of t u = side_noted true u (side_noted false t blank_rows)
