-- Where the tables of a pair of rules stand in the lent row, and what they say: the view of the row that every contract names.
use Rattle.std.specs.Prelude.{Bool, true, false, cond, not, List, [], ◌∷◌, ◌++◌, ℕ, ◌+◌, ◌*◌, eqb, leb, get_or, take, drop}
use Rattle.std.proofs.Math.Option.{none, some}
use Rattle.base_limits.specs.Limits.{most_fields, longest_string, kind_count, variable_places, field_places, pair_places, pair_fields}
use Rattle.base_lists.specs.Seqs.{tabulate}
use Rattle.math_types.specs.Order.{basic, list}
use Rattle.math_types.specs.Types.{leaf, string, rank}
use Rattle.math_codes.specs.Tables.{Table}
use Rattle.math_codes.specs.Spots.{Spot}
use Rattle.pair_row.specs.declared.Shape.{Shape}

-- ---- the parts of the row, behind the codes by place

abbrev pub kinds_at : ℕ
kinds_at = pair_places

abbrev pub variables_at : ℕ
variables_at = kinds_at + pair_places

abbrev pub shapes_at : ℕ
shapes_at = variables_at + pair_places

abbrev pub shape_bytes : ℕ
shape_bytes = 4

abbrev pub indexes_at : ℕ
indexes_at = shapes_at + shape_bytes * pair_fields

abbrev pub tops_at : ℕ
tops_at = indexes_at + variable_places + variable_places

abbrev pub count_at : ℕ
count_at = tops_at + kind_count + kind_count

abbrev pub members_at : ℕ
members_at = count_at + 1

abbrev pub row_bytes : ℕ
row_bytes = members_at + pair_places

-- a constant's bytes, with their number before them
abbrev pub cell_bytes : ℕ
cell_bytes = 1 + longest_string

abbrev pub texts_bytes : ℕ
texts_bytes = cell_bytes * pair_places

abbrev pub is_set : ℕ → Bool
is_set n = not (eqb n 0)

-- ---- by place

-- the table that the mathematics speaks of; items behind the places are list variables
abbrev pub table_in : List ℕ → Table
table_in row =
    record {
      first = tabulate pair_places (λ p. get_or row p 0);
      kind = λ c. cond (leb pair_places c) (rank list) (get_or row (kinds_at + c) 0);
      variable = λ c. cond (leb pair_places c) true (is_set (get_or row (variables_at + c) 0));
    }

-- the bytes of a constant: digits without leading zeros, or what stands between a string's quotes
abbrev pub bytes_in : List ℕ → ℕ → List ℕ
bytes_in texts c = take (get_or texts (cell_bytes * c) 0) (drop (cell_bytes * c + 1) texts)

abbrev pub is_string : List ℕ → ℕ → Bool
is_string row c = eqb (get_or row (kinds_at + c) 0) (rank (basic (leaf string)))

-- its plain text
abbrev pub text_in : List ℕ → List ℕ → ℕ → List ℕ
text_in row texts c = cond (is_string row c) (34 ∷ (bytes_in texts c ++ 34 ∷ [])) (bytes_in texts c)

-- ---- by field: those of the left rule, then those of the right one

abbrev pub field_of : Bool → ℕ → ℕ
field_of true j = most_fields + j
field_of false j = j

abbrev pub shape_in : List ℕ → Bool → ℕ → Shape
shape_in row right j =
    let k = shapes_at + shape_bytes * field_of right j in
    record {
      base = field_places * field_of right j;
      head = get_or row k 0;
      tail = get_or row (k + 1) 0;
      list = get_or row (k + 2) 0;
      gapped = is_set (get_or row (k + 3) 0);
    }

-- the same as the mathematics has it
abbrev pub spot_of : Shape → Spot ℕ
spot_of s = record { base = s.base; head = s.head; tail = s.tail; name = cond s.gapped (some s.list) none }

abbrev pub spot_in : List ℕ → Bool → ℕ → Spot ℕ
spot_in row right j = spot_of (shape_in row right j)

-- ---- by variable: the numbers of each type's rank, the left rule's before the right one's

abbrev pub index_in : List ℕ → Bool → ℕ → ℕ
index_in row true i = get_or row (indexes_at + variable_places + i) 0
index_in row false i = get_or row (indexes_at + i) 0

abbrev pub top_in : List ℕ → Bool → ℕ → ℕ
top_in row true r = get_or row (tops_at + kind_count + r) 0
top_in row false r = get_or row (tops_at + r) 0
