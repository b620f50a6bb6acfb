-- The limits of documents 01 and 02 in their order, each with its sentence, and the sizes that follow from them. The grammar has none.
-- src/ has a constant for each that code needs, MOST_FIELDS for `most_fields`.
use Rattle.std.specs.Prelude.{ℕ, suc, ◌+◌, ◌-◌, ◌*◌}

-- ---- limits

-- "A rule is one to four fields"; so is a slip
abbrev pub most_fields : ℕ
most_fields = 4

-- "A field is one to 16 terms"
abbrev pub most_terms : ℕ
most_terms = 16

-- "one to ten digits, value 0 to 2147483647"
abbrev pub most_digits : ℕ
most_digits = 10

abbrev pub largest_integer : ℕ
largest_integer = 2147483647

-- document 02: "its value may go down to -2147483648": the magnitude of the lowest
abbrev pub lowest_integer : ℕ
lowest_integer = 2147483648

-- "a string: 0 to 15 bytes"
abbrev pub longest_string : ℕ
longest_string = 15

-- "a number 0 to 15"
abbrev pub largest_number : ℕ
largest_number = 15

-- the types: "`i` integer, `s` string, `a` atom, `l` list"; and those below list
abbrev pub kind_count : ℕ
kind_count = 4

abbrev pub atom_kind_count : ℕ
atom_kind_count = 3

-- of a slip "up to 64 terms a field"
abbrev pub most_items : ℕ
most_items = 64

-- document 02: "The whole text may have 4,096 bytes"
abbrev pub most_rule_bytes : ℕ
most_rule_bytes = 4096

-- of a slip: "1: more than 8,192 bytes, place 8192"
abbrev pub most_slip_bytes : ℕ
most_slip_bytes = 8192

-- of an entry: "their numbers may reach 31 and its fields 31 terms"
abbrev pub largest_entry_number : ℕ
largest_entry_number = 31

abbrev pub entry_terms : ℕ
entry_terms = 31

-- "`too long B` where B bytes exceed its 65,536"
abbrev pub most_list_bytes : ℕ
most_list_bytes = 65536

-- "`line too long` beyond" its limit, "the newline not counted"; document 02: "The whole text may have 4,096 bytes .., and a line
-- for `pairs` 8,193", which is two of the longest rules and the tab
abbrev pub pair_line : ℕ
pair_line = most_rule_bytes + 1 + most_rule_bytes

-- document 02: "Rules come as a book of up to 16"
abbrev pub most_rules : ℕ
most_rules = 16

-- ---- numbers of variables, and the places of variables by type and number

abbrev pub numbers_of_side : ℕ
numbers_of_side = suc largest_number

-- "a right-side variable counting 16 above its number"
abbrev pub numbers_of_pair : ℕ
numbers_of_pair = numbers_of_side + numbers_of_side

-- those of the types below list, and all
abbrev pub atom_places : ℕ
atom_places = atom_kind_count * numbers_of_side

abbrev pub variable_places : ℕ
variable_places = kind_count * numbers_of_side

-- ---- the places of terms by field

abbrev pub field_places : ℕ
field_places = most_terms

abbrev pub rule_places : ℕ
rule_places = most_fields * field_places

abbrev pub pair_places : ℕ
pair_places = rule_places + rule_places

-- behind them the list variables: those of an entry by field, those of a search by number
abbrev pub list_items : ℕ
list_items = numbers_of_pair

abbrev pub pair_items : ℕ
pair_items = pair_places + list_items

-- both rules' fields
abbrev pub pair_fields : ℕ
pair_fields = most_fields + most_fields

-- ---- the longest plain texts

-- a string with its quotes
abbrev pub longest_term : ℕ
longest_term = 1 + longest_string + 1

-- each term with a separator but the last, and each field
abbrev pub longest_field : ℕ
longest_field = most_terms * suc longest_term - 1

abbrev pub longest_side : ℕ
longest_side = most_fields * suc longest_field - 1

-- both sides with `=>` between them
abbrev pub longest_rule : ℕ
longest_rule = longest_side + 2 + longest_side

abbrev pub longest_slip_field : ℕ
longest_slip_field = most_items * suc longest_term - 1

abbrev pub longest_slip : ℕ
longest_slip = most_fields * suc longest_slip_field - 1

-- ---- lines

-- the longest rule, the tab, the longest slip
abbrev pub slip_line : ℕ
slip_line = most_rule_bytes + 1 + most_slip_bytes

-- an entry's items in one row
abbrev pub entry_places : ℕ
entry_places = most_fields * entry_terms

-- bounds on the parts of an entry's line: a field, or a list variable's value, each term with its separator
abbrev pub run_bound : ℕ
run_bound = entry_terms * suc longest_term

abbrev pub fields_bound : ℕ
fields_bound = most_fields * suc run_bound

-- a blank, the side's sign, the variable and `=`
abbrev pub name_bound : ℕ
name_bound = 2 + longest_term + 1

-- a rule's bindings: those of its atom variables and of its list variables
abbrev pub bindings_bound : ℕ
bindings_bound = atom_places * (name_bound + longest_term) + numbers_of_side * (name_bound + run_bound)

-- the line of an entry: none has more bytes (`pair_short` of overlap_list's proofs/Short)
abbrev pub entry_line : ℕ
entry_line = fields_bound + bindings_bound + bindings_bound + 1
