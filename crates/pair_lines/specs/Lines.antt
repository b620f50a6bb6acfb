-- The line of a choice and its last codes, as code makes it of the pair's tables. `line_is` of proofs/ says that it is the mathematics'
-- `indexed_line`.
use Rattle.std.specs.Prelude.{◌≡◌, Bool, true, false, cond, ◌&&◌, ◌||◌, List, [], ◌∷◌, ℕ, zero, suc, ◌+◌, ◌-◌, ◌*◌, ◌^◌, ◌≤◌, leb, ltb, length, get_or, set, drop, replicate}
use Rattle.std.proofs.lemmas.List.Edits.{sets}
use Rattle.std.proofs.Math.Seq.{slice}
use Rattle.base_limits.specs.Limits.{most_fields, kind_count, entry_terms, numbers_of_side, pair_places, pair_items, entry_places}
use Rattle.base_lists.specs.Seqs.{tabulate}
use Rattle.math_codes.specs.Makers.{largest_byte}
use Rattle.math_overlaps.specs.Candidates.{Cand, exact, long}
use Rattle.overlap_spec.specs.Lines.{left_tag, right_tag}
use Rattle.math_codes.specs.Spots.{Spot}
use Rattle.math_codes.specs.Walks.{span_on}
use Rattle.math_codes.specs.Names.{Names, no_names, name_fields}
use Rattle.math_codes.specs.Lines.{item_text, items_text, fields_text}
use Rattle.math_codes.specs.Index.{value_at, rank_values, indexed_values, indexed_items}
use Rattle.pair_row.specs.Row.{table_in, text_in, shape_in, spot_in, index_in, top_in}
use Rattle.pair_row.specs.declared.Shape.{Shape}
use Rattle.overlap_entries.specs.declared.Choice.{Choice}
use Rattle.overlap_entries.specs.Entries.{chosen_in, item_count, item_at, chosen_at}
use Rattle.pair_lines.specs.declared.Numbering.{Numbering}
use Rattle.pair_lines.specs.declared.Run.{Run}
use Rattle.pair_lines.specs.declared.Shown.{Shown}
use Rattle.pair_lines.specs.declared.Bindings.{Bindings}

-- a text put at a place, as far as there is room; the place behind it is counted whether there is or not
abbrev pub Puts : List ℕ → ℕ → List ℕ → ℕ → List ℕ → Type 0
Puts text at old place new = (place ≡ at + length text) × (new ≡ sets old at text)

-- no number is larger
abbrev pub Few : ℕ → List ℕ → Type 0
Few m l = (i : ℕ) → get_or l i 0 ≤ m

-- ---- the items

-- where the last field's items begin
abbrev pub last_field : ℕ
last_field = entry_terms * (most_fields - 1)

-- a count below the largest byte can go up by one
abbrev pub most_count : ℕ
most_count = largest_byte - 1

abbrev pub count_at : Choice → ℕ → ℕ
count_at c j = item_count (chosen_in c j).items (chosen_in c j).long

-- n fields from field j on have no more
abbrev pub fits_from : Choice → ℕ → ℕ → Bool
fits_from c j zero = true
fits_from c j (suc n) = leb (count_at c j) entry_terms && fits_from c (suc j) n

-- a choice of at most four fields whose items have room
abbrev pub fits : ℕ → Choice → Bool
fits n c = leb n most_fields && fits_from c 0 n

-- the items of field j
abbrev pub field_in : List ℕ → Choice → List ℕ → ℕ → List ℕ
field_in row c atoms j =
    tabulate (count_at c j)
    (item_at atoms (spot_in row false j) (spot_in row true j) (chosen_in c j).items (chosen_in c j).long (pair_places + j))

abbrev pub items_in : List ℕ → ℕ → Choice → List ℕ → List (List ℕ)
items_in row n c atoms = tabulate n (field_in row c atoms)

-- numbers in hand
abbrev pub names_of : Numbering → Names
names_of x = record { counts = x.counts; numbers = x.numbers }

-- the numbers that they get
abbrev pub names_in : List ℕ → ℕ → Choice → List ℕ → Names
names_in row n c atoms = name_fields (table_in row) (no_names pair_items kind_count) (items_in row n c atoms)

-- in one row, as many places a field as it may have terms
abbrev pub laid_from : ℕ → List (List ℕ) → List ℕ → List ℕ
laid_from at [] items = items
laid_from at (f ∷ fs) items = laid_from (at + entry_terms) fs (sets items at f)

abbrev pub laid_in : List ℕ → ℕ → Choice → List ℕ → List ℕ
laid_in row n c atoms = laid_from 0 (items_in row n c atoms) (replicate entry_places 0)

-- ---- values

abbrev pub spots_in : List ℕ → Bool → ℕ → List (Spot ℕ)
spots_in row right n = tabulate n (spot_in row right)

-- where a run stands: behind `head` items and before the last `tail` of `count`, which stand from a place on
abbrev pub run_at : ℕ → ℕ → ℕ → ℕ → Run
run_at from count head tail =
    cond (ltb count (head + tail)) (record { from = from; to = from }) (record { from = from + head; to = from + (count - tail) })

-- a field's list variable, by its number: where its run begins and ends
abbrev pub note_run : Shape → ℕ → ℕ → List ℕ → List ℕ
note_run s from count runs =
    let r = run_at from count s.head s.tail in
    cond s.gapped (set (set runs (2 * s.list) r.from) (2 * s.list + 1) r.to) runs

-- those of k fields from field j on; where two have the same one, the first counts
abbrev pub runs_over : List ℕ → Bool → Choice → List ℕ → ℕ → ℕ → List ℕ
runs_over row right c old j zero = old
runs_over row right c old j (suc k) =
    note_run (shape_in row right j) (entry_terms * j) (count_at c j) (runs_over row right c old (suc j) k)

-- every number of a rule's list variables has room
abbrev pub run_places : ℕ
run_places = 2 * numbers_of_side

abbrev pub no_runs : List ℕ
no_runs = replicate run_places 0

-- the items of the list variable l by such a table, whatever it says
abbrev pub run_by : List ℕ → List ℕ → ℕ → List ℕ
run_by runs items l = slice (get_or runs (2 * l) 0) (get_or runs (2 * l + 1) 0) items

abbrev pub tag_of : Bool → ℕ
tag_of true = right_tag
tag_of false = left_tag

-- a blank before a binding, but not where a line begins; `led` has one there too
abbrev pub blank : Bool → ℕ → List ℕ
blank led at = cond (led || ltb 0 at) (32 ∷ []) []

-- bindings, each with a blank before it, as they are put at a place
abbrev pub unled : Bool → ℕ → List ℕ → List ℕ
unled led at t = cond (led || ltb 0 at) t (drop 1 t)

-- a variable's value; the variables of a type's rank; all of a rule
abbrev pub value_in : List ℕ → Bool → List ℕ → (ℕ → List ℕ) → ℕ → ℕ → List ℕ
value_in row right atoms runs k v = value_at (index_in row right) atoms runs k v

abbrev pub rank_in : List ℕ → List ℕ → List ℕ → Bool → List ℕ → (ℕ → List ℕ) → ℕ → List ℕ
rank_in row texts numbers right atoms runs k =
    rank_values (table_in row) (text_in row texts) numbers (tag_of right) (index_in row right) (top_in row right) atoms runs k

abbrev pub values_in : List ℕ → List ℕ → List ℕ → Bool → List ℕ → (ℕ → List ℕ) → List ℕ
values_in row texts numbers right atoms runs =
    indexed_values (table_in row) (text_in row texts) numbers (tag_of right) (index_in row right) (top_in row right) atoms runs

-- the texts that code makes: of an item, of a run, of fields
abbrev pub shown_item : Shown → ℕ → List ℕ
shown_item s c = item_text (table_in s.row.now) (text_in s.row.now s.texts.now) s.numbers.now c

abbrev pub shown_run : Shown → List ℕ → List ℕ
shown_run s run = items_text (table_in s.row.now) (text_in s.row.now s.texts.now) s.numbers.now run

abbrev pub shown_fields : Shown → List (List ℕ) → List ℕ
shown_fields s fs = fields_text (table_in s.row.now) (text_in s.row.now s.texts.now) s.numbers.now fs

-- a variable's value; the texts of the variables of a type's rank, and of all
abbrev pub shown_value : Bindings → ℕ → ℕ → List ℕ
shown_value x k n = value_in x.shown.row.now x.side.right x.side.atoms.now (run_by x.runs.now x.side.items.now) k n

abbrev pub shown_rank : Bindings → ℕ → List ℕ
shown_rank x k =
    rank_in x.shown.row.now x.shown.texts.now x.shown.numbers.now x.side.right x.side.atoms.now (run_by x.runs.now x.side.items.now) k

abbrev pub shown_values : Bindings → List ℕ
shown_values x = values_in x.shown.row.now x.shown.texts.now x.shown.numbers.now x.side.right x.side.atoms.now (run_by x.runs.now x.side.items.now)

-- ---- the line

abbrev pub whole_line : List ℕ → List ℕ → ℕ → Choice → List ℕ → List ℕ
whole_line row texts n c atoms =
    indexed_items (table_in row) (text_in row texts) (index_in row false) (top_in row false) (index_in row true) (top_in row true)
    (spots_in row false n) (spots_in row true n) atoms (items_in row n c atoms) (names_in row n c atoms).numbers

-- no number of a rule's variables is above its limit
abbrev pub side_few : List ℕ → Bool → Bool
side_few row right =
    leb (top_in row right 0) numbers_of_side
    && (leb (top_in row right 1) numbers_of_side && (leb (top_in row right 2) numbers_of_side && leb (top_in row right 3) numbers_of_side))

abbrev pub numbers_few : List ℕ → Bool
numbers_few row = side_few row false && side_few row true

-- THE LINE of a choice of n fields; one that does not fit has none
unfoldable pub line_in : List ℕ → List ℕ → ℕ → Choice → List ℕ → List ℕ
line_in row texts n c atoms = cond (fits n c && numbers_few row) (whole_line row texts n c atoms) []

-- no line has more bytes, whatever the tables hold
abbrev pub line_bound : ℕ
line_bound = 2 ^ 27

-- ---- the choice that code makes of candidates

abbrev pub is_long : Cand → Bool
is_long (exact n) = false
is_long long = true

-- field after field, from field j on: how many atoms the candidate has, and whether it is the long one
abbrev pub chosen_by : Choice → ℕ → List (Spot ℕ) → List (Spot ℕ) → List Cand → Choice
chosen_by ch j [] Qs cs = ch
chosen_by ch j (P ∷ Ps) [] cs = ch
chosen_by ch j (P ∷ Ps) (Q ∷ Qs) [] = ch
chosen_by ch j (P ∷ Ps) (Q ∷ Qs) (x ∷ xs) = chosen_by (chosen_at ch j (span_on P Q x) (is_long x)) (suc j) Ps Qs xs
