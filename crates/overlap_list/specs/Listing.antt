-- Listing overlaps as code does it, on the tables of a pair: "Choosing a length for one field leads to the next field's choices; the first
-- field varies slowest." `all_lines` of proofs/ says that the lines are those of the overlap list.
use Rattle.std.specs.Prelude.{◌≡◌, Option, Some, None, true, false, cond, ◌&&◌, List, [], ◌∷◌, ◌++◌, ℕ, zero, suc, ◌+◌, ◌-◌, ◌*◌, ◌^◌, ◌≤◌, eqb, length}
use Rattle.std.proofs.lemmas.List.Edits.{sets}
use Rattle.base_limits.specs.Limits.{most_fields, most_terms, entry_line}
use Rattle.math_types.specs.Types.{entry}
use Rattle.math_codes.specs.Spots.{cell_at, join_from}
use Rattle.text_write.specs.pieces.Stored.{bytes_of}
use Rattle.pair_row.specs.Row.{table_in, spot_in}
use Rattle.pair_state.specs.declared.State.{State}
use Rattle.pair_state.specs.States.{joined_of}
use Rattle.overlap_entries.specs.declared.Span.{Span}
use Rattle.overlap_entries.specs.declared.Choice.{Choice}
use Rattle.overlap_entries.specs.Entries.{span_of, no_choice, chosen_at}
use Rattle.pair_lines.specs.Lines.{line_in, line_bound}
use Rattle.overlap_counts.specs.declared.Counts.{Counts}
use Rattle.overlap_counts.specs.Answers.{no_counts}
use Rattle.overlap_entries.specs.declared.Candidate.{Candidate}

-- ---- the candidates of a field pair

abbrev pub span_at : List ℕ → ℕ → Span
span_at row j = span_of (spot_in row false j) (spot_in row true j)

-- the candidate that comes next where k are left
abbrev pub candidate_of : Span → ℕ → Candidate
candidate_of s k = record { items = s.least + (s.count - k); long = s.long && eqb k 1 }

-- the joins of field j with n atoms
abbrev pub joins_at : List ℕ → ℕ → ℕ → State → Option State
joins_at row j n st =
    joined_of (join_from entry (table_in row) (cell_at (spot_in row false j) n) (cell_at (spot_in row true j) n) n 0 st.atoms)

-- ---- the lines of all choices, in their order

-- what follows a join, nothing where it clashes
abbrev pub after_join : Option State → (State → List (List ℕ)) → List (List ℕ)
after_join None next = []
after_join (Some st) next = next st

-- the lines of one candidate for field j; `next` lists what follows it
abbrev pub candidate_lines : (Choice → State → List (List ℕ)) → List ℕ → ℕ → Candidate → Choice → State → List (List ℕ)
candidate_lines next row j c ch st = after_join (joins_at row j c.items st) (next (chosen_at ch j c.items c.long))

-- k candidates are left for field j
abbrev pub choice_lines : (Choice → State → List (List ℕ)) → List ℕ → ℕ → ℕ → Choice → State → List (List ℕ)
choice_lines next row j zero ch st = []
choice_lines next row j (suc k) ch st =
    candidate_lines next row j (candidate_of (span_at row j) (suc k)) ch st ++ choice_lines next row j k ch st

-- m of the n fields are left, the first of them field j
abbrev pub lines_from : ℕ → List ℕ → List ℕ → ℕ → ℕ → Choice → State → List (List ℕ)
lines_from zero row texts n j ch st = line_in row texts n ch st.atoms ∷ []
lines_from (suc m) row texts n j ch st = choice_lines (lines_from m row texts n (j + 1)) row j (span_at row j).count ch st

abbrev pub lines_in : List ℕ → List ℕ → ℕ → ℕ → Choice → State → List (List ℕ)
lines_in row texts n j ch st = lines_from (n - j) row texts n j ch st

-- the candidates of field j, and what follows each
abbrev pub choices_in : List ℕ → List ℕ → ℕ → ℕ → Choice → State → List (List ℕ)
choices_in row texts n j ch st = choice_lines (lines_from (n - (j + 1)) row texts n (j + 1)) row j (span_at row j).count ch st

-- ALL LINES, from the first field on: each atom stands for itself
abbrev pub all_lines : List ℕ → List ℕ → ℕ → List (List ℕ)
all_lines row texts n = lines_from n row texts n 0 no_choice (record { atoms = (table_in row).first })

-- how many choices there are of n fields, from field j on: the product of their candidates; no list has more lines (`few_lines` of proofs/)
abbrev pub choices : List ℕ → ℕ → ℕ → ℕ
choices row j zero = 1
choices row j (suc n) = (span_at row j).count * choices row (j + 1) n

-- ---- counts

abbrev pub tallied : Counts → List (List ℕ) → Counts
tallied t ls = record { entries = t.entries + length ls; bytes = t.bytes + length (bytes_of ls) }

-- lines put behind those before, as far as there is room: what is counted, and the bytes
abbrev pub Stores : List (List ℕ) → Counts → List ℕ → Counts → List ℕ → Type 0
Stores ls t old u new = (u ≡ tallied t ls) × (new ≡ sets old t.bytes (bytes_of ls))

-- how many items the candidates of a field pair have stays small, whatever the row holds
abbrev pub span_bound : ℕ
span_bound = 1024

-- the counts can be held: no field pair of two rules has more candidates than a term more than a field has, and no line more bytes than
-- `line_bound`
abbrev pub most_entries : ℕ
most_entries = suc most_terms ^ most_fields

abbrev pub Moderate : Counts → Type 0
Moderate t = t.bytes ≤ line_bound * t.entries

abbrev pub Countable : Counts → List (List ℕ) → Type 0
Countable t ls = Moderate t × (t.entries + length ls ≤ most_entries)

-- ---- two rules

-- how many fields two rules have that can have an entry
abbrev pub Pairing : Type 0
Pairing = Option ℕ

-- "Rules with different field counts have no entries", and "A rule with no fields counts as having no entries": of n and of m fields
abbrev pub pairing_of : ℕ → ℕ → Pairing
pairing_of zero m = None
pairing_of (suc n) m = cond (eqb (suc n) m) (Some (suc n)) None

-- the lines on their tables, and how many choices there are
abbrev pub pair_lines : Pairing → List ℕ → List ℕ → List (List ℕ)
pair_lines (Some n) row texts = all_lines row texts n
pair_lines None row texts = []

abbrev pub pair_choices : Pairing → List ℕ → ℕ
pair_choices (Some n) row = choices row 0 n
pair_choices None row = 0

-- no rule has more than four fields
abbrev pub Few : Pairing → Type 0
Few (Some n) = n ≤ most_fields
Few None = Unit {0}

-- what listing asks of the tables of a pair: those of two rules have it
pub record Listable (p : Pairing) (row texts : List ℕ) : Type 0 where
  pub few : Few p
  pub can : Countable no_counts (pair_lines p row texts)
  -- no line is longer than the longest
  pub short : length (bytes_of (pair_lines p row texts)) ≤ pair_choices p row * entry_line
