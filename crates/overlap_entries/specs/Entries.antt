-- Candidates and items of two fields, by their numbers. `cands_are` and `items_are` of proofs/ say that they are the mathematics' own.
use Rattle.std.specs.Prelude as std
use Rattle.std.specs.Prelude.{Some, None, Bool, true, false, cond, not, ◌&&◌, List, ℕ, suc, ◌+◌, ◌-◌, max, eqb, leb, ltb, get_or, set, replicate}
use Rattle.std.proofs.Math.Option.{Option, none, some}
use Rattle.base_limits.specs.Limits.{most_fields}
use Rattle.math_overlaps.specs.Candidates.{Cand, exact, long}
use Rattle.math_codes.specs.Spots.{Spot, cell_at, pick_cell}
use Rattle.overlap_entries.specs.declared.Span.{Span}
use Rattle.overlap_entries.specs.declared.Candidate.{Candidate}
use Rattle.overlap_entries.specs.declared.Choice.{Choice}

-- ---- candidates

abbrev pub only : ℕ → Bool → Span
only n fits = record { least = n; count = cond fits 1 0; long = false }

-- by both fields' numbers of atoms before and behind their list variable, and whether they have one
abbrev pub span_from : ℕ → ℕ → Option ℕ → ℕ → ℕ → Option ℕ → Span
span_from h t none h' t' none = only h (eqb h' h)
span_from h t none h' t' (some m) = only h (leb (h' + t') h)
span_from h t (some l) h' t' none = only h' (leb (h + t) h')
span_from h t (some l) h' t' (some m) =
    record { least = max (h + t) (h' + t'); count = max h h' + max t t' - max (h + t) (h' + t') + 1; long = true }

abbrev pub span_of : Spot ℕ → Spot ℕ → Span
span_of s s' = span_from s.head s.tail s.name s'.head s'.tail s'.name

-- a candidate as the mathematics has it
abbrev pub cand_of : ℕ → Bool → Cand
cand_of n true = long
cand_of n false = exact n

-- candidate i: each has an atom more than the one before it, and where there is a long one it is the last
abbrev pub cand_at : Span → ℕ → Cand
cand_at sp i = cand_of (sp.least + i) (sp.long && eqb (suc i) sp.count)

-- ---- choices

abbrev pub no_candidate : Candidate
no_candidate = record { items = 0; long = false }

abbrev pub no_choice : Choice
no_choice = record { fields = replicate most_fields no_candidate }

abbrev pub chosen_at : Choice → ℕ → ℕ → Bool → Choice
chosen_at c j n l = record { fields = set c.fields j (record { items = n; long = l }) }

-- that of field j
abbrev pub chosen_in : Choice → ℕ → Candidate
chosen_in c j = get_or c.fields j no_candidate

-- ---- places and items

-- the code's answer as the mathematics has it
abbrev pub place_in : std.Option ℕ → Option ℕ
place_in (Some x) = some x
place_in None = none

-- there are two atoms, and they stand for different ones
abbrev pub differ : Option ℕ → Option ℕ → List ℕ → Bool
differ none q atoms = false
differ (some x) none atoms = false
differ (some x) (some y) atoms = not (eqb (get_or atoms x 0) (get_or atoms y 0))

-- the code at position p of n
abbrev pub code_at : List ℕ → Spot ℕ → Spot ℕ → ℕ → ℕ → ℕ
code_at atoms s s' n p = get_or atoms (pick_cell (cell_at s n p) (cell_at s' n p)) 0

abbrev pub item_count : ℕ → Bool → ℕ
item_count n true = n + 1
item_count n false = n

-- item i of a field with n atoms; in the long one the item `list` stands behind the larger head
abbrev pub item_at : List ℕ → Spot ℕ → Spot ℕ → ℕ → Bool → ℕ → ℕ → ℕ
item_at atoms s s' n false list i = code_at atoms s s' n i
item_at atoms s s' n true list i =
    let h = max s.head s'.head in
    cond (ltb i h) (code_at atoms s s' n i) (cond (eqb i h) list (code_at atoms s s' n (i - 1)))
