-- Whether a choice of one candidate a field is left that nothing kills, as code finds it, on the tables of a pair.
-- `any_lines` of proofs/ says that it is whether the list on these tables has a line.
use Rattle.std.specs.Prelude.{Option, Some, None, Bool, true, false, ◌||◌, List, ℕ, zero, suc, ◌+◌, ◌-◌}
use Rattle.pair_row.specs.Row.{table_in}
use Rattle.pair_state.specs.declared.State.{State}
use Rattle.overlap_list.specs.Listing.{Pairing, span_at, candidate_of, joins_at}

-- what follows a join, no where it clashes
abbrev pub if_joined : Option State → (State → Bool) → Bool
if_joined None next = false
if_joined (Some st) next = next st

-- k candidates are left for field j; `next` says whether a choice follows one
abbrev pub any_candidate : (State → Bool) → List ℕ → ℕ → ℕ → State → Bool
any_candidate next row j zero st = false
any_candidate next row j (suc k) st =
    if_joined (joins_at row j (candidate_of (span_at row j) (suc k)).items st) next || any_candidate next row j k st

-- m fields are left, the first of them field j
abbrev pub any_from : ℕ → List ℕ → ℕ → State → Bool
any_from zero row j st = true
any_from (suc m) row j st = any_candidate (any_from m row (j + 1)) row j (span_at row j).count st

-- of n fields those from j on
abbrev pub any_in : List ℕ → ℕ → ℕ → State → Bool
any_in row n j st = any_from (n - j) row j st

-- of two rules: each atom stands for itself at first
abbrev pub any_of : Pairing → List ℕ → Bool
any_of (Some n) row = any_from n row 0 (record { atoms = (table_in row).first })
any_of None row = false
