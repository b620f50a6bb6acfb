-- Lists of codes as values, as code makes them. `proofs/Agree` says that on the values of the search's fields they are the search's.
use Rattle.std.specs.Prelude.{cond, ℕ, suc, ◌+◌, leb, set, take, replicate}
use mathlib.Core.List.{List, foldl}
use Rattle.base_limits.specs.Limits.{most_terms}
use Rattle.search_items.specs.declared.Items.{Items}

-- a side of a problem has at most as many as a field has terms, and a list variable stands for at most one more
abbrev pub most_codes : ℕ
most_codes = suc most_terms

abbrev pub blank_items : Items
blank_items = record { n = 0; codes = replicate most_codes 0 }

-- the codes in use
abbrev pub items_of : Items → List ℕ
items_of w = take w.n w.codes

-- one code more; a full list stays as it is
abbrev pub pushed : Items → ℕ → Items
pushed w c = cond (leb most_codes w.n) w (record { n = w.n + 1; codes = set w.codes w.n c })

-- THE VALUE of a list of codes; those beyond the last place are left out
abbrev pub collect : List ℕ → Items
collect cs = foldl pushed blank_items cs
