-- Lines stored one behind the other in lent bytes, as far as there is room.
use Rattle.std.specs.Prelude.{List, [], ◌∷◌, ℕ, ◌+◌, length}
use Rattle.std.proofs.lemmas.List.Edits.{sets}
use Rattle.math_terms.specs.Seqs.{concat_map}

-- all lines as one text
abbrev pub bytes_of : List (List ℕ) → List ℕ
bytes_of ls = concat_map (λ l. l) ls

-- a line at its place, as far as there is room
abbrev pub store_line : List ℕ → ℕ → List ℕ → List ℕ
store_line l at old = sets old at l

abbrev pub store_all : List (List ℕ) → ℕ → List ℕ → List ℕ
store_all [] at old = old
store_all (l ∷ ls) at old = store_all ls (at + length l) (store_line l at old)
