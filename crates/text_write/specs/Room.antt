-- Writing into room that is known.
use Rattle.std.specs.Prelude.{◌≡◌, List, ℕ, ◌+◌, ◌≤◌, length}
use Rattle.std.proofs.lemmas.List.Edits.{sets}

-- the text has room from `at` on
abbrev pub Room : List ℕ → ℕ → List ℕ → Type 0
Room text at old = at + length text ≤ length old

-- the bytes are the old ones with the text stored from `at` on, and the place is the one behind the text
abbrev pub Put : List ℕ → ℕ → List ℕ → ℕ → List ℕ → Type 0
Put text at old place new = (place ≡ at + length text) × (new ≡ sets old at text)
