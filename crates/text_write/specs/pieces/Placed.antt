-- A piece of text put at a place of a buffer, as far as the buffer has room. So pieces put one behind the other are their whole text put,
-- whatever the room (`placed_next` of proofs/Pieces), and nothing is required of a caller.
use Rattle.std.specs.Prelude.{◌≡◌, List, ℕ, ◌+◌, ◌-◌, min, length}
use Rattle.std.proofs.lemmas.List.Edits.{sets}
use Rattle.text_write.specs.declared.pieces.Page.{Page}

-- the bytes with the text stored from `at` on; what lies beyond the end is dropped
abbrev pub placed : List ℕ → ℕ → List ℕ → List ℕ
placed text at old = sets old at text

-- the place behind what was stored
abbrev pub place_behind : List ℕ → ℕ → List ℕ → ℕ
place_behind text at old = at + min (length text) (length old - at)

abbrev pub Placed : List ℕ → ℕ → List ℕ → ℕ → List ℕ → Type 0
Placed text at old place new = (place ≡ place_behind text at old) × (new ≡ placed text at old)

-- The same of a page, which holds the bytes and the place; its bytes stay those that were lent.
pub record PlacedOn (text : List ℕ) (old new : Page) : Type 0 where
  pub same_bytes : new.bytes.ghost_name ≡ old.bytes.ghost_name
  pub placed : Placed text old.at old.bytes.now new.at new.bytes.now
