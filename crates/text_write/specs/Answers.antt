-- What a writer answers and leaves in the lent bytes, of a text and the old bytes.
use Rattle.std.specs.Prelude.{◌≡◌, cond, List, [], ◌∷◌, ◌++◌, ℕ, leb, length, drop, Result, Ok, Err}
use Rattle.std.proofs.Math.Option.{none, some}
use Rattle.text_grammar.specs.Told.{Told, by_room}
use Rattle.text_write.specs.declared.TooSmall.{TooSmall}

-- document 01: "Too small a buffer is refused by 8, as in searching"; the value is the byte count
abbrev pub told : Result ℕ TooSmall → Told
told (Ok n) = record { number = none; values = n ∷ [] }
told (Err e) = record { number = some 8; values = e.needed ∷ [] }

-- the text and the old bytes behind it; all old bytes where the text has no room
abbrev pub after : List ℕ → List ℕ → List ℕ
after text old = cond (leb (length text) (length old)) (text ++ drop (length text) old) old

-- WHAT WRITING PROMISES of a text and the lent bytes `old`: the answer, and what the bytes are afterwards
pub record Writes (text old : List ℕ) (r : Result ℕ TooSmall) (new : List ℕ) : Type 0 where
  pub answer : told r ≡ by_room (length text) (length old) (length text ∷ [])
  pub bytes : new ≡ after text old
