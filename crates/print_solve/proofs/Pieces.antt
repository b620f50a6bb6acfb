-- Pieces of a page that are no longer than the text of a search. Assumes nothing.
use mathlib.Core.Path.{◌≡◌, ap}
use mathlib.Core.List.{List}
use Prim.Native.Nat.{ℕ, ◌≤◌}
use native.Mathlib.Omega.{arith}
use lib.ListN.{length}
use Rattle.text_write.specs.declared.pieces.Page.{Page}
use Rattle.text_write.specs.pieces.Placed.{PlacedOn}
use Rattle.text_write.proofs.pieces.Pieces.{on_as}
use Rattle.print_solve.specs.search.Found.{longest_body}

abbrev pub Piece : List ℕ → Page → Page → Type 0
Piece t p q = PlacedOn t p q × (length t ≤ longest_body)

pub piece_as : {a b : List ℕ} {p q : Page} → b ≡ a → Piece a p q → Piece b p q
piece_as e h = (on_as h.0 e, omega (arith, ap length e, h.1))
