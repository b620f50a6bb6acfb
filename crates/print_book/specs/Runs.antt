-- The lines of a book as the program meets them: each is added to what those before it left. `run_all` and `run_stops` of proofs/Runs say
-- that what is printed then is the answer to all lines.
use Rattle.std.specs.Prelude.{◌≡◌, List, [], ◌∷◌, ℕ}
use Rattle.book_rules.specs.declared.texts.Kept.{Kept}
use Rattle.book_rules.specs.declared.texts.Adding.{Adding}
use Rattle.book_rules.specs.declared.texts.Added.TheVariants.{Taken}
use Rattle.book_rules.specs.texts.Keeping.{AddsLine}

-- all lines are taken, and leave what is kept and the bytes
abbrev pub Takes : List (List ℕ) → Kept → List ℕ → Kept → List ℕ → Type 0
Takes [] kept row kept' row' = (kept' ≡ kept) × (row' ≡ row)
Takes (t ∷ ts) kept row kept' row' =
    (a : Adding) × (m : List ℕ) × AddsLine kept t row a m × (a.added ≡ Taken) × Takes ts a.kept m kept' row'
