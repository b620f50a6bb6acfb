-- The place of refusal 2, over a grammar alone.
use Rattle.std.specs.Prelude.{◌≡◌, ◌⊎◌, List, ◌++◌, ℕ, suc, ◌<◌, length, take}
use Rattle.std.proofs.Math.Option.{Option, none, some}
use Rattle.text_grammar.specs.Grammar.{Grammar}

module _ (G : List ℕ → Type 0) where
  -- p begins some text of the grammar G
  abbrev pub ViableOf : List ℕ → Type 0
  ViableOf p = (r : List ℕ) × G (p ++ r)

  -- document 01: "the place is the first byte that no text of the grammar could have there, or the length where the text stops early".
  -- What stands before p begins some text of the grammar; and t ends there without being one, or no text of the grammar has there what
  -- t has.
  abbrev pub StopsOf : List ℕ → ℕ → Type 0
  StopsOf t p = ViableOf (take p t) × (((p ≡ length t) × (G t → ⊥)) ⊎ ((p < length t) × (ViableOf (take (suc p) t) → ⊥)))

-- the grammar of one side and of a slip
abbrev pub Viable : List ℕ → Type 0
Viable = ViableOf Grammar

abbrev pub Stops : List ℕ → ℕ → Type 0
Stops = StopsOf Grammar

-- an answer to "at which place": nowhere, or the only one
abbrev pub Answers : (ℕ → Type 0) → Option ℕ → Type 0
Answers R none = (p : ℕ) → R p → ⊥
Answers R (some p) = R p × ((q : ℕ) → R q → q ≡ p)
