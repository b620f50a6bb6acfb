-- Answers in document 01's words. "Where an answer is an enum, a definition gives this paper's number and values for each of the enum's
-- cases. The promises use that definition."
use Rattle.std.specs.Prelude.{cond, List, ℕ, leb}
use Rattle.std.proofs.Math.Option.{Option, none, some}

-- the number of the refusal, where there is one, and the values that are returned: counts, or a place
pub record Told : Type 0 where
  pub number : Option ℕ
  pub values : List ℕ

-- "8: the lines need more bytes than the output buffer has; the line count and the needed byte count are returned": so many bytes are
-- needed, so many are lent, and the values are the same either way
abbrev pub by_room : ℕ → ℕ → List ℕ → Told
by_room needed lent values = record { number = cond (leb needed lent) none (some 8); values = values }
