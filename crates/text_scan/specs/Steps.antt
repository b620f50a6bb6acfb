-- The machine of the grammar as a table of numbers: the next state for each state and each class of bytes.
-- `table_is` of proofs/ says that it steps as the machine does.
use Rattle.std.proofs.Math.Option.{Option, none, some}
use Rattle.std.specs.Prelude.{List, [], ◌∷◌, ℕ, ◌+◌, ◌*◌, get_or}
use Rattle.text_grammar.specs.Machine.{State, after, minus, digits, number, done, quoted, must}
use Rattle.text_scan.specs.Classes.{class_count}

-- 0  before a term
-- 1  in an integer's or a variable's digits
-- 2  before a variable's number
-- 3  behind a term
-- 4  in a string
-- 5 to 8  in `empty`, before its `m`, `p`, `t`, `y`
-- 9  behind an integer's minus
-- 10, and what is above it, is no state: the text is refused
abbrev pub state_count : ℕ
state_count = 10

abbrev pub state_of : ℕ → Option State
state_of n =
    get_or (
    some after
    ∷ some digits
    ∷ some number
    ∷ some done
    ∷ some quoted
    ∷ some (must 109 (112 ∷ 116 ∷ 121 ∷ []))
    ∷ some (must 112 (116 ∷ 121 ∷ []))
    ∷ some (must 116 (121 ∷ []))
    ∷ some (must 121 [])
    ∷ some minus
    ∷ []
    ) n none

-- a row for each state, a column for each class
abbrev pub steps : List ℕ
steps =
    10 ∷ 1 ∷ 1 ∷ 2 ∷ 4 ∷ 10 ∷ 10 ∷ 5 ∷ 10 ∷ 10 ∷ 10 ∷ 10 ∷ 10 ∷ 9 ∷  -- before a term
    10 ∷ 1 ∷ 1 ∷ 10 ∷ 10 ∷ 0 ∷ 0 ∷ 10 ∷ 10 ∷ 10 ∷ 10 ∷ 10 ∷ 10 ∷ 10 ∷  -- in digits
    10 ∷ 3 ∷ 1 ∷ 10 ∷ 10 ∷ 10 ∷ 10 ∷ 10 ∷ 10 ∷ 10 ∷ 10 ∷ 10 ∷ 10 ∷ 10 ∷  -- before a variable's number
    10 ∷ 10 ∷ 10 ∷ 10 ∷ 10 ∷ 0 ∷ 0 ∷ 10 ∷ 10 ∷ 10 ∷ 10 ∷ 10 ∷ 10 ∷ 10 ∷  -- behind a term
    10 ∷ 4 ∷ 4 ∷ 4 ∷ 3 ∷ 4 ∷ 4 ∷ 4 ∷ 4 ∷ 4 ∷ 4 ∷ 4 ∷ 4 ∷ 4 ∷  -- in a string
    10 ∷ 10 ∷ 10 ∷ 10 ∷ 10 ∷ 10 ∷ 10 ∷ 10 ∷ 6 ∷ 10 ∷ 10 ∷ 10 ∷ 10 ∷ 10 ∷  -- before `m`
    10 ∷ 10 ∷ 10 ∷ 10 ∷ 10 ∷ 10 ∷ 10 ∷ 10 ∷ 10 ∷ 7 ∷ 10 ∷ 10 ∷ 10 ∷ 10 ∷  -- before `p`
    10 ∷ 10 ∷ 10 ∷ 10 ∷ 10 ∷ 10 ∷ 10 ∷ 10 ∷ 10 ∷ 10 ∷ 8 ∷ 10 ∷ 10 ∷ 10 ∷  -- before `t`
    10 ∷ 10 ∷ 10 ∷ 10 ∷ 10 ∷ 10 ∷ 10 ∷ 10 ∷ 10 ∷ 10 ∷ 10 ∷ 3 ∷ 10 ∷ 10 ∷  -- before `y`
    10 ∷ 1 ∷ 1 ∷ 10 ∷ 10 ∷ 10 ∷ 10 ∷ 10 ∷ 10 ∷ 10 ∷ 10 ∷ 10 ∷ 10 ∷ 10 ∷  -- behind a minus
    []

unfoldable pub next : ℕ → ℕ → ℕ
next s c = get_or steps (s * class_count + c) state_count
