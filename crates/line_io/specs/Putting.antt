-- What putting bytes behind those that wait does with the output buffer. `used` of its bytes wait, but no more than it has.
use Rattle.std.specs.Prelude.{◌≡◌, true, cond, List, ℕ, ◌+◌, ◌-◌, ◌≤◌, min, leb, length}
use Rattle.line_io.specs.declared.Output.{Output}
use Rattle.line_io.specs.Placing.{placed}

-- the bytes have room behind those that wait; or in the whole buffer, once that is written; or nowhere, and are written at once
abbrev pub used_with : ℕ → ℕ → ℕ → ℕ
used_with used n size = cond (leb n (size - min used size)) (min used size + n) (cond (leb n size) n 0)

abbrev pub buffer_with : ℕ → List ℕ → List ℕ → List ℕ
buffer_with used text buffer =
    cond (leb (length text) (length buffer - min used (length buffer)))
    (placed text (min used (length buffer)) buffer)
    (cond (leb (length text) (length buffer)) (placed text 0 buffer) buffer)

-- all that waited is written, or cannot be: behind a failed write nothing more is
pub record Written (o r : Output) : Type 0 where
  pub used : r.used ≡ 0
  pub failed : o.failed ≡ true → r.failed ≡ true

-- the text behind what waits: where it has room, nothing is written
pub record Puts (o r : Output) (text buffer buffer' : List ℕ) : Type 0 where
  pub used : r.used ≡ used_with o.used (length text) (length buffer)
  pub bytes : buffer' ≡ buffer_with o.used text buffer
  pub quiet : length text ≤ length buffer - min o.used (length buffer) → r.failed ≡ o.failed
  pub failed : o.failed ≡ true → r.failed ≡ true
