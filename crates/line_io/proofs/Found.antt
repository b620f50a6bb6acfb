-- WHAT `next_line` FINDS: all that was there is the line, its newline, and what waits for the next line. Assumes nothing.
use mathlib.Core.Path.{◌≡◌, refl, sym, ap, ◌∙◌}
use mathlib.Core.Bool.{Bool, true, false}
use mathlib.Core.List.{List, [], ◌∷◌, ◌++◌}
use Prim.Native.Nat.{ℕ, zero, suc, ◌+◌, ◌<◌}
use native.Mathlib.Numerals.{add-one}
use native.Mathlib.Omega.{arith}
use lib.Dec.{eqb}
use lib.ListN.{length, take, drop, get_or, length-take, drop_of_length-le}
use lib.Seq.{take_all, take_at, get_or-take, split_at}
use borrow.Author.Tests.{ltb-true, ltb-false, eqb-true, eqb-false}
use Rattle.base_bytes.specs.Bytes.{index_of, index_after}
use Rattle.line_io.specs.declared.Input.{Input}
use Rattle.line_io.specs.declared.Output.{Output}
use Rattle.line_io.specs.declared.State.{State}
use Rattle.line_io.specs.Taking.{untaken}
use Rattle.line_io.specs.Lines.{newline_in, first_line, there, Finds}
use Rattle.line_io.proofs.Finding.{index_le}

-- the first newline is one, and none is before it
at_index : (v : List ℕ) → index_of 10 v < length v → get_or v (index_of 10 v) 0 ≡ 10
unfolding index_of index_after
at_index [] h = absurd (omega arith)
at_index (x ∷ v) h = on (eqb x 10) refl (at_index v) h
  where
    on : (b : Bool) → eqb x 10 ≡ b → (index_of 10 v < length v → get_or v (index_of 10 v) 0 ≡ 10) → index_after b (index_of 10 v) < suc (length v)
        → get_or (x ∷ v) (index_after b (index_of 10 v)) 0 ≡ 10
    on true e f h = eqb-true x 10 e
    on false e f h = f (omega arith)

before_index : (v : List ℕ) (k : ℕ) → k < index_of 10 v → get_or v k 0 ≡ 10 → ⊥
unfolding index_of index_after
before_index [] k h q = omega arith
before_index (x ∷ v) zero h q = on (eqb x 10) refl h
  where
    on : (b : Bool) → eqb x 10 ≡ b → 0 < index_after b (index_of 10 v) → ⊥
    on true e h = omega arith
    on false e h = eqb-false x 10 e q
before_index (x ∷ v) (suc k) h q = on (eqb x 10) h (λ p. before_index v k p q)
  where
    on : (b : Bool) → suc k < index_after b (index_of 10 v) → (k < index_of 10 v → ⊥) → ⊥
    on true h f = omega arith
    on false h f = f (omega arith)

-- v is all that was there: what waited in the chunk, and behind it what came
pub record LineIs (v waiting line line' : List ℕ) (r : State) : Type 0 where
  -- the line buffer's first bytes are the line's
  pub kept : take r.line.kept line' ≡ take (length line) (first_line v)
  -- no byte of the line is a newline
  pub plain : (k : ℕ) → k < length (first_line v) → get_or (first_line v) k 0 ≡ 10 → ⊥
  -- behind its newline is what waits; without one nothing does, and the input's end was met
  pub newline : newline_in v ≡ true → v ≡ first_line v ++ 10 ∷ waiting
  pub end : newline_in v ≡ false → (v ≡ first_line v) × (waiting ≡ []) × (r.line.whole ≡ true → r.input.ended ≡ true)

pub line_is : {i : Input} {o : Output} {r : State} {chunk chunk' line line' : List ℕ} (F : Finds i o r chunk chunk' line line')
    → LineIs (there i chunk F.came) (untaken r.input chunk') line line' r
line_is {i} {o} {r} {chunk} {chunk'} {line} {line'} F =
    record {
      kept = ap (take r.line.kept) F.bytes ∙ take_at t (drop (0 + length t) line) r.line.kept count;
      plain = λ k h q.
          let m : k < index_of 10 v = omega (arith, length-take (index_of 10 v) v) in
          before_index v k m (sym (get_or-take (index_of 10 v) v k 0 m) ∙ q);
      newline = λ e.
          let h = ltb-true (index_of 10 v) (length v) e in
          split_at v (index_of 10 v) 0 h
          ∙ ap (λ (x : ℕ). first_line v ++ x ∷ drop (suc (index_of 10 v)) v) (at_index v h)
          ∙ ap (λ (x : List ℕ). first_line v ++ 10 ∷ x) (ap (λ (n : ℕ). drop n v) (sym (add-one (index_of 10 v))) ∙ sym F.rest);
      end = λ e.
          let h = ltb-false (index_of 10 v) (length v) e in (
            sym (take_all (index_of 10 v) v h),
            F.rest ∙ drop_of_length-le v {i = index_of 10 v + 1} (omega arith),
            F.end e,
          );
    }
  where
    v : List ℕ
    v = there i chunk F.came

    t : List ℕ
    t = take (length line) (first_line v)

    count : length t ≡ r.line.kept
    count =
        length-take (length line) (first_line v)
        ∙ omega (arith, length-take (index_of 10 v) v, index_le v, ap (λ (l : Rattle.line_io.specs.declared.Line.Line). l.kept) F.known)
