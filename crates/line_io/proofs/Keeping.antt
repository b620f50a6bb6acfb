-- THE LINE BUFFER HAS THE FIRST BYTES OF THE LINE, in however many parts it comes, and behind them its old bytes. Assumes nothing.
use mathlib.Core.Path.{◌≡◌, refl, sym, ap, ap₂, ◌∙◌}
use mathlib.Core.Bool.{Bool, true, false, cond}
use mathlib.Core.List.{List, [], ◌++◌, append-nil}
use Prim.Native.Nat.{ℕ, ◌+◌, ◌-◌, ◌<◌, min}
use native.Mathlib.Nat.{zero-add}
use native.Mathlib.Omega.{arith}
use native.Mathlib.Decide.{dec_lt}
use lib.Dec.{ltb}
use lib.ListN.{length, take, drop, length-append, length-take, length-drop}
use lib.Seq.{take_all, take-nil, take-append-le, take-append-add, take_at, drop_at, drop-drop}
use borrow.Author.Tests.{lt-ltb, le-ltb, ltb-true, ltb-false}
use Rattle.line_io.specs.declared.Line.{Line}
use Rattle.line_io.specs.Placing.{placed}
use Rattle.line_io.specs.Taking.{no_line, added_line, added_bytes}

-- of a line that has the bytes s so far, the first are kept, as many as the line buffer holds, and `cut` says whether there are more
pub record Keeps (s old line : List ℕ) (l : Line) : Type 0 where
  pub count : l.kept ≡ min (length s) (length old)
  pub bytes : line ≡ placed (take (length old) s) 0 old
  pub more : l.cut ≡ ltb (length old) (length s)

-- the front of a buffer, in its place
front_is : (t old : List ℕ) → placed t 0 old ≡ t ++ drop (length t) old
front_is t old = ap (λ (n : ℕ). t ++ drop n old) (zero-add (length t))

pub none_kept : (line : List ℕ) → Keeps [] line line no_line
none_kept line =
    record {
      count = omega arith;
      bytes = sym (front_is (take (length line) []) line ∙ ap (λ (t : List ℕ). t ++ drop (length t) line) (take-nil (length line)));
      more = sym (le-ltb (length line) 0 (omega arith));
    }

-- no more is kept than the line buffer holds
pub keeps_size : (s old line : List ℕ) (l : Line) → Keeps s old line l → length line ≡ length old
keeps_size s old line l K =
    let t = take (length old) s in
    ap length (K.bytes ∙ front_is t old)
    ∙ length-append t (drop (length t) old)
    ∙ omega (arith, length-drop (length t) old, length-take (length old) s)

module _ (s old line part : List ℕ) (l : Line) (K : Keeps s old line l) where
  abbrev room : ℕ
  room = length line - l.kept

  abbrev p : List ℕ
  p = take room part

  abbrev t : List ℕ
  t = take (length old) s

  same : length line ≡ length old
  same = keeps_size s old line l K

  t_length : length t ≡ l.kept
  t_length = omega (arith, length-take (length old) s, K.count)

  line_is : line ≡ t ++ drop (length t) old
  line_is = K.bytes ∙ front_is t old

  -- what is in the buffer's front, and what is to be there
  front : take l.kept line ≡ t
  front = ap (take l.kept) line_is ∙ take_at t (drop (length t) old) l.kept t_length

  back : drop (l.kept + length p) line ≡ drop (l.kept + length p) old
  back =
      sym (drop-drop (length p) l.kept line)
      ∙ ap (drop (length p)) (ap (drop l.kept) line_is ∙ drop_at t (drop (length t) old) l.kept t_length ∙ ap (λ (n : ℕ). drop n old) t_length)
      ∙ drop-drop (length p) l.kept old

  there : Dec (length old < length s) → t ++ p ≡ take (length old) (s ++ part)
  there (yes h) =
      let z : room ≡ 0 = omega (arith, same, K.count) in
      ap (λ (n : ℕ). t ++ take n part) z ∙ append-nil t ∙ sym (take-append-le (length old) s part (omega arith))
  there (no h) =
      let z : length old ≡ length s + room = omega (arith, same, K.count) in
      ap (λ (q : List ℕ). q ++ p) (take_all (length old) s (omega arith)) ∙ sym (take-append-add s part room) ∙ ap (λ (n : ℕ). take n (s ++ part)) (sym z)

  longer : Dec (length old < length s) → cond (ltb room (length part)) true l.cut ≡ ltb (length old) (length s + length part)
  longer (yes h) = on (ltb room (length part)) ∙ sym (lt-ltb (length old) (length s + length part) (omega arith))
    where
      on : (b : Bool) → cond b true l.cut ≡ true
      on true = refl
      on false = K.more ∙ lt-ltb (length old) (length s) h
  longer (no h) = on (ltb room (length part)) refl
    where
      on : (b : Bool) → ltb room (length part) ≡ b → cond b true l.cut ≡ ltb (length old) (length s + length part)
      on true e = sym (lt-ltb (length old) (length s + length part) (omega (arith, same, K.count, ltb-true room (length part) e)))
      on false e =
          K.more
          ∙ le-ltb (length old) (length s) (omega arith)
          ∙ sym (le-ltb (length old) (length s + length part) (omega (arith, same, K.count, ltb-false room (length part) e)))

  -- THE LAW: with a part more
  pub added_keeps : Keeps (s ++ part) old (added_bytes l part line) (added_line l (length part) (length line))
  added_keeps =
      let a = length-append s part in
      let d = dec_lt (length old) (length s) in
      let both = there d in
      let n : l.kept + length p ≡ length (take (length old) (s ++ part)) = omega (arith, t_length, length-append t p, ap length both) in
      record {
        count = omega (arith, K.count, same);
        bytes =
            ap₂ (λ (x y : List ℕ). (x ++ p) ++ y) front back
            ∙ ap₂ (λ (x : List ℕ) (k : ℕ). x ++ drop k old) both n
            ∙ sym (front_is (take (length old) (s ++ part)) old);
        more = longer d ∙ ap (ltb (length old)) (sym a);
      }
