-- Laws of a part of a buffer that bytes are copied into, and of a part of a chunk that is taken. Assumes nothing.
use mathlib.Core.Path.{◌≡◌, sym, ap, ap₂, ◌∙◌}
use mathlib.Core.Bool.{true}
use mathlib.Core.List.{List, ◌++◌, append-nil, append_assoc}
use Prim.Native.Nat.{ℕ, ◌+◌, ◌-◌, ◌≤◌, ◌<◌, min}
use native.Mathlib.Nat.{zero-add}
use native.Mathlib.Omega.{arith}
use lib.ListN.{length, take, drop, length-drop, drop_of_length-le}
use lib.Seq.{length-take-le, take_all, take-add, take-take, take-length, drop_at, drop-drop}
use borrow.Author.Tests.{lt-ltb, le-ltb, le-leb, lt-leb}
use Rattle.base_bytes.specs.Bytes.{slice, index_of}
use Rattle.line_io.specs.declared.Input.{Input}
use Rattle.line_io.specs.declared.Line.{Line}
use Rattle.line_io.specs.Placing.{placed}
use Rattle.line_io.specs.Taking.{added_line, untaken, at_place, whole_line, taken}
use Rattle.line_io.specs.Putting.{used_with, buffer_with}

-- ---- copying

-- into the part from `at` on, which then is back in its place
module _ (t l : List ℕ) (at : ℕ) (room : at + length t ≤ length l) where
  pub copied_part : {m : List ℕ} → m ≡ take (length t) t ++ drop (length t) (take (length l - at) (drop at l))
      → take at l ++ (m ++ drop (length l - at) (drop at l)) ≡ placed t at l
  copied_part {m} e =
      let part : take (length l - at) (drop at l) ≡ drop at l = take_all (length l - at) (drop at l) (omega (arith, length-drop at l)) in
      ap (λ (r : List ℕ). take at l ++ (m ++ r)) (drop_of_length-le (drop at l) {i = length l - at} (omega (arith, length-drop at l)))
      ∙ ap (λ (r : List ℕ). take at l ++ r)
      (append-nil m ∙ e ∙ ap₂ (λ (a b : List ℕ). a ++ drop (length t) b) (take-length t) part ∙ ap (λ (r : List ℕ). t ++ r) (drop-drop (length t) at l))
      ∙ sym (append_assoc (take at l) t (drop (at + length t) l))

-- into the whole buffer
pub copied_front : (t l : List ℕ) {m : List ℕ} → m ≡ take (length t) t ++ drop (length t) l → m ≡ placed t 0 l
copied_front t l e = e ∙ ap₂ (λ (a : List ℕ) (n : ℕ). a ++ drop n l) (take-length t) (sym (zero-add (length t)))

-- ---- a part of a line

module _ (l : Line) (part line : List ℕ) where
  abbrev room : ℕ
  room = length line - l.kept

  pub added_some : room < length part
      → record { found = true; whole = l.whole; kept = l.kept + room; cut = true } ≡ added_line l (length part) (length line)
  added_some h = let e : min (length part) room ≡ room = omega arith in rw (lt-ltb room (length part) h, e)

  pub added_all : length part ≤ room
      → record { found = true; whole = l.whole; kept = l.kept + length part; cut = l.cut } ≡ added_line l (length part) (length line)
  added_all h = let e : min (length part) room ≡ length part = omega arith in rw (le-ltb room (length part) h, e)

-- ---- what is taken of a chunk

drop_take : (n m : ℕ) (l : List ℕ) → n ≤ m → m ≤ length l → drop n (take m l) ≡ take (m - n) (drop n l)
drop_take n m l h k =
    let e : m ≡ n + (m - n) = omega arith in
    ap (λ (i : ℕ). drop n (take i l)) e
    ∙ ap (drop n) (take-add n (m - n) l)
    ∙ drop_at (take n l) (take (m - n) (drop n l)) n (length-take-le n l (omega arith))

-- where a newline is sought, in the part of the chunk that is not taken yet
pub found_is : (i : Input) (chunk : List ℕ) → i.at ≤ i.end → i.end ≤ length chunk
    → {k : ℕ} → k ≡ index_of 10 (take (i.end - i.at) (drop i.at chunk)) → i.at + k ≡ i.at + index_of 10 (untaken i chunk)
unfolding slice
found_is i chunk h w e = ap (λ (k : ℕ). i.at + k) (e ∙ ap (index_of 10) (sym (drop_take i.at i.end chunk h w)))

-- e is where the line's bytes end in the chunk
module _ (i : Input) (chunk : List ℕ) (order : i.at ≤ i.end) (within : i.end ≤ length chunk)
    (e : ℕ) (found : e ≡ i.at + index_of 10 (untaken i chunk)) (most : e ≤ i.end) where
  abbrev u : List ℕ
  u = untaken i chunk

  abbrev n : ℕ
  n = index_of 10 u

  untaken_is : u ≡ take (i.end - i.at) (drop i.at chunk)
  unfolding slice
  untaken_is = drop_take i.at i.end chunk order within

  untaken_length : length u ≡ i.end - i.at
  untaken_length = ap length untaken_is ∙ length-take-le (i.end - i.at) (drop i.at chunk) (omega (arith, length-drop i.at chunk))

  -- the line's bytes
  pub part_is : take (e - i.at) (drop i.at chunk) ≡ take n u
  part_is =
      let k : e - i.at ≡ n = omega arith in
      ap (λ (j : ℕ). take j (drop i.at chunk)) k
      ∙ sym (ap (take n) untaken_is ∙ take-take n (i.end - i.at) (drop i.at chunk) (omega arith))

  part_length : length (take (e - i.at) (drop i.at chunk)) ≡ n
  part_length = ap length part_is ∙ length-take-le n u (omega (arith, untaken_length))

  module _ (l : Line) (size : ℕ) {more : Line} (added : more ≡ added_line l (length (take (e - i.at) (drop i.at chunk))) size) where
    added_is : more ≡ added_line l n size
    added_is = added ∙ ap (λ (k : ℕ). added_line l k size) part_length

    pub taken_newline : e < i.end
        → record { input = at_place i (e + 1); line = whole_line more } ≡ taken i l u size
    taken_newline h =
        rw (lt-ltb n (length u) (omega (arith, untaken_length)))
        (ap₂ (λ (k : ℕ) (m : Line). record { input = at_place i (k + 1); line = whole_line m })
        found added_is)

    pub taken_rest : i.end ≤ e → record { input = at_place i i.end; line = more } ≡ taken i l u size
    taken_rest h =
        rw (le-ltb n (length u) (omega (arith, untaken_length)))
        (ap (λ (m : Line). record { input = at_place i i.end; line = m }) added_is)

-- ---- what is put into the output buffer

module _ (used : ℕ) (text buffer : List ℕ) where
  abbrev first : ℕ
  first = min used (length buffer)

  pub put_behind : {at : ℕ} {m : List ℕ} → at ≡ first → length text ≤ length buffer - at → m ≡ placed text at buffer
      → (at + length text ≡ used_with used (length text) (length buffer)) × (m ≡ buffer_with used text buffer)
  put_behind {at} e h q =
      let b = le-leb (length text) (length buffer - first) (omega arith) in
      (rw b (omega arith), rw b (q ∙ ap (λ (k : ℕ). placed text k buffer) e))

  module _ (full : length buffer - first < length text) where
    pub put_front : {m : List ℕ} → length text ≤ length buffer → m ≡ placed text 0 buffer
        → (length text ≡ used_with used (length text) (length buffer)) × (m ≡ buffer_with used text buffer)
    put_front h e =
        let b = lt-leb (length text) (length buffer - first) full in
        let d = le-leb (length text) (length buffer) h in
        (rw (b, d), rw (b, d) e)

    pub put_nowhere : {n : ℕ} → length buffer < length text → n ≡ 0 → (n ≡ used_with used (length text) (length buffer)) × (buffer ≡ buffer_with used text buffer)
    put_nowhere h e =
        let b = lt-leb (length text) (length buffer - first) full in
        let d = lt-leb (length text) (length buffer) h in
        (rw (b, d) e, rw (b, d))
