-- A LINE IS FOUND STEP BY STEP: what holds behind so many turns, and that a turn more keeps it or finds the line. Assumes nothing.
use mathlib.Core.Path.{◌≡◌, refl, sym, ap, ap₂, subst, ◌∙◌}
use mathlib.Core.Bool.{Bool, true, false, cond, true≢false}
use mathlib.Core.List.{List, [], ◌∷◌, ◌++◌, append-nil, append_assoc}
use mathlib.Core.Logic.{◌⊎◌, inl, inr}
use Prim.Native.Nat.{ℕ, zero, suc, ◌+◌, ◌-◌, ◌≤◌, ◌<◌, min}
use native.Mathlib.Nat.{zero-add, add-zero}
use native.Mathlib.Omega.{arith}
use lib.Dec.{eqb, ltb}
use lib.ListN.{length, take, drop, length-append, length-take, length-drop, take-append-drop, drop_of_length-le}
use lib.Seq.{length-take-le, take_all, take-append-add, drop-append-add, drop-drop, take-nil}
use borrow.Author.Tests.{lt-ltb, le-ltb, ltb-true, ltb-false, eq-eqb, ne_eqb}
use Rattle.base_bytes.specs.Bytes.{slice, index_of, index_after}
use Rattle.line_io.specs.declared.Input.{Input}
use Rattle.line_io.specs.declared.Line.{Line}
use Rattle.line_io.specs.declared.Output.{Output}
use Rattle.line_io.specs.declared.State.{State}
use Rattle.line_io.specs.declared.Taken.{Taken}
use Rattle.line_io.specs.Placing.{placed}
use Rattle.line_io.specs.Putting.{Written}
use Rattle.line_io.specs.Taking.{no_line, added_line, added_bytes, untaken, in_chunk, at_place, whole_line, taken, stepped}
use Rattle.line_io.specs.Lines.{IsPrefixLen, newline_in, first_line, behind_line, Fills, waits, dry, reads, Refills, Holds, Steps}
use Rattle.line_io.specs.Lines.{Stays, Reads, Asks, quiet, over, more, there, most_turns, Finds}
use Rattle.line_io.proofs.Keeping.{Keeps, keeps_size, none_kept, added_keeps}

-- ---- where the first newline is

pub index_le : (v : List ℕ) → index_of 10 v ≤ length v
unfolding index_of index_after
index_le [] = omega arith
index_le (x ∷ v) = on (eqb x 10) (index_le v)
  where
    on : (b : Bool) → index_of 10 v ≤ length v → index_after b (index_of 10 v) ≤ suc (length v)
    on true h = omega arith
    on false h = omega arith

index_append : (b v : List ℕ) → index_of 10 b ≡ length b → index_of 10 (b ++ v) ≡ length b + index_of 10 v
unfolding index_of index_after
index_append [] v e = sym (zero-add (index_of 10 v))
index_append (x ∷ b) v e = on (eqb x 10) (index_append b v) e
  where
    on : (y : Bool) → (index_of 10 b ≡ length b → index_of 10 (b ++ v) ≡ length b + index_of 10 v) → index_after y (index_of 10 b) ≡ suc (length b)
        → index_after y (index_of 10 (b ++ v)) ≡ suc (length b) + index_of 10 v
    on true h q = absurd (omega arith)
    on false h q = let i = h (omega arith) in omega arith

none_index : (v : List ℕ) → newline_in v ≡ false → index_of 10 v ≡ length v
none_index v e = omega (arith, index_le v, ltb-false (index_of 10 v) (length v) e)

index_none : (v : List ℕ) → index_of 10 v ≡ length v → newline_in v ≡ false
index_none v e = le-ltb (index_of 10 v) (length v) (omega arith)

empty_is : (v : List ℕ) → length v ≡ 0 → v ≡ []
empty_is [] e = refl
empty_is (x ∷ v) e = absurd (omega arith)

-- behind bytes without one
module _ (b v : List ℕ) (plain : index_of 10 b ≡ length b) where
  first_append : first_line (b ++ v) ≡ b ++ first_line v
  first_append = ap (λ (n : ℕ). take n (b ++ v)) (index_append b v plain) ∙ take-append-add b v (index_of 10 v)

  behind_append : behind_line (b ++ v) ≡ behind_line v
  behind_append =
      let e : index_of 10 (b ++ v) + 1 ≡ length b + (index_of 10 v + 1) = omega (arith, index_append b v plain) in
      ap (λ (n : ℕ). drop n (b ++ v)) e ∙ drop-append-add b v (index_of 10 v + 1)

  newline_append : newline_in (b ++ v) ≡ newline_in v
  newline_append = on (newline_in v) refl
    where
      on : (y : Bool) → newline_in v ≡ y → newline_in (b ++ v) ≡ y
      on true e =
          lt-ltb (index_of 10 (b ++ v)) (length (b ++ v)) (omega (arith, index_append b v plain, length-append b v, ltb-true (index_of 10 v) (length v) e))
      on false e =
          le-ltb (index_of 10 (b ++ v)) (length (b ++ v)) (omega (arith, index_append b v plain, length-append b v, ltb-false (index_of 10 v) (length v) e))

-- ---- what is taken

untaken_length : (i : Input) (chunk : List ℕ) → length (untaken i chunk) ≡ min i.end (length chunk) - i.at
unfolding slice
untaken_length i chunk = length-drop i.at (take i.end chunk) ∙ ap (λ (n : ℕ). n - i.at) (length-take i.end chunk)

pub some_untaken : (i : Input) (chunk : List ℕ) → i.at < i.end → i.end ≤ length chunk → 0 < length (untaken i chunk)
some_untaken i chunk h k = omega (arith, untaken_length i chunk)

pub none_untaken : (i : Input) (chunk : List ℕ) → i.end ≤ i.at → untaken i chunk ≡ []
none_untaken i chunk h = empty_is (untaken i chunk) (omega (arith, untaken_length i chunk))

pub in_chunk_same : (i : Input) (chunk : List ℕ) → untaken (in_chunk i (length chunk)) chunk ≡ untaken i chunk
unfolding slice
in_chunk_same i chunk = ap (drop i.at) (on (ltb i.end (length chunk)) refl)
  where
    on : (b : Bool) → ltb i.end (length chunk) ≡ b → take (min i.end (length chunk)) chunk ≡ take i.end chunk
    on true e =
        let k : min i.end (length chunk) ≡ i.end = omega (arith, ltb-true i.end (length chunk) e) in
        ap (λ (n : ℕ). take n chunk) k
    on false e =
        take_all (min i.end (length chunk)) chunk (omega (arith, ltb-false i.end (length chunk) e))
        ∙ sym (take_all i.end chunk (ltb-false i.end (length chunk) e))

untaken_front : (i : Input) (chunk : List ℕ) → i.at ≡ 0 → untaken i chunk ≡ take i.end chunk
unfolding slice
untaken_front i chunk e = ap (λ (n : ℕ). drop n (take i.end chunk)) e

-- a line by its parts
line_is : {l m : Line} → l.found ≡ m.found → l.whole ≡ m.whole → l.kept ≡ m.kept → l.cut ≡ m.cut → l ≡ m
line_is e f g h i = record { found = e i; whole = f i; kept = g i; cut = h i }

module _ (i : Input) (l : Line) (u : List ℕ) (size : ℕ) {t : Taken} (E : t ≡ stepped i l u size) where
  abbrev n : ℕ
  n = index_of 10 u

  abbrev some : Bool
  some = ltb 0 (length u)

  abbrev on_newline : Taken
  on_newline = record { input = at_place i (i.at + n + 1); line = whole_line (added_line l n size) }

  abbrev on_rest : Taken
  on_rest = record { input = at_place i i.end; line = added_line l n size }

  -- whatever holds in the three cases
  by_case : (P : Taken → Type 0)
      → (some ≡ true → newline_in u ≡ true → P on_newline)
      → (some ≡ true → newline_in u ≡ false → P on_rest)
      → (some ≡ false → P (record { input = i; line = whole_line l }))
      → P t
  by_case P f g h = rw E (on some refl (newline_in u) refl)
    where
      on : (y : Bool) → some ≡ y → (z : Bool) → newline_in u ≡ z
          → P (cond y (cond z on_newline on_rest) (record { input = i; line = whole_line l }))
      on true e true q = f e q
      on true e false q = g e q
      on false e z q = h e

  pub stepped_end : t.input.end ≡ i.end
  stepped_end = by_case (λ (x : Taken). x.input.end ≡ i.end) (λ e q. refl) (λ e q. refl) (λ e. refl)

  pub stepped_ended : t.input.ended ≡ i.ended
  stepped_ended = by_case (λ (x : Taken). x.input.ended ≡ i.ended) (λ e q. refl) (λ e q. refl) (λ e. refl)

  pub stepped_failed : t.input.failed ≡ i.failed
  stepped_failed = by_case (λ (x : Taken). x.input.failed ≡ i.failed) (λ e q. refl) (λ e q. refl) (λ e. refl)

  nothing : some ≡ false → n ≡ 0
  nothing e = omega (arith, index_le u, ltb-false 0 (length u) e)

  pub stepped_kept : t.line.kept ≡ (added_line l n size).kept
  stepped_kept =
      by_case (λ (x : Taken). x.line.kept ≡ (added_line l n size).kept) (λ e q. refl) (λ e q. refl) (λ e. omega (arith, nothing e))

  pub stepped_cut : t.line.cut ≡ (added_line l n size).cut
  stepped_cut =
      by_case (λ (x : Taken). x.line.cut ≡ (added_line l n size).cut) (λ e q. refl) (λ e q. refl)
      (λ e. sym (ap (λ (y : Bool). cond y true l.cut) (le-ltb (size - l.kept) n (omega (arith, nothing e)))))

  pub stepped_found : t.line.found ≡ cond some true l.found
  stepped_found =
      by_case (λ (x : Taken). x.line.found ≡ cond some true l.found)
      (λ e q. sym (ap (λ (y : Bool). cond y true l.found) e))
      (λ e q. sym (ap (λ (y : Bool). cond y true l.found) e))
      (λ e. sym (ap (λ (y : Bool). cond y true l.found) e))

  -- it is whole where its newline is met, or nothing is there to take
  pub stepped_whole : l.whole ≡ false → t.line.whole ≡ cond some (newline_in u) true
  stepped_whole o =
      by_case (λ (x : Taken). x.line.whole ≡ cond some (newline_in u) true)
      (λ e q. sym (ap₂ (λ (y z : Bool). cond y z true) e q))
      (λ e q. o ∙ sym (ap₂ (λ (y z : Bool). cond y z true) e q))
      (λ e. sym (ap (λ (y : Bool). cond y (newline_in u) true) e))

  module _ (chunk : List ℕ) (same : u ≡ untaken i chunk) where
    pub stepped_rest : untaken t.input chunk ≡ behind_line u
    unfolding slice
    stepped_rest =
        by_case (λ (x : Taken). untaken x.input chunk ≡ behind_line u)
        (λ e q.
        let k : i.at + n + 1 ≡ i.at + (n + 1) = omega arith in
        ap (λ (j : ℕ). drop j (take i.end chunk)) k ∙ sym (drop-drop (n + 1) i.at (take i.end chunk)) ∙ ap (drop (n + 1)) (sym same))
        (λ e q.
        drop_of_length-le (take i.end chunk) {i = i.end} (omega (arith, length-take i.end chunk))
        ∙ sym (drop_of_length-le u {i = n + 1} (omega (arith, none_index u q))))
        (λ e. sym same ∙ empty_is u (omega (arith, ltb-false 0 (length u) e)) ∙ sym (drop_of_length-le u {i = n + 1} (omega (arith, ltb-false 0 (length u) e))))

-- ---- a step by its parts

added_nothing : (l : Line) (line : List ℕ) → line ≡ added_bytes l [] line
added_nothing l line =
    let room = length line - l.kept in
    let none : take room [] ≡ [] = take-nil room in
    sym
    (ap (λ (x : List ℕ). (take l.kept line ++ x) ++ drop (l.kept + length x) line) none
    ∙ ap₂ (λ (x : List ℕ) (k : ℕ). x ++ drop k line) (append-nil (take l.kept line)) (add-zero l.kept)
    ∙ take-append-drop l.kept line)

-- b is the input as far as the chunk reaches, i what is to be taken
module _ (s : State) (chunk chunk' line : List ℕ) (o : Output) (b i : Input) (reach : b ≡ in_chunk s.input (length chunk))
    (R : Refills b i chunk chunk') (H : Holds (ltb b.at b.end) s.output o) where
  waits_is : ltb b.at b.end ≡ ltb 0 (length (untaken s.input chunk))
  waits_is = ap (λ (x : Input). ltb x.at x.end) reach ∙ on (ltb s.input.at most) refl
    where
      most : ℕ
      most = min s.input.end (length chunk)

      n : ℕ
      n = length (untaken s.input chunk)

      on : (y : Bool) → ltb s.input.at most ≡ y → ltb s.input.at most ≡ ltb 0 n
      on true e = e ∙ sym (lt-ltb 0 n (omega (arith, untaken_length s.input chunk, ltb-true s.input.at most e)))
      on false e = e ∙ sym (le-ltb 0 n (omega (arith, untaken_length s.input chunk, ltb-false s.input.at most e)))

  holds_is : Holds (ltb 0 (length (untaken s.input chunk))) s.output o
  holds_is = subst (λ (y : Bool). Holds y s.output o) waits_is H

  refills_is : Refills (in_chunk s.input (length chunk)) i chunk chunk'
  refills_is = subst (λ (x : Input). Refills x i chunk chunk') reach R

  pub step_takes : {t : Taken} {line' : List ℕ} → i.at < i.end → t ≡ taken i s.line (untaken i chunk') (length line)
      → line' ≡ added_bytes s.line (first_line (untaken i chunk')) line
      → Steps s (record { input = t.input; output = o; line = t.line }) chunk chunk' line line'
  step_takes h e q =
      let some = lt-ltb 0 (length (untaken i chunk')) (some_untaken i chunk' h R.within) in
      record { input = i; refills = refills_is; taking = rw some e; bytes = q; holds = holds_is }

  pub step_ends : i.end ≤ i.at → Steps s (record { input = i; output = o; line = whole_line s.line }) chunk chunk' line line
  step_ends h =
      let z = none_untaken i chunk' h in
      record {
        input = i;
        refills = refills_is;
        taking = rw (le-ltb 0 (length (untaken i chunk')) (omega (arith, ap length z)));
        bytes = added_nothing s.line line ∙ ap (λ (x : List ℕ). added_bytes s.line x line) (sym (ap first_line z ∙ take-nil (index_of 10 [])));
        holds = holds_is;
      }

-- what is kept of a line is counted in its buffer
counted : (old : List ℕ) {line : List ℕ} {k : ℕ} (v : List ℕ) → k ≡ min (index_of 10 v) (length old)
    → line ≡ placed (take (length old) (first_line v)) 0 old → IsPrefixLen k line
counted old {line} {k} v e q =
    let t = take (length old) (first_line v) in
    let m : length line ≡ length old =
    ap length q ∙ length-append t (drop (0 + length t) old) ∙ omega (arith, length-drop (0 + length t) old, length-take (length old) (first_line v)) in
    let h : k ≤ length line = omega arith in
    (h, sym (length-take-le k line h))

-- ---- turn by turn

module _ (i : Input) (o : Output) (chunk line : List ℕ) where
  -- nothing was asked for yet; or reads brought bytes, and all are taken
  pub data Going (n : ℕ) (t : State) (c came : List ℕ) : Type 0 where
    still : Stays i t chunk c came → t.output ≡ o → n ≤ 1 → (0 < n → untaken t.input c ≡ []) → Going n t c came
    going : newline_in (untaken i chunk) ≡ false → Reads i t chunk c came → Written o t.output → t.input.ended ≡ false
        → untaken t.input c ≡ [] → Going n t c came

  -- no newline was met in n turns: `b` is taken
  pub record Sofar (n : ℕ) (t : State) (c l : List ℕ) : Type 0 where
    pub came : List ℕ
    pub b : List ℕ
    pub all : there i chunk came ≡ b ++ untaken t.input c
    pub plain : index_of 10 b ≡ length b
    pub found : t.line.found ≡ ltb 0 (length b)
    pub unended : t.line.whole ≡ false
    pub keeps : Keeps b line l t.line
    pub long : n ≤ length b
    pub asks : Going n t c came

  -- or the line is found
  abbrev pub Turn : ℕ → State → List ℕ → List ℕ → Type 0
  Turn n t c l = (Sofar n t c l) ⊎ ((t.line.whole ≡ true) × Finds i o t chunk c line l)

  -- where it has not ended
  pub turn_on : {n : ℕ} {t : State} {c l : List ℕ} → t.line.whole ≡ false → Turn n t c l → Sofar n t c l
  turn_on h (inl F) = F
  turn_on h (inr F) = absurd (true≢false (sym F.0 ∙ h))

  -- where it has
  pub turn_done : {n : ℕ} {t : State} {c l : List ℕ} → t.line.whole ≡ true → Turn n t c l → Finds i o t chunk c line l
  turn_done h (inl F) = absurd (true≢false (sym h ∙ F.unended))
  turn_done h (inr F) = F.1

  pub sofar_none : Sofar 0 (record { input = i; output = o; line = no_line }) chunk line
  unfolding index_of
  sofar_none =
      record {
        came = [];
        b = [];
        all = append-nil (untaken i chunk);
        plain = none;
        found = refl;
        unended = refl;
        keeps = none_kept line;
        long = omega arith;
        asks = still (record { none = refl; same = refl; ended = refl; failed = refl }) refl (omega arith) (λ h. absurd (omega arith));
      }
    where
      none : index_of 10 [] ≡ 0
      none = refl

  pub sofar_kept : {n : ℕ} {t : State} {c l : List ℕ} → Sofar n t c l → t.line.kept ≤ length l
  sofar_kept {n} {t} {c} {l} F = omega (arith, F.keeps.count, keeps_size F.b line l t.line F.keeps)

  module _ (n : ℕ) (t r : State) (c c' l l' : List ℕ) (F : Sofar n t c l) (S : Steps t r c c' l l') where
    abbrev u : List ℕ
    u = untaken i chunk

    -- what there is to take
    abbrev v : List ℕ
    v = untaken S.input c'

    E : record { input = r.input; line = r.line } ≡ stepped S.input t.line v (length l)
    E = S.taking

    before : untaken (in_chunk t.input (length c)) c ≡ untaken t.input c
    before = in_chunk_same t.input c

    -- where all was taken, what was met so far is b
    met : untaken t.input c ≡ [] → there i chunk F.came ≡ F.b
    met e = F.all ∙ ap (λ (x : List ℕ). F.b ++ x) e ∙ append-nil F.b

    no_newline : untaken t.input c ≡ [] → newline_in (there i chunk F.came) ≡ false
    no_newline e = ap newline_in (met e) ∙ index_none F.b F.plain

    -- how it went: by the rest of the chunk, by the end that was met before, or by a read
    pub data Went (came : List ℕ) : Type 0 where
      held : Stays i r chunk c' came → r.output ≡ o → n ≡ 0 → 0 < length v → u ≡ F.b ++ v → Went came
      over_now : newline_in u ≡ false → i.ended ≡ true → Stays i r chunk c' came → Written o r.output → v ≡ [] → r.input.ended ≡ true → Went came
      read_now : newline_in u ≡ false → Reads i r chunk c' came → Written o r.output → r.input.end ≡ length v → Went came

    pub record Step : Type 0 where
      pub came : List ℕ
      pub all : there i chunk came ≡ F.b ++ v
      pub went : Went came

    written_more : {q : Output} → Written o t.output → Written t.output q → Written o q
    written_more w x = record { used = x.used; failed = λ e. x.failed (w.failed e) }

    -- what was written where all was taken
    flushed : untaken t.input c ≡ [] → Written t.output r.output
    flushed e = S.holds.written (le-ltb 0 (length (untaken t.input c)) (omega (arith, ap length e)))

    how : Fills (in_chunk t.input (length c)) S.input c c' → Going n t c F.came → Step
    how (waits some same e) (still st out most d) =
        let nonempty : 0 < length (untaken t.input c) = rw before at some in
        let w : v ≡ untaken t.input c = ap₂ untaken e same ∙ before in
        let all : there i chunk F.came ≡ F.b ++ v = F.all ∙ ap (λ (x : List ℕ). F.b ++ x) (sym w) in
        record {
          came = F.came;
          all = all;
          went =
              held
              (record {
                none = st.none;
                same = same ∙ st.same;
                ended = stepped_ended S.input t.line v (length l) E ∙ ap (λ (x : Input). x.ended) e ∙ st.ended;
                failed = stepped_failed S.input t.line v (length l) E ∙ ap (λ (x : Input). x.failed) e ∙ st.failed;
              })
              (S.holds.stays (lt-ltb 0 (length (untaken t.input c)) nonempty) ∙ out)
              (on n most d nonempty)
              (omega (arith, ap length w))
              (sym (append-nil u) ∙ ap (λ (x : List ℕ). u ++ x) (sym st.none) ∙ all);
        }
      where
        on : (m : ℕ) → m ≤ 1 → (0 < m → untaken t.input c ≡ []) → 0 < length (untaken t.input c) → m ≡ 0
        on zero h d p = refl
        on (suc m) h d p = absurd (omega (arith, ap length (d (omega arith))))
    how (waits some same e) (going p R W g d) = absurd (omega (arith, ap length (before ∙ d)))
    how (dry none ov same e) (still st out most d) =
        let z : untaken t.input c ≡ [] = sym before ∙ none in
        let w : v ≡ [] = untaken_front S.input c' (ap (λ (x : Input). x.at) e) ∙ ap (λ (k : ℕ). take k c') (ap (λ (x : Input). x.end) e) in
        record {
          came = F.came;
          all = F.all ∙ ap (λ (x : List ℕ). F.b ++ x) (z ∙ sym w);
          went =
              over_now
              (ap newline_in (sym (append-nil u) ∙ ap (λ (x : List ℕ). u ++ x) (sym st.none)) ∙ no_newline z)
              (sym st.ended ∙ ov)
              (record {
                none = st.none;
                same = same ∙ st.same;
                ended = stepped_ended S.input t.line v (length l) E ∙ ap (λ (x : Input). x.ended) e ∙ sym ov ∙ st.ended;
                failed = stepped_failed S.input t.line v (length l) E ∙ ap (λ (x : Input). x.failed) e ∙ st.failed;
              })
              (rw out at flushed z)
              w
              (stepped_ended S.input t.line v (length l) E ∙ ap (λ (x : Input). x.ended) e);
        }
    how (dry none ov same e) (going p R W g d) = absurd (true≢false (sym ov ∙ g))
    how (reads none g at e f) G = fresh (sym before ∙ none) (on G)
      where
        w : v ≡ take S.input.end c'
        w = untaken_front S.input c' at

        end_is : r.input.end ≡ S.input.end
        end_is = stepped_end S.input t.line v (length l) E

        on : Going n t c F.came → (newline_in u ≡ false) × (i.ended ≡ false) × Written o r.output
        on (still st out most d) =
            let z = sym before ∙ none in
            (ap newline_in (sym (append-nil u) ∙ ap (λ (x : List ℕ). u ++ x) (sym st.none)) ∙ no_newline z, sym st.ended ∙ g, rw out at flushed z)
        on (going p R W q d) = (p, R.going, written_more W (flushed d))

        fresh : untaken t.input c ≡ [] → (newline_in u ≡ false) × (i.ended ≡ false) × Written o r.output → Step
        fresh z h =
            record {
              came = F.came ++ v;
              all = sym (append_assoc u F.came v) ∙ ap (λ (x : List ℕ). x ++ v) (met z);
              went =
                  read_now
                  h.0
                  (record {
                    going = h.1;
                    earlier = F.came;
                    all = ap (λ (x : List ℕ). F.came ++ x) (w ∙ ap (λ (k : ℕ). take k c') (sym end_is));
                    within = omega (arith, end_is, S.refills.within);
                    plain = no_newline z;
                    ended = stepped_ended S.input t.line v (length l) E ∙ e ∙ ap (λ (k : ℕ). eqb k 0) (sym end_is);
                    failed = λ q. end_is ∙ f (sym (stepped_failed S.input t.line v (length l) E) ∙ q);
                  })
                  h.2
                  (end_is ∙ sym (ap length w ∙ length-take-le S.input.end c' S.refills.within));
            }

    -- the line's bytes with those that the step takes
    K : Keeps (F.b ++ first_line v) line l' (added_line t.line (length (first_line v)) (length l))
    K = rw S.bytes (added_keeps F.b line l (first_line v) t.line F.keeps)

    first_length : length (first_line v) ≡ index_of 10 v
    first_length = length-take-le (index_of 10 v) v (index_le v)

    size : length l ≡ length line
    size = keeps_size F.b line l t.line F.keeps

    whole_is : r.line.whole ≡ cond (ltb 0 (length v)) (newline_in v) true
    whole_is = stepped_whole S.input t.line v (length l) E F.unended

    long_is : length (F.b ++ first_line v) ≡ index_of 10 (F.b ++ v)
    long_is = omega (arith, length-append F.b (first_line v), first_length, index_append F.b v F.plain)

    kept_is : r.line.kept ≡ min (index_of 10 (F.b ++ v)) (length line)
    kept_is =
        stepped_kept S.input t.line v (length l) E
        ∙ ap (λ (k : ℕ). (added_line t.line k (length l)).kept) (sym first_length)
        ∙ K.count
        ∙ ap (λ (k : ℕ). min k (length line)) long_is

    cut_is : r.line.cut ≡ ltb (length line) (index_of 10 (F.b ++ v))
    cut_is =
        stepped_cut S.input t.line v (length l) E
        ∙ ap (λ (k : ℕ). (added_line t.line k (length l)).cut) (sym first_length)
        ∙ K.more
        ∙ ap (ltb (length line)) long_is

    found_is : r.line.found ≡ ltb 0 (length (F.b ++ v))
    found_is = stepped_found S.input t.line v (length l) E ∙ on (ltb 0 (length v)) refl
      where
        on : (y : Bool) → ltb 0 (length v) ≡ y → cond y true t.line.found ≡ ltb 0 (length (F.b ++ v))
        on true e = sym (lt-ltb 0 (length (F.b ++ v)) (omega (arith, length-append F.b v, ltb-true 0 (length v) e)))
        on false e =
            let z = empty_is v (omega (arith, ltb-false 0 (length v) e)) in
            F.found ∙ ap (λ (x : List ℕ). ltb 0 (length x)) (sym (append-nil F.b) ∙ ap (λ (x : List ℕ). F.b ++ x) (sym z))

    bytes_are : l' ≡ placed (take (length line) (first_line (F.b ++ v))) 0 line
    bytes_are = K.bytes ∙ ap (λ (x : List ℕ). placed (take (length line) x) 0 line) (sym (first_append F.b v F.plain))

    rest_is : untaken r.input c' ≡ behind_line v
    rest_is = stepped_rest S.input t.line v (length l) E c' refl

    went_on : Step → Turn (n + 1) r c' l'
    went_on G = on (ltb 0 (length v)) refl (newline_in v) refl G.went
      where
        all_is : there i chunk G.came ≡ F.b ++ v
        all_is = G.all

        -- the line's end is met
        done : r.line.whole ≡ true → (newline_in v ≡ false → r.input.ended ≡ true) → Asks i o r chunk c' G.came
            → Finds i o r chunk c' line l'
        done w e a =
            record {
              came = G.came;
              known = rw all_is (line_is found_is refl kept_is cut_is);
              bytes = rw all_is bytes_are;
              counts = counted line (F.b ++ v) kept_is bytes_are;
              rest = rw all_is (rest_is ∙ sym (behind_append F.b v F.plain));
              newline = λ q. w;
              end = λ q p. e (sym (newline_append F.b v F.plain) ∙ ap newline_in (sym all_is) ∙ q);
              long = λ p. absurd (true≢false (sym w ∙ p));
              asks = a;
            }

        asked : (newline_in v ≡ true) ⊎ (v ≡ []) → Went G.came → Asks i o r chunk c' G.came
        asked (inl q) (held st out z some e) = quiet (ap newline_in e ∙ newline_append F.b v F.plain ∙ q) st out
        asked (inr q) (held st out z some e) = absurd (omega (arith, ap length q))
        asked x (over_now p e st w z d) = over p e st w
        asked x (read_now p R w k) = more p R w

        -- it is not
        goes : 0 < length v → newline_in v ≡ false → Went G.came → Going (n + 1) r c' G.came
        goes some q (held st out z _ e) = still st out (omega arith) (λ h. empty)
          where
            empty : untaken r.input c' ≡ []
            empty = rest_is ∙ drop_of_length-le v {i = index_of 10 v + 1} (omega (arith, none_index v q))
        goes some q (over_now p e st w z d) = absurd (omega (arith, ap length z))
        goes some q (read_now p R w k) =
            going p R w (R.ended ∙ ne_eqb r.input.end 0 (λ z. absurd (omega arith)))
            (rest_is ∙ drop_of_length-le v {i = index_of 10 v + 1} (omega (arith, none_index v q)))

        on : (y : Bool) → ltb 0 (length v) ≡ y → (z : Bool) → newline_in v ≡ z → Went G.came → Turn (n + 1) r c' l'
        on true e true q W =
            let w = whole_is ∙ ap₂ (λ (y z : Bool). cond y z true) e q in
            inr (w, done w (λ p. absurd (true≢false (sym q ∙ p))) (asked (inl q) W))
        on true e false q W =
            let some = ltb-true 0 (length v) e in
            let n_is : index_of 10 (F.b ++ v) ≡ length (F.b ++ v) =
            index_append F.b v F.plain ∙ omega (arith, none_index v q, length-append F.b v) in
            let all : first_line v ≡ v = take_all (index_of 10 v) v (omega (arith, none_index v q)) in
            inl (record {
              came = G.came;
              b = F.b ++ v;
              all =
                  all_is
                  ∙ sym (append-nil (F.b ++ v))
                  ∙ ap (λ (x : List ℕ). (F.b ++ v) ++ x) (sym (rest_is ∙ drop_of_length-le v {i = index_of 10 v + 1} (omega (arith, none_index v q))));
              plain = n_is;
              found = found_is;
              unended = whole_is ∙ ap₂ (λ (y z : Bool). cond y z true) e q;
              keeps =
                  record {
                    count = kept_is ∙ ap (λ (k : ℕ). min k (length line)) n_is;
                    bytes = K.bytes ∙ ap (λ (x : List ℕ). placed (take (length line) (F.b ++ x)) 0 line) all;
                    more = cut_is ∙ ap (ltb (length line)) n_is;
                  };
              long = omega (arith, F.long, length-append F.b v);
              asks = goes some q W;
            })
        on false e z q W =
            let none : v ≡ [] = empty_is v (omega (arith, ltb-false 0 (length v) e)) in
            let w = whole_is ∙ ap (λ (y : Bool). cond y (newline_in v) true) e in
            inr (w, done w (λ p. ended_now W none) (asked (inr none) W))
          where
            ended_now : Went G.came → v ≡ [] → r.input.ended ≡ true
            ended_now (held st out z some e) none = absurd (omega (arith, ap length none))
            ended_now (over_now p e st w z d) none = d
            ended_now (read_now p R w k) none = R.ended ∙ eq-eqb r.input.end 0 (k ∙ ap length none)

    -- A TURN MORE
    pub sofar_step : Turn (n + 1) r c' l'
    sofar_step = went_on (how S.refills.fills F.asks)

  -- with no turn left
  pub sofar_long : {t : State} {c l : List ℕ} → Sofar most_turns t c l → Finds i o t chunk c line l
  sofar_long {t} {c} {l} F = on F.asks
    where
      on : Going most_turns t c F.came → Finds i o t chunk c line l
      on (still st out m d) = absurd (omega arith)
      on (going p R w e d) =
          let all_is : there i chunk F.came ≡ F.b = F.all ∙ ap (λ (x : List ℕ). F.b ++ x) d ∙ append-nil F.b in
          let all : first_line F.b ≡ F.b = take_all (index_of 10 F.b) F.b (omega (arith, F.plain)) in
          let k : t.line.kept ≡ min (index_of 10 F.b) (length line) = F.keeps.count ∙ ap (λ (n : ℕ). min n (length line)) (sym F.plain) in
          let b : l ≡ placed (take (length line) (first_line F.b)) 0 line =
          F.keeps.bytes ∙ ap (λ (x : List ℕ). placed (take (length line) x) 0 line) (sym all) in
          record {
            came = F.came;
            known = rw all_is (line_is F.found refl k (F.keeps.more ∙ ap (ltb (length line)) (sym F.plain)));
            bytes = rw all_is b;
            counts = counted line F.b k b;
            rest = rw all_is (d ∙ sym (drop_of_length-le F.b {i = index_of 10 F.b + 1} (omega (arith, F.plain))));
            newline = λ q. absurd (true≢false (sym q ∙ ap newline_in all_is ∙ index_none F.b F.plain));
            end = λ q h. absurd (true≢false (sym h ∙ F.unended));
            long = λ h. omega (arith, F.long, ap length all_is);
            asks = more p R w;
          }

  -- with a turn more, and with none left
  pub turn_more : {n m : ℕ} {t r : State} {c c' l l' : List ℕ} → m ≡ n + 1 → t.line.whole ≡ false → Turn n t c l
      → Steps t r c c' l l' → Turn m r c' l'
  turn_more {n} {m} {t} {r} {c} {c'} {l} {l'} e h F S = rw e (sofar_step n t r c c' l l' (turn_on h F) S)

  pub turn_last : {n : ℕ} {t : State} {c l : List ℕ} → n ≡ most_turns → Turn n t c l → Finds i o t chunk c line l
  turn_last {n} {t} {c} {l} e (inl F) = sofar_long (subst (λ (k : ℕ). Sofar k t c l) e F)
  turn_last e (inr F) = F.1

  pub turn_first : {l : Line} → l ≡ no_line → Turn 0 (record { input = i; output = o; line = l }) chunk line
  turn_first {l} e = inl (subst (λ (x : Line). Sofar 0 (record { input = i; output = o; line = x }) chunk line) (sym e) sofar_none)
