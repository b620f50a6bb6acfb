-- Laws of pieces put one behind the other, and of the front of a buffer. Assumes nothing.
use Rattle.std.specs.Prelude.{Result, Ok, Err}
use mathlib.Core.Path.{◌≡◌, refl, sym, ap, ap₂, ◌∙◌, subst}
use mathlib.Core.List.{List, [], ◌∷◌, ◌++◌, append-nil, append_assoc}
use Prim.Native.Nat.{ℕ, suc, ◌+◌, ◌-◌, ◌≤◌, min}
use native.Mathlib.Nat.{zero-add}
use native.Mathlib.Omega.{arith}
use native.Mathlib.Decide.{dec_le}
use lib.ListN.{length, take, drop, length-append, length-take, length-drop, take-append-drop, drop_of_length-le}
use lib.Seq.{sets, sets-eq, length-sets, set_out, take_at, take_all, take-length, length-take-le, drop-drop}
use borrow.Author.Tests.{le-leb}
use Rattle.base_lists.specs.Arrays.{sets_append}
use Rattle.text_grammar.specs.Told.{Told, by_room}
use Rattle.text_grammar.proofs.Told.{fits_iff}
use Rattle.text_write.specs.declared.TooSmall.{TooSmall}
use Rattle.text_write.specs.Answers.{told, Writes}
use Rattle.text_write.proofs.Answers.{wrote}
use Rattle.text_write.specs.declared.pieces.Page.{Page}
use Rattle.text_write.specs.pieces.Sizes.{size_of}
use Rattle.text_write.specs.Room.{Room, Put}
use Rattle.text_write.specs.pieces.Placed.{placed, place_behind, Placed, PlacedOn}

-- nothing is stored beyond the end
pub sets_out : (t l : List ℕ) (at : ℕ) → length l ≤ at → sets l at t ≡ l
sets_out [] l at h = refl
sets_out (b ∷ t) l at h = ap (λ (m : List ℕ). sets m (suc at) t) (set_out l at b h) ∙ sets_out t l (suc at) (omega arith)

-- ---- one behind the other

-- what is left to put, from p on, makes the whole text put at `at`
pub record Left (whole : List ℕ) (at : ℕ) (old rest : List ℕ) (p : ℕ) (new : List ℕ) : Type 0 where
  pub behind : place_behind rest p new ≡ place_behind whole at old
  pub stored : placed rest p new ≡ placed whole at old
  pub long : length new ≡ length old

pub all_left : (t : List ℕ) (at : ℕ) (l : List ℕ) → Left t at l t at l
all_left t at l = record { behind = refl; stored = refl; long = refl }

module _ (whole : List ℕ) (at : ℕ) (old : List ℕ) where
  pub none_left : {p : ℕ} {new : List ℕ} → Left whole at old [] p new → Placed whole at old p new
  none_left h = (omega (arith, h.behind), h.stored)

module _ (a b : List ℕ) (at : ℕ) (l : List ℕ) {p : ℕ} {m : List ℕ} (q : Placed a at l p m) where
  same_long : length m ≡ length l
  same_long = ap length q.1 ∙ length-sets l at a

  next_behind : place_behind b p m ≡ place_behind (a ++ b) at l
  next_behind = omega (arith, q.0, same_long, length-append a b)

  next_stored : placed b p m ≡ placed (a ++ b) at l
  next_stored = go (dec_le (at + length a) (length l))
    where
      go : Dec (at + length a ≤ length l) → placed b p m ≡ placed (a ++ b) at l
      go (yes h) = ap₂ (λ (n : List ℕ) (k : ℕ). sets n k b) q.1 (let e : p ≡ at + length a = omega (arith, q.0) in e) ∙ sets_append a b l at
      go (no h) =
          sets_out b m p (omega (arith, q.0, same_long))
          ∙ q.1
          ∙ sym (sets_out b (sets l at a) (at + length a) (omega (arith, length-sets l at a)))
          ∙ sets_append a b l at

  next : Left (a ++ b) at l b p m
  next = record { behind = next_behind; stored = next_stored; long = same_long }

  pub placed_next : {r : ℕ} {n : List ℕ} → Placed b p m r n → Placed (a ++ b) at l r n
  placed_next s = (s.0 ∙ next_behind, s.1 ∙ next_stored)

-- the first of what is left is put
module _ (whole : List ℕ) (at : ℕ) (old : List ℕ) (a b : List ℕ) {p : ℕ} {m : List ℕ} where
  pub left_next : {r : ℕ} {n : List ℕ} → Left whole at old (a ++ b) p m → Placed a p m r n → Left whole at old b r n
  left_next h q = let k = next a b p m q in record { behind = k.behind ∙ h.behind; stored = k.stored ∙ h.stored; long = k.long ∙ h.long }

pub rest_as : (whole : List ℕ) (at : ℕ) (l : List ℕ) {a b : List ℕ} (p : ℕ) (m : List ℕ) → a ≡ b → Left whole at l a p m → Left whole at l b p m
rest_as whole at l p m e h = subst (λ (t : List ℕ). Left whole at l t p m) e h

pub placed_three : (a b c : List ℕ) (at : ℕ) (l : List ℕ) {p r o : ℕ} {m n k : List ℕ}
    → Placed a at l p m → Placed b p m r n → Placed c r n o k → Placed (a ++ b ++ c) at l o k
placed_three a b c at l q s t = placed_next (a ++ b) c at l (placed_next a b at l q s) t

pub placed_none : (at : ℕ) (l : List ℕ) → Placed [] at l at l
placed_none at l = (omega arith, refl)

pub placed_as : {a b : List ℕ} (at : ℕ) (l : List ℕ) {p : ℕ} {m : List ℕ} → b ≡ a → Placed a at l p m → Placed b at l p m
placed_as at l e q = (q.0 ∙ ap (λ (t : List ℕ). place_behind t at l) (sym e), q.1 ∙ ap (λ (t : List ℕ). placed t at l) (sym e))

-- ---- the same of pages

module _ {p q : Page} {a : List ℕ} (h : PlacedOn a p q) where
  pub on_next : {b : List ℕ} {r : Page} → PlacedOn b q r → PlacedOn (a ++ b) p r
  on_next {b} k = record { same_bytes = k.same_bytes ∙ h.same_bytes; placed = placed_next a b p.at p.bytes.now h.placed k.placed }

  pub on_as : {b : List ℕ} → b ≡ a → PlacedOn b p q
  on_as e = record { same_bytes = h.same_bytes; placed = placed_as p.at p.bytes.now e h.placed }

pub on_none : (p : Page) → PlacedOn [] p p
on_none p = record { same_bytes = refl; placed = placed_none p.at p.bytes.now }

pub on_three : {a b c : List ℕ} {p q r o : Page} → PlacedOn a p q → PlacedOn b q r → PlacedOn c r o → PlacedOn (a ++ b ++ c) p o
on_three h k m = on_next (on_next h k) m

-- ---- a copy into the bytes from a place on

module _ (t l : List ℕ) (at : ℕ) where
  -- what a copy into r leaves there
  abbrev copy : List ℕ → List ℕ
  copy r = take (length r) t ++ drop (length t) r

  abbrev rest : List ℕ
  rest = drop at l

  abbrev part : List ℕ
  part = take (length rest) t

  -- what has no room is dropped
  part_stored : at ≤ length l → sets l at part ≡ sets l at t
  part_stored h = go (dec_le (length t) (length rest))
    where
      go : Dec (length t ≤ length rest) → sets l at part ≡ sets l at t
      go (yes k) = ap (sets l at) (take_all (length rest) t k)
      go (no k) =
          let e : length part ≡ length rest = length-take-le (length rest) t (omega arith) in
          sym (sets_out (drop (length rest) t) (sets l at part) (at + length part) (omega (arith, e, length-sets l at part, length-drop at l)))
          ∙ sets_append part (drop (length rest) t) l at
          ∙ ap (sets l at) (take-append-drop (length rest) t)

  part_behind : at ≤ length l → drop (at + length part) l ≡ drop (length t) rest
  part_behind h = go (dec_le (length t) (length rest))
    where
      go : Dec (length t ≤ length rest) → drop (at + length part) l ≡ drop (length t) rest
      go (yes k) = ap (λ (p : List ℕ). drop (at + length p) l) (take_all (length rest) t k) ∙ sym (drop-drop (length t) at l)
      go (no k) =
          drop_of_length-le l {i = at + length part} (omega (arith, length-take (length rest) t, length-drop at l))
          ∙ sym (drop_of_length-le rest {i = length t} (omega arith))

  part_copied : at ≤ length l → take at l ++ copy rest ≡ sets l at t
  part_copied h =
      ap (λ (r : List ℕ). take at l ++ (part ++ r)) (sym (part_behind h))
      ∙ sym (append_assoc (take at l) part (drop (at + length part) l))
      ∙ sym (sets-eq part l at (omega (arith, length-take (length rest) t, length-drop at l)))
      ∙ part_stored h

  module _ {from : ℕ} (start : from ≡ min at (length l)) where
    abbrev lent : List ℕ
    lent = take (length l - from) (drop from l)

    lent_is : lent ≡ drop from l
    lent_is = take_all (length l - from) (drop from l) (omega (arith, length-drop from l))

    bytes : {m : List ℕ} → m ≡ copy lent → take from l ++ (m ++ drop (length l - from) (drop from l)) ≡ sets l at t
    bytes {m} e =
        ap (λ (r : List ℕ). take from l ++ (m ++ r)) (drop_of_length-le (drop from l) {i = length l - from} (omega (arith, length-drop from l)))
        ∙ ap (λ (r : List ℕ). take from l ++ r) (append-nil m ∙ e ∙ ap copy lent_is)
        ∙ go (dec_le at (length l))
      where
        go : Dec (at ≤ length l) → take from l ++ copy (drop from l) ≡ sets l at t
        go (yes h) = let k : from ≡ at = omega arith in ap (λ (j : ℕ). take j l ++ copy (drop j l)) k ∙ part_copied h
        go (no h) =
            let k : from ≡ length l = omega arith in
            ap₂ (λ (a r : List ℕ). a ++ copy r)
            (take_all from l (omega arith)) (drop_of_length-le l {i = from} (omega arith))
            ∙ ap (λ (r : List ℕ). l ++ r) (drop_of_length-le [] {i = length t} (omega arith))
            ∙ append-nil l
            ∙ sym (sets_out t l at (omega arith))

    pub placed_copy : {n : ℕ} {m : List ℕ} → n ≡ min (length t) (length lent) → m ≡ copy lent
        → Placed t at l (at + n) (take from l ++ (m ++ drop (length l - from) (drop from l)))
    placed_copy c e = (omega (arith, ap length lent_is, length-drop from l), bytes e)

-- what is put where there is known to be room
pub placed_room : (t l : List ℕ) (at : ℕ) {p : ℕ} {m : List ℕ} → Room t at l → Placed t at l p m → Put t at l p m
placed_room t l at h q = (omega (arith, q.0), q.1)

-- ---- the front of a buffer

-- what is put at the buffer's start is its front
module _ (t l : List ℕ) (room : length t ≤ length l) {p : ℕ} {m : List ℕ} (put : Placed t 0 l p m) where
  pub front_is : take p m ≡ t
  front_is = ap (take p) (put.1 ∙ sets-eq t l 0 (omega arith)) ∙ take_at t (drop (0 + length t) l) p (omega (arith, put.0))

  pub front_size : p ≡ length (take p m)
  front_size = omega (arith, put.0, ap length front_is)

  -- so a text put there, with room for all of it, is written
  pub front_written : Writes t l (Ok p) m
  front_written = wrote t l room (omega (arith, put.0)) put.1

-- a writer's answer says the text's size either way
pub size_told : {t l : List ℕ} {w : Result ℕ TooSmall} {m : List ℕ} → Writes t l w m → size_of w ≡ length t
size_told {t} {l} {w} {m} put = go w (ap (λ (a : Told). a.values) put.answer)
  where
    go : (w : Result ℕ TooSmall) → (told w).values ≡ length t ∷ [] → size_of w ≡ length t
    go (Ok n) e = cc
    go (Err x) e = cc

-- a writer's text
module _ (t l : List ℕ) (room : length t ≤ length l) {n : ℕ} {w : Result ℕ TooSmall} {m : List ℕ} (size : n ≡ size_of w) (put : Writes t l w m) where
  written_size : n ≡ length t
  written_size = size ∙ size_told put

  written_bytes : m ≡ t ++ drop (length t) l
  written_bytes = put.bytes ∙ rw (le-leb (length t) (length l) room)

  pub written_front : take n m ≡ t
  written_front = ap₂ take written_size written_bytes ∙ take_at t (drop (length t) l) (length t) refl

  pub written_long : n ≤ length m
  written_long = omega (arith, written_size, ap length written_bytes, length-append t (drop (length t) l))

  pub written_count : n ≡ length (take n m)
  written_count = omega (arith, written_size, ap length written_front)

-- what a writer says that it wrote is in the buffer
pub written_in : (t l : List ℕ) {n : ℕ} {w : Result ℕ TooSmall} {m : List ℕ} → Writes t l w m → w ≡ Ok n → n ≤ length l
written_in t l {n} {w} put h =
    let e : told (Ok n) ≡ by_room (length t) (length l) (length t ∷ []) = ap told (sym h) ∙ put.answer in
    let room = (fits_iff (length t) (length l) (length t ∷ [])).0 (sym (ap (λ (a : Told). a.number) e)) in
    let size : n ≡ length t = cc (ap (λ (a : Told). a.values) e) in
    omega arith

pub copied : (t l : List ℕ) {m : List ℕ} → length t ≤ length l → m ≡ take (length t) t ++ drop (length t) l → m ≡ sets l 0 t
copied t l h e =
    e
    ∙ ap (λ (r : List ℕ). r ++ drop (length t) l) (take-length t)
    ∙ ap (λ (k : ℕ). t ++ drop k l) (sym (zero-add (length t)))
    ∙ sym (sets-eq t l 0 (omega arith))
