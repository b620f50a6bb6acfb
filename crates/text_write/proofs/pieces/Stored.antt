-- Laws of lines stored one behind the other: their counts, and the lent bytes. Assumes nothing.
use mathlib.Core.Path.{◌≡◌, refl, sym, ◌∙◌, ap, ap₂}
use mathlib.Core.List.{List, [], ◌∷◌, ◌++◌, append-nil}
use Prim.Native.Nat.{ℕ, suc, ◌+◌, ◌-◌, ◌≤◌, ◌<◌, min}
use native.Mathlib.Nat.{zero-add}
use native.Mathlib.Omega.{arith}
use native.Mathlib.Decide.{dec_lt}
use lib.ListN.{length, set, take, drop, length-append, length-take, length-drop, take-append-drop, drop_of_length-le}
use lib.Seq.{sets, sets-eq, take_all}
use Rattle.base_lists.specs.Arrays.{sets_append}
use Rattle.math_terms.proofs.Seqs.{concat_map_append}
use Rattle.text_write.specs.Answers.{after}
use Rattle.text_write.proofs.Answers.{after_fits}
use Rattle.text_write.proofs.pieces.Pieces.{sets_out}
use Rattle.text_write.specs.pieces.Stored.{bytes_of, store_line, store_all}

bytes_append : (a b : List (List ℕ)) → bytes_of (a ++ b) ≡ bytes_of a ++ bytes_of b
bytes_append a b = concat_map_append (λ l. l) a b

pub bytes_length : (a b : List (List ℕ)) → length (bytes_of (a ++ b)) ≡ length (bytes_of a) + length (bytes_of b)
bytes_length a b = ap length (bytes_append a b) ∙ length-append (bytes_of a) (bytes_of b)

-- ---- one line

sets_later : (x : ℕ) (l : List ℕ) (i : ℕ) (t : List ℕ) → sets (x ∷ l) (suc i) t ≡ x ∷ sets l i t
sets_later x l i [] = refl
sets_later x l i (b ∷ t) = sets_later x (set l i b) (suc i) t

-- what is put behind p leaves p
sets_behind : (p l t : List ℕ) → sets (p ++ l) (length p) t ≡ p ++ sets l 0 t
sets_behind [] l t = refl
sets_behind (x ∷ p) l t = sets_later x (p ++ l) (length p) t ∙ ap (λ (r : List ℕ). x ∷ r) (sets_behind p l t)

-- a place behind the end is as good as the end
sets_clip : (t old : List ℕ) (n : ℕ) → sets old n t ≡ sets old (min n (length old)) t
sets_clip t old n = go (dec_lt n (length old))
  where
    go : Dec (n < length old) → sets old n t ≡ sets old (min n (length old)) t
    go (yes h) = ap (λ (k : ℕ). sets old k t) (let e : n ≡ min n (length old) = omega arith in e)
    go (no h) = sets_out t old n (omega (arith, h)) ∙ sym (sets_out t old (min n (length old)) (omega (arith, h)))

-- a line in the part of the bytes from its place on, which is lent to the line writer
pub store_part : (l old : List ℕ) (n at : ℕ) {m : List ℕ} → at ≡ min n (length old) → m ≡ sets (take (length old - at) (drop at old)) 0 l
    → take at old ++ (m ++ drop (length old - at) (drop at old)) ≡ store_line l n old
store_part l old n at {m} a e =
    ap (λ (r : List ℕ). take at old ++ (m ++ r)) (drop_of_length-le (drop at old) {i = length old - at} (omega (arith, length-drop at old)))
    ∙ ap (λ (r : List ℕ). take at old ++ r)
    (append-nil m ∙ e ∙ ap (λ (r : List ℕ). sets r 0 l) (take_all (length old - at) (drop at old) (omega (arith, length-drop at old))))
    ∙ sym (sets_behind (take at old) (drop at old) l)
    ∙ ap₂ (λ (r : List ℕ) (k : ℕ). sets r k l) (take-append-drop at old)
    (let q : length (take at old) ≡ min n (length old) = omega (arith, length-take at old, a) in q)
    ∙ sym (sets_clip l old n)

-- behind the end there is no room
pub store_end : (l old : List ℕ) → store_line l (length old) old ≡ old
store_end l old = sets_out l old (length old) (omega arith)

-- ---- lines

stores : (ls : List (List ℕ)) (at : ℕ) (old : List ℕ) → store_all ls at old ≡ sets old at (bytes_of ls)
stores [] at old = refl
stores (l ∷ ls) at old = stores ls (at + length l) (sets old at l) ∙ sets_append l (bytes_of ls) old at

-- the whole list in front of the old bytes
pub stored : (ls : List (List ℕ)) (old : List ℕ) → length (bytes_of ls) ≤ length old → store_all ls 0 old ≡ after (bytes_of ls) old
stored ls old h =
    stores ls 0 old
    ∙ sets-eq (bytes_of ls) old 0 (omega arith)
    ∙ ap (λ (k : ℕ). bytes_of ls ++ drop k old) (zero-add (length (bytes_of ls)))
    ∙ sym (after_fits (bytes_of ls) old h)
