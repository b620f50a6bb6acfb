-- Loops over the bytes of a text and of the tables. Each law says what is left to do after a turn.
use mathlib.Core.Path.{◌≡◌, refl, sym, ap, ap₂, ◌∙◌}
use mathlib.Core.Logic.{ite}
use mathlib.Core.Bool.{Bool, true, false, cond, ◌&&◌}
use mathlib.Core.List.{List, ◌∷◌}
use Prim.Native.Nat.{ℕ, zero, suc, ◌+◌, ◌-◌, ◌*◌, ◌≤◌, ◌<◌}
use native.Mathlib.Omega.{arith}
use native.Mathlib.Decide.{ℕ_discrete, dec_le}
use lib.Dec.{eqb}
use lib.ListN.{length, get_or, set, get_or-eq_default}
use lib.Seq.{sets}
use Rattle.std.proofs.Common.{zero-add, subst}
use Rattle.std.proofs.lemmas.List.FromFn.{length-range_with_len, get_or-range_with_len}
use Rattle.std.specs.Bool.{MatchBool}
use Rattle.std.specs.List.{AllWithin, HoldsAt, range_with_len}
use Rattle.base_lists.specs.Seqs.{tabulate_same, tabulate_long}
use Rattle.base_lists.specs.Truths.{both_is}
use Rattle.text_grammar.specs.constants.Constants.{signed}
use Rattle.math_codes.specs.Texts.{zeros}
use borrow.Author.Tests.{eq-eqb, eqb-true}
use Rattle.pair_row.specs.Row.{kinds_at, members_at, cell_bytes}
use Rattle.pair_table.specs.Notes.{part_of, celled, same_from, same_constant, member_from}

-- ---- a part of a text

pub part_one : (text : List ℕ) (from n : ℕ) → 0 < n → part_of text from n ≡ get_or text from 0 ∷ part_of text (from + 1) (n - 1)
part_one text from n h =
    let e : n ≡ suc (n - 1) = omega arith in
    let z : from + 0 ≡ from = omega arith in
    ap (part_of text from) e
    ∙ ap₂ (λ (b : ℕ) (bs : List ℕ). b ∷ bs)
    (ap (λ (i : ℕ). get_or text i 0) z)
    (tabulate_same (n - 1) (λ i. get_or text (from + suc i) 0) (λ i. get_or text (from + 1 + i) 0)
    (λ i p. let q : from + suc i ≡ from + 1 + i = omega arith in ap (λ (j : ℕ). get_or text j 0) q))

-- the bytes that are left to put
pub put_one : (text texts : List ℕ) (from q i n : ℕ) → i < n
    → sets texts (q + i) (part_of text (from + i) (n - i))
    ≡ sets (set texts (q + i) (get_or text (from + i) 0)) (q + (i + 1)) (part_of text (from + (i + 1)) (n - (i + 1)))
put_one text texts from q i n h =
    let x = set texts (q + i) (get_or text (from + i) 0) in
    let e : suc (q + i) ≡ q + (i + 1) = omega arith in
    let f : from + i + 1 ≡ from + (i + 1) = omega arith in
    let g : n - i - 1 ≡ n - (i + 1) = omega arith in
    ap (λ (bs : List ℕ). sets texts (q + i) bs) (part_one text (from + i) (n - i) (omega arith))
    ∙ ap₂ (λ (j : ℕ) (bs : List ℕ). sets x j bs) e (ap₂ (part_of text) f g)

-- a cell's number and its bytes, behind a minus or not
module _ (p : ℕ) (m : Bool) (text texts : List ℕ) (from n : ℕ) where
  abbrev part : List ℕ
  part = part_of text from n

  long : length part ≡ n
  long = tabulate_long n (λ j. get_or text (from + j) 0)

  pub cell_minus : {t u v : List ℕ} → m ≡ true → t ≡ set texts (cell_bytes * p) (n + 1) → u ≡ set t (cell_bytes * p + 1) 45
      → v ≡ sets u (cell_bytes * p + 2) part → v ≡ celled p (signed m part) texts
  cell_minus e ht hu hv =
      let k : n + 1 ≡ suc (length part) = omega (arith, long) in
      let q : cell_bytes * p + 2 ≡ suc (cell_bytes * p + 1) = omega arith in
      rw e (hv ∙ ap₂ (λ (l : List ℕ) (i : ℕ). sets l i part) (hu ∙ ap (λ (l : List ℕ). set l (cell_bytes * p + 1) 45) (ht
      ∙ ap (set texts (cell_bytes * p)) k)) q)

  pub cell_plain : {t v : List ℕ} → m ≡ false → t ≡ set texts (cell_bytes * p) n → v ≡ sets t (cell_bytes * p + 1) part → v ≡ celled p (signed m part) texts
  cell_plain e ht hv = rw e (hv ∙ ap (λ (l : List ℕ). sets l (cell_bytes * p + 1) part) (ht ∙ ap (set texts (cell_bytes * p)) (sym long)))

-- ---- leading zeros

zeros_zero : (d e : ℕ) (ds : List ℕ) → d ≡ 48 → zeros (d ∷ (e ∷ ds)) ≡ suc (zeros (e ∷ ds))
zeros_zero d e ds q = go (ℕ_discrete d 48)
  where
    go : (p : Dec (d ≡ 48)) → ite p (suc (zeros (e ∷ ds))) 0 ≡ suc (zeros (e ∷ ds))
    go (yes p) = refl
    go (no p) = absurd (p q)

zeros_other : (d e : ℕ) (ds : List ℕ) → (d ≡ 48 → ⊥) → zeros (d ∷ (e ∷ ds)) ≡ 0
zeros_other d e ds q = go (ℕ_discrete d 48)
  where
    go : (p : Dec (d ≡ 48)) → ite p (suc (zeros (e ∷ ds))) 0 ≡ 0
    go (yes p) = absurd (q p)
    go (no p) = refl

part_two : (text : List ℕ) (from n : ℕ) → 1 < n
    → part_of text from n ≡ get_or text from 0 ∷ (get_or text (from + 1) 0 ∷ part_of text (from + 1 + 1) (n - 1 - 1))
part_two text from n h =
    part_one text from n (omega arith) ∙ ap (λ (bs : List ℕ). get_or text from 0 ∷ bs) (part_one text (from + 1) (n - 1) (omega arith))

-- behind the end there is no digit
pub digit_within : (text : List ℕ) (i : ℕ) → get_or text i 0 ≡ 48 → i < length text
digit_within text i q = go (dec_le (length text) i)
  where
    go : Dec (length text ≤ i) → i < length text
    go (yes h) = absurd (omega (arith, get_or-eq_default text 0 {n = i} h, q))
    go (no h) = omega (arith, h)

pub zeros_one : (text : List ℕ) (at n i : ℕ) → i + 1 < n → get_or text (at + i) 0 ≡ 48
    → i + zeros (part_of text (at + i) (n - i)) ≡ i + 1 + zeros (part_of text (at + (i + 1)) (n - (i + 1)))
zeros_one text at n i h q =
    let f : at + i + 1 ≡ at + (i + 1) = omega arith in
    let g : n - i - 1 ≡ n - (i + 1) = omega arith in
    let a : zeros (part_of text (at + i) (n - i)) ≡ suc (zeros (part_of text (at + i + 1) (n - i - 1))) =
    ap zeros (part_two text (at + i) (n - i) (omega arith))
    ∙ zeros_zero (get_or text (at + i) 0) (get_or text (at + i + 1) 0) (part_of text (at + i + 1 + 1) (n - i - 1 - 1)) q
    ∙ ap (λ (bs : List ℕ). suc (zeros bs)) (sym (part_one text (at + i + 1) (n - i - 1) (omega arith))) in
    let b = ap₂ (λ (j m : ℕ). zeros (part_of text j m)) f g in
    omega (arith, a, b)

pub zeros_end : (text : List ℕ) (at n i : ℕ) → i + 1 < n → (get_or text (at + i) 0 ≡ 48 → ⊥) → zeros (part_of text (at + i) (n - i)) ≡ 0
zeros_end text at n i h q =
    ap zeros (part_two text (at + i) (n - i) (omega arith))
    ∙ zeros_other (get_or text (at + i) 0) (get_or text (at + i + 1) 0) (part_of text (at + i + 1 + 1) (n - i - 1 - 1)) q

pub zeros_last : (text : List ℕ) (at n i : ℕ) → n ≤ i + 1 → zeros (part_of text (at + i) (n - i)) ≡ 0
zeros_last text at n i h = go (n - i) (omega arith)
  where
    go : (m : ℕ) → m ≤ 1 → zeros (part_of text (at + i) m) ≡ 0
    go zero p = refl
    go (suc zero) p = refl
    go (suc (suc m)) p = absurd (omega arith)

-- ---- constants

same_true : (texts : List ℕ) (a b k : ℕ) → ((i : ℕ) → i < k → get_or texts (a + i) 0 ≡ get_or texts (b + i) 0) → same_from texts a b k ≡ true
same_true texts a b zero h = refl
same_true texts a b (suc k) h =
    let u : a + 0 ≡ a = omega arith in
    let v : b + 0 ≡ b = omega arith in
    let e : get_or texts a 0 ≡ get_or texts b 0 = rw (u, v) at (h 0 (omega arith)) in
    rw (eq-eqb (get_or texts a 0) (get_or texts b 0) e) (same_true texts (suc a) (suc b) k
    (λ i l. let p : suc a + i ≡ a + suc i = omega arith in let q : suc b + i ≡ b + suc i = omega arith in rw (p, q) (h (suc i) (omega arith))))

same_each : (texts : List ℕ) (a b k : ℕ) → same_from texts a b k ≡ true → (i : ℕ) → i < k → get_or texts (a + i) 0 ≡ get_or texts (b + i) 0
same_each texts a b zero e i l = absurd (omega arith)
same_each texts a b (suc k) e zero l =
    let u : a + 0 ≡ a = omega arith in
    let v : b + 0 ≡ b = omega arith in
    rw (u, v) (eqb-true (get_or texts a 0) (get_or texts b 0) ((both_is (eqb (get_or texts a 0) (get_or texts b 0)) (same_from texts (suc a) (suc b) k)).0 e).0)
same_each texts a b (suc k) e (suc i) l =
    let p : a + suc i ≡ suc a + i = omega arith in
    let q : b + suc i ≡ suc b + i = omega arith in
    rw (p, q)
    (same_each texts (suc a) (suc b) k ((both_is (eqb (get_or texts a 0) (get_or texts b 0)) (same_from texts (suc a) (suc b) k)).0 e).1 i (omega arith))

number_at : (Q : ℕ → Type 0) (k i : ℕ) → i < k → Q (get_or (range_with_len 0 k) i 0) → Q i
number_at Q k i l h = subst Q (get_or-range_with_len 0 k i 0 l ∙ zero-add i) h

-- what a look at all of k pairs of bytes says
pub same_all : (texts : List ℕ) (a b k : ℕ) (r : Bool) → let P : ℕ → Type 0 = λ i. get_or texts (a + i) 0 ≡ get_or texts (b + i) 0 in
    let ns = range_with_len 0 k in
    MatchBool r (AllWithin P ns 0 (length ns)) ((i : ℕ) × (i < length ns) × HoldsAt (λ j. P j → ⊥) ns i) → same_from texts a b k ≡ r
same_all texts a b k true h =
    same_true texts a b k (λ i l. number_at (λ j. get_or texts (a + j) 0 ≡ get_or texts (b + j) 0) k i l
    (h i 0 (omega arith) (omega (arith, length-range_with_len 0 k))))
same_all texts a b k false h = go (same_from texts a b k) refl
  where
    go : (s : Bool) → same_from texts a b k ≡ s → same_from texts a b k ≡ false
    go false e = e
    go true e =
        let l : h.0 < k = omega (arith, h.1, length-range_with_len 0 k) in
        absurd (number_at (λ j. get_or texts (a + j) 0 ≡ get_or texts (b + j) 0 → ⊥) k h.0 l (h.2 0) (same_each texts a b k e h.0 l))

-- of constants that have one type it is their bytes that tell
pub same_whole : (row texts : List ℕ) (p q n : ℕ) (r : Bool) → get_or row (kinds_at + p) 0 ≡ get_or row (kinds_at + q) 0 → n ≡ get_or texts (cell_bytes * p) 0
    → same_from texts (cell_bytes * p) (cell_bytes * q) (n + 1) ≡ r → same_constant row texts p q ≡ r
same_whole row texts p q n r k e s =
    let f : suc (get_or texts (cell_bytes * p) 0) ≡ n + 1 = omega (arith, e) in
    ap (λ (t : Bool). t && same_from texts (cell_bytes * p) (cell_bytes * q) (suc (get_or texts (cell_bytes * p) 0)))
    (eq-eqb (get_or row (kinds_at + p) 0) (get_or row (kinds_at + q) 0) k)
    ∙ ap (same_from texts (cell_bytes * p) (cell_bytes * q)) f
    ∙ s

-- ---- members

member_step : (row texts : List ℕ) (p n k q : ℕ) → k < n → q ≡ get_or row (members_at + k) 0
    → member_from row texts p k (n - k) ≡ cond (same_constant row texts p q) q (member_from row texts p (k + 1) (n - (k + 1)))
member_step row texts p n k q h d =
    let e : n - k ≡ suc (n - (k + 1)) = omega arith in
    let f : suc k ≡ k + 1 = omega arith in
    ap (member_from row texts p k) e
    ∙ ap₂ (λ (m x : ℕ). cond (same_constant row texts p x) x (member_from row texts p m (n - (k + 1)))) f (sym d)

pub member_other : (row texts : List ℕ) (p n k q : ℕ) → k < n → q ≡ get_or row (members_at + k) 0 → same_constant row texts p q ≡ false
    → member_from row texts p k (n - k) ≡ member_from row texts p (k + 1) (n - (k + 1))
member_other row texts p n k q h d s =
    member_step row texts p n k q h d ∙ ap (λ (t : Bool). cond t q (member_from row texts p (k + 1) (n - (k + 1)))) s

-- ---- fields
