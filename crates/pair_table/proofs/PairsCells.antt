-- The cells of constants: what a write leaves as it was, and that equal bytes are equal constants.
use mathlib.Core.Path.{◌≡◌, refl, sym, ap, ◌∙◌}
use mathlib.Core.Logic.{◌≢◌, ◌⊎◌, inl, inr}
use mathlib.Core.Bool.{Bool, true, false, cond}
use mathlib.Core.List.{List, [], ◌∷◌}
use Prim.Native.Nat.{ℕ, zero, suc, ◌+◌, ◌*◌, ◌≤◌, ◌<◌}
use native.Mathlib.Omega.{arith}
use native.Mathlib.Decide.{ℕ_discrete}
use lib.Dec.{eqb}
use lib.ListN.{length, get_or, set, take, drop, length-set, length-take, length-drop}
use lib.Seq.{sets, length-sets, get_or-set_same, get_or-set_other, get_or-take, get_or-drop, ext_get_or}
use borrow.Author.Tests.{eq-eqb, eqb-true}
use Rattle.base_limits.specs.Limits.{longest_string, field_places, pair_places}
use Rattle.base_lists.specs.Truths.{both_is}
use Rattle.math_types.specs.Order.{basic}
use Rattle.math_types.specs.Types.{rank}
use Rattle.text_grammar.specs.Numbers.{digits_of}
use Rattle.text_grammar.specs.constants.Constants.{signed, Con, int, str, con_kind, ConIn}
use Rattle.text_grammar.proofs.constants.Constants.{limit_ten}
use Rattle.math_codes.proofs.Texts.{integer_once}
use Rattle.pair_row.specs.Row.{kinds_at, members_at, texts_bytes, bytes_in, cell_bytes}
use Rattle.pair_table.specs.Notes.{celled, same_from, same_constant, member_from}

-- ---- a run of stores

sets_other : (vs l : List ℕ) (i j : ℕ) → (i ≤ j → j < i + length vs → ⊥) → get_or (sets l i vs) j 0 ≡ get_or l j 0
sets_other [] l i j o = refl
sets_other (a ∷ vs) l i j o =
    sets_other vs (set l i a) (suc i) j (λ x y. o (omega arith) (omega arith)) ∙ get_or-set_other l i j a 0 (λ e. o (omega arith) (omega arith))

sets_at : (vs l : List ℕ) (i k : ℕ) → i + length vs ≤ length l → k < length vs → get_or (sets l i vs) (i + k) 0 ≡ get_or vs k 0
sets_at [] l i k h b = absurd (omega arith)
sets_at (a ∷ vs) l i zero h b =
    ap (λ (j : ℕ). get_or (sets (set l i a) (suc i) vs) j 0) (let e : i + 0 ≡ i = omega arith in e)
    ∙ sets_other vs (set l i a) (suc i) i (λ x y. omega arith) ∙ get_or-set_same l i a 0 (omega arith)
sets_at (a ∷ vs) l i (suc k) h b =
    ap (λ (j : ℕ). get_or (sets (set l i a) (suc i) vs) j 0) (let e : i + suc k ≡ suc i + k = omega arith in e)
    ∙ sets_at vs (set l i a) (suc i) k (omega (arith, h, length-set l i a)) (omega arith)

-- ---- cells

-- the cell of place q has the bytes b, their number before them
abbrev pub Cell : List ℕ → ℕ → List ℕ → Type 0
Cell texts q b = (i : ℕ) → i < suc (length b) → get_or texts (cell_bytes * q + i) 0 ≡ get_or (length b ∷ b) i 0

module _ (p : ℕ) (bs texts : List ℕ) where
  pub celled_long : length (celled p bs texts) ≡ length texts
  celled_long = length-sets (set texts (cell_bytes * p) (length bs)) (cell_bytes * p + 1) bs ∙ length-set texts (cell_bytes * p) (length bs)

  module _ (few : length bs ≤ longest_string) where
    pub celled_cell : p < pair_places → length texts ≡ texts_bytes → Cell (celled p bs texts) p bs
    celled_cell h l zero b =
        sets_other bs (set texts (cell_bytes * p) (length bs)) (cell_bytes * p + 1) (cell_bytes * p + 0) (λ x y. omega arith)
        ∙ ap (λ (j : ℕ). get_or (set texts (cell_bytes * p) (length bs)) j 0) (let e : cell_bytes * p + 0 ≡ cell_bytes * p = omega arith in e)
        ∙ get_or-set_same texts (cell_bytes * p) (length bs) 0 (omega (arith, l, h))
    celled_cell h l (suc i) b =
        ap (λ (j : ℕ). get_or (celled p bs texts) j 0) (let e : cell_bytes * p + suc i ≡ cell_bytes * p + 1 + i = omega arith in e)
        ∙ sets_at bs (set texts (cell_bytes * p) (length bs)) (cell_bytes * p + 1) i (omega (arith, l, h, few, length-set texts (cell_bytes * p) (length bs)))
        (omega arith)

    pub celled_other : (q : ℕ) (b : List ℕ) → length b ≤ longest_string → q ≢ p → Cell texts q b → Cell (celled p bs texts) q b
    celled_other q b m d c i h =
        sets_other bs (set texts (cell_bytes * p) (length bs)) (cell_bytes * p + 1) (cell_bytes * q + i) (λ x y. d (omega (arith, few, m)))
        ∙ get_or-set_other texts (cell_bytes * p) (cell_bytes * q + i) (length bs) 0 (λ e. d (omega (arith, few, m)))
        ∙ c i h

    -- every cell says a number of bytes for which it has room
    pub celled_few : p < pair_places → length texts ≡ texts_bytes → ((q : ℕ) → get_or texts (cell_bytes * q) 0 ≤ longest_string) → (q : ℕ)
        → get_or (celled p bs texts) (cell_bytes * q) 0 ≤ longest_string
    celled_few h l c q = go (ℕ_discrete q p)
      where
        here : get_or (celled p bs texts) (cell_bytes * q) 0 ≡ get_or (set texts (cell_bytes * p) (length bs)) (cell_bytes * q) 0
        here = sets_other bs (set texts (cell_bytes * p) (length bs)) (cell_bytes * p + 1) (cell_bytes * q) (λ x y. omega (arith, few))

        go : Dec (q ≡ p) → get_or (celled p bs texts) (cell_bytes * q) 0 ≤ longest_string
        go (yes e) =
            omega (
              arith,
              few,
              here,
              ap (λ (j : ℕ). get_or (set texts (cell_bytes * p) (length bs)) (field_places * j) 0) e,
              get_or-set_same texts (cell_bytes * p) (length bs) 0 (omega (arith, h, l)),
            )
        go (no d) = omega (arith, here, c q, get_or-set_other texts (cell_bytes * p) (cell_bytes * q) (length bs) 0 (λ e. d (omega arith)))

-- a cell's number
cell_size : (texts : List ℕ) (q : ℕ) (b : List ℕ) → Cell texts q b → get_or texts (cell_bytes * q) 0 ≡ length b
cell_size texts q b c = ap (λ (j : ℕ). get_or texts j 0) (let e : cell_bytes * q ≡ cell_bytes * q + 0 = omega arith in e) ∙ c 0 (omega arith)

-- and its bytes
pub cell_bytes_lem : (texts : List ℕ) (q : ℕ) (b : List ℕ) → length texts ≡ texts_bytes → q < pair_places → length b ≤ longest_string → Cell texts q b
    → bytes_in texts q ≡ b
cell_bytes_lem texts q b l h m c =
    ap (λ (n : ℕ). take n (drop (cell_bytes * q + 1) texts)) (cell_size texts q b c) ∙ ext_get_or 0 (take (length b) rest) b same_long each
  where
    rest : List ℕ
    rest = drop (cell_bytes * q + 1) texts

    same_long : length (take (length b) rest) ≡ length b
    same_long = omega (arith, length-take (length b) rest, length-drop (cell_bytes * q + 1) texts, l, h, m)

    each : (i : ℕ) → i < length (take (length b) rest) → get_or (take (length b) rest) i 0 ≡ get_or b i 0
    each i k =
        get_or-take (length b) rest i 0 (omega (arith, same_long)) ∙ get_or-drop (cell_bytes * q + 1) texts i 0
        ∙ ap (λ (j : ℕ). get_or texts j 0) (let e : cell_bytes * q + 1 + i ≡ cell_bytes * q + suc i = omega arith in e)
        ∙ c (suc i) (omega (arith, same_long))

-- ---- comparing

same_to : (texts : List ℕ) (k a b : ℕ) → same_from texts a b k ≡ true → (i : ℕ) → i < k → get_or texts (a + i) 0 ≡ get_or texts (b + i) 0
same_to texts zero a b e i h = absurd (omega arith)
same_to texts (suc k) a b e zero h =
    ap (λ (j : ℕ). get_or texts j 0) (let q : a + 0 ≡ a = omega arith in q)
    ∙ eqb-true (get_or texts a 0) (get_or texts b 0) ((both_is (eqb (get_or texts a 0) (get_or texts b 0)) (same_from texts (suc a) (suc b) k)).0 e).0
    ∙ ap (λ (j : ℕ). get_or texts j 0) (let q : b ≡ b + 0 = omega arith in q)
same_to texts (suc k) a b e (suc i) h =
    ap (λ (j : ℕ). get_or texts j 0) (let q : a + suc i ≡ suc a + i = omega arith in q)
    ∙ same_to texts k (suc a) (suc b) ((both_is (eqb (get_or texts a 0) (get_or texts b 0)) (same_from texts (suc a) (suc b) k)).0 e).1 i (omega arith)
    ∙ ap (λ (j : ℕ). get_or texts j 0) (let q : suc b + i ≡ b + suc i = omega arith in q)

same_from_lem : (texts : List ℕ) (k a b : ℕ) → ((i : ℕ) → i < k → get_or texts (a + i) 0 ≡ get_or texts (b + i) 0) → same_from texts a b k ≡ true
same_from_lem texts zero a b h = refl
same_from_lem texts (suc k) a b h =
    (both_is (eqb (get_or texts a 0) (get_or texts b 0)) (same_from texts (suc a) (suc b) k)).1 (
      eq-eqb (get_or texts a 0) (get_or texts b 0)
          (ap (λ (j : ℕ). get_or texts j 0) (let q : a ≡ a + 0 = omega arith in q) ∙ h 0 (omega arith)
          ∙ ap (λ (j : ℕ). get_or texts j 0) (let q : b + 0 ≡ b = omega arith in q)),
      same_from_lem texts k (suc a) (suc b) (λ i l. ap (λ (j : ℕ). get_or texts j 0) (let q : suc a + i ≡ a + suc i = omega arith in q) ∙ h (suc i) (omega arith)
          ∙ ap (λ (j : ℕ). get_or texts j 0) (let q : b + suc i ≡ suc b + i = omega arith in q)),
    )

-- the bytes of a constant in its cell
abbrev pub bytes_of : Con → List ℕ
bytes_of (int m n) = signed m (digits_of n)
bytes_of (str s) = s

pub bytes_short : (c : Con) → ConIn c → length (bytes_of c) ≤ longest_string
bytes_short (int true n) h = omega (arith, limit_ten true n h.1)
bytes_short (int false n) h = omega (arith, limit_ten false n h.1)
bytes_short (str s) h = h.1

-- equal types and bytes, equal constants
bytes_once : (c d : Con) → rank (basic (con_kind c)) ≡ rank (basic (con_kind d)) → bytes_of c ≡ bytes_of d → c ≡ d
bytes_once (int x m) (int y n) k e = integer_once x y m n e
bytes_once (int x m) (str s) k e = absurd (omega (arith, k))
bytes_once (str s) (int y n) k e = absurd (omega (arith, k))
bytes_once (str s) (str t) k e = ap str e

module _ (row texts : List ℕ) (p q : ℕ) (c d : Con) (a : Cell texts p (bytes_of c)) (b : Cell texts q (bytes_of d))
    (m : get_or row (kinds_at + p) 0 ≡ rank (basic (con_kind c))) (n : get_or row (kinds_at + q) 0 ≡ rank (basic (con_kind d))) where
  -- THE COMPARISON of two cells is that of the constants
  pub same_constant_lem : same_constant row texts p q ≡ true → c ≡ d
  same_constant_lem e =
      let h = (both_is (eqb (get_or row (kinds_at + p) 0) (get_or row (kinds_at + q) 0))
      (same_from texts (cell_bytes * p) (cell_bytes * q) (suc (get_or texts (cell_bytes * p) 0)))).0 e in
      let k = eqb-true (get_or row (kinds_at + p) 0) (get_or row (kinds_at + q) 0) h.0 in
      let z = cell_size texts p (bytes_of c) a in
      let s = same_to texts (suc (get_or texts (cell_bytes * p) 0)) (cell_bytes * p) (cell_bytes * q) h.1 in
      let l : length (bytes_of c) ≡ length (bytes_of d) = sym (a 0 (omega arith)) ∙ s 0 (omega arith) ∙ b 0 (omega arith) in
      bytes_once c d (sym m ∙ k ∙ n)
      (ext_get_or 0 (bytes_of c) (bytes_of d) l
      (λ i j. sym (a (suc i) (omega arith)) ∙ s (suc i) (omega (arith, z)) ∙ b (suc i) (omega (arith, l))))

  pub constant_same : c ≡ d → same_constant row texts p q ≡ true
  constant_same e =
      let z = cell_size texts p (bytes_of c) a in
      (both_is (eqb (get_or row (kinds_at + p) 0) (get_or row (kinds_at + q) 0))
      (same_from texts (cell_bytes * p) (cell_bytes * q) (suc (get_or texts (cell_bytes * p) 0)))).1 (
        eq-eqb (get_or row (kinds_at + p) 0) (get_or row (kinds_at + q) 0) (m ∙ ap (λ (x : Con). rank (basic (con_kind x))) e ∙ sym n),
        same_from_lem texts (suc (get_or texts (cell_bytes * p) 0)) (cell_bytes * p) (cell_bytes * q)
            (λ i h. a i (omega (arith, z)) ∙ ap (λ (x : Con). get_or (length (bytes_of x) ∷ bytes_of x) i 0) e
            ∙ sym (b i (omega (arith, z, ap (λ (x : Con). length (bytes_of x)) e)))),
      )

-- ---- the search among the members

-- a member that is the constant at p, or none of those from m on is
abbrev pub FoundIn : List ℕ → List ℕ → ℕ → ℕ → ℕ → ℕ → Type 0
FoundIn row texts p m k c =
    ((i : ℕ) × (m ≤ i) × (i < m + k) × (c ≡ get_or row (members_at + i) 0) × (same_constant row texts p (get_or row (members_at + i) 0) ≡ true))
    ⊎ ((c ≡ p) × ((i : ℕ) → m ≤ i → i < m + k → same_constant row texts p (get_or row (members_at + i) 0) ≡ false))

pub member_found : (row texts : List ℕ) (p k m : ℕ) → FoundIn row texts p m k (member_from row texts p m k)
member_found row texts p zero m = inr (refl, λ i a b. absurd (omega arith))
member_found row texts p (suc k) m = go (same_constant row texts p (get_or row (members_at + m) 0)) refl (member_found row texts p k (suc m))
  where
    go : (b : Bool) → same_constant row texts p (get_or row (members_at + m) 0) ≡ b → FoundIn row texts p (suc m) k (member_from row texts p (suc m) k)
        → FoundIn row texts p m (suc k) (cond b (get_or row (members_at + m) 0) (member_from row texts p (suc m) k))
    go true e rec = inl (m, omega arith, omega arith, refl, e)
    go false e (inl x) = inl (x.0, omega (arith, x.1), omega (arith, x.2), x.3, x.4)
    go false e (inr x) = inr (x.0, λ i a b. at i a b (ℕ_discrete i m))
      where
        at : (i : ℕ) → m ≤ i → i < m + suc k → Dec (i ≡ m) → same_constant row texts p (get_or row (members_at + i) 0) ≡ false
        at i a b (yes q) = ap (λ (j : ℕ). same_constant row texts p (get_or row (members_at + j) 0)) q ∙ e
        at i a b (no d) = x.1 i (omega (arith, d)) (omega arith)
