-- Letters of types: one table in the order of `kinds`, what it says of every type by computed tests, and the type of a byte.
--     letter        a type's letter
--     letter_in      the type among some that a byte is the letter of, or that it is none's
use Rattle.std.specs.Prelude.{◌≡◌, ◌⊎◌, ◌≢◌, Bool, not, List, [], ◌∷◌, ℕ, ◌≤◌, T, eqb, leb, length, get_or}
use Rattle.std.proofs.Common.{inl, inr, leb→le, T_not, eqb→eq}
use Rattle.std.proofs.Math.Decide.{ℕ_discrete}
use Rattle.std.proofs.Math.Dec.{eqb_refl}
use Rattle.base_lists.specs.Seqs.{All}
use Rattle.base_lists.specs.Tables.{both, both_left, both_right, all_below, all_below_lem}
use Rattle.math_types.specs.Lawful.{implies, implied}
use Rattle.math_types.specs.Types.{Kind, kinds, rank, rank_kinds, rank_once}

-- document 01: "a letter for its type (`i` integer, `s` string, `a` atom, `l` list)"
abbrev pub letters : List ℕ
letters = 105 ∷ 115 ∷ 97 ∷ 108 ∷ []

-- the letter of a type's rank
abbrev pub letter_at : ℕ → ℕ
letter_at r = get_or letters r 0

abbrev pub letter : Kind → ℕ
letter k = letter_at (rank k)

-- ---- what is said of every letter, by tests over the ranks

-- `a` to `z`, and not the first of `empty`
abbrev is_letter : ℕ → Bool
is_letter b = both (both (leb 97 b) (leb b 122)) (not (eqb b 101))

all_letters : T (all_below (λ r. is_letter (letter_at r)) (length kinds))
all_letters = tt

is_letter_lem : (k : Kind) → T (is_letter (letter k))
is_letter_lem k = all_below_lem (λ r. is_letter (letter_at r)) (length kinds) all_letters (rank k) (rank_kinds k)

pub letter_lower : (k : Kind) → (97 ≤ letter k) × (letter k ≤ 122)
letter_lower k =
    let b = letter k in
    let t = both_left (both (leb 97 b) (leb b 122)) (not (eqb b 101)) (is_letter_lem k) in
    (leb→le 97 b (both_left (leb 97 b) (leb b 122) t), leb→le b 122 (both_right (leb 97 b) (leb b 122) t))

pub letter_e : (k : Kind) → letter k ≢ 101
letter_e k e =
    let b = letter k in
    T_not (eqb b 101) (both_right (both (leb 97 b) (leb b 122)) (not (eqb b 101)) (is_letter_lem k)) (rw e (eqb_refl 101))

-- no two types share a letter
all_other : T (all_below (λ x. all_below (λ y. implies (eqb (letter_at x) (letter_at y)) (eqb x y)) (length kinds)) (length kinds))
all_other = tt

pub letter_once : (j k : Kind) → letter j ≡ letter k → j ≡ k
letter_once j k e =
    rank_once j k (eqb→eq (rank j) (rank k) (implied (eqb (letter j) (letter k)) (eqb (rank j) (rank k)) at (rw e (eqb_refl (letter k)))))
  where
    at : T (implies (eqb (letter j) (letter k)) (eqb (rank j) (rank k)))
    at =
        all_below_lem (λ y. implies (eqb (letter j) (letter_at y)) (eqb (rank j) y)) (length kinds)
        (all_below_lem (λ x. all_below (λ y. implies (eqb (letter_at x) (letter_at y)) (eqb x y)) (length kinds)) (length kinds) all_other
        (rank j) (rank_kinds j)) (rank k) (rank_kinds k)

-- ---- the type of a byte

module _ (b : ℕ) where
  abbrev pub LetterIn : List Kind → Type 0
  LetterIn s = ((k : Kind) × (b ≡ letter k)) ⊎ All (λ k. b ≢ letter k) s

  abbrev pub letter_or : (k : Kind) (s : List Kind) → Dec (b ≡ letter k) → LetterIn s → LetterIn (k ∷ s)
  letter_or k s (yes e) r = inl (k, e)
  letter_or k s (no n) (inl h) = inl h
  letter_or k s (no n) (inr h) = inr (n, h)

  abbrev pub letter_in : (s : List Kind) → LetterIn s
  letter_in [] = inr tt
  letter_in (k ∷ s) = letter_or k s (ℕ_discrete b (letter k)) (letter_in s)
