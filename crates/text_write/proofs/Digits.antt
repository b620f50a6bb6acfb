-- Laws of a number's digits: how many there are, and how they are put. Assumes nothing.
use mathlib.Core.Path.{◌≡◌, refl}
use mathlib.Core.List.{List, [], ◌∷◌}
use Prim.Native.Nat.{ℕ, ◌+◌, ◌/◌, ◌%◌, ◌≤◌, ◌<◌}
use native.Mathlib.Omega.{arith}
use lib.ListN.{length, set}
use lib.Seq.{sets}
use Rattle.base_lists.specs.Seqs.{cons_is}
use Rattle.text_write.specs.Sizes.{longest_number}
use Rattle.text_grammar.specs.Numbers.{digits_of}
use Rattle.text_grammar.proofs.Numbers.{digits_number, number_digits, digits_small, digits_more, digits_most}
use Rattle.text_write.specs.Room.{Put}
use Rattle.text_write.proofs.Stores.{put_behind, put_as}

-- ---- lengths

pub digits_some : (n : ℕ) → 1 ≤ length (digits_of n)
digits_some n = (cons_is (digits_of n)).1 (number_digits (digits_of n) (digits_number n)).0

-- of 32 bits, and of 64
pub digits_32 : (n : ℕ) → n < 4294967296 → length (digits_of n) ≤ 10
digits_32 n h = digits_most 9 n (omega arith)

pub digits_64 : (n : ℕ) → n < 18446744073709551616 → length (digits_of n) ≤ longest_number
digits_64 n h = digits_most 19 n (omega arith)

-- ---- writing them

module _ (n : ℕ) (l : List ℕ) (at : ℕ) where
  pub put_small : n < 10 → Put (digits_of n) at l (at + 1) (set l at (48 + n))
  put_small h = put_as l at (digits_small n h) (refl, refl)

  pub put_more : 10 ≤ n → {p : ℕ} {m : List ℕ} → p ≡ at + length (digits_of (n / 10)) → m ≡ sets l at (digits_of (n / 10))
      → Put (digits_of n) at l (p + 1) (set m p (48 + n % 10))
  put_more h hp hm = put_as l at (digits_more n h) (put_behind (digits_of (n / 10)) ((48 + n % 10) ∷ []) l at hp hm refl refl)
