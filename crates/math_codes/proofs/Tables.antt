-- The laws of codes: an atom's code holds it, comes first, and is that of no other atom.
use mathlib.Core.Path.{◌≡◌, refl, sym, ap, ◌∙◌}
use mathlib.Core.Logic.{ite}
use mathlib.Core.Option.{Option, none, some, none-ne-some, some-injective}
use mathlib.Core.List.{List, [], ◌∷◌}
use Prim.Native.Nat.{ℕ, zero, suc, ◌≤◌, ◌<◌}
use native.Mathlib.Omega.{arith}
use native.Mathlib.Decide.{ℕ_discrete}
use lib.ListN.{length, get_or}
use Rattle.base_lists.specs.Seqs.{tabulate_long, tabulate_at}
use Rattle.math_types.specs.Order.{Order}
use Rattle.math_terms.specs.Constants.{Consts}
use Rattle.math_overlaps.specs.Shapes.{Vars}
use Rattle.math_overlaps.specs.Joins.{At}
use Rattle.math_codes.specs.Tables.{Holds, code_of, IsCode, code_at, Ranks, same, rank_at, free_at, table_of, Made}

-- ---- places

module _ {A : Type 0} where
  -- a place that holds an atom is one of the table's
  pub holds_below : (t : List (Option A)) (p : ℕ) (a : A) → Holds t p a → p < length t
  holds_below [] p a h = absurd (none-ne-some a h)
  holds_below (o ∷ t) zero a h = omega arith
  holds_below (o ∷ t) (suc p) a h = let r = holds_below t p a h in omega arith

  -- a place holds one atom
  pub holds_once : (t : List (Option A)) (p : ℕ) (a b : A) → Holds t p a → Holds t p b → a ≡ b
  holds_once t p a b h k = some-injective a b (sym h ∙ k)

-- ---- codes

module _ {A : Type 0} (d : Discrete A) where
  -- an atom's code holds it
  pub code_holds : (t : List (Option A)) (p : ℕ) (a : A) → Holds t p a → Holds t (code_of d t a) a
  code_holds [] p a h = absurd (none-ne-some a h)
  code_holds (none ∷ t) zero a h = absurd (none-ne-some a h)
  code_holds (none ∷ t) (suc p) a h = code_holds t p a h
  code_holds (some b ∷ t) p a h = go (d a b) p h (λ q. code_holds t q a)
    where
      go : (e : Dec (a ≡ b)) (p : ℕ) → Holds (some b ∷ t) p a → ((q : ℕ) → Holds t q a → Holds t (code_of d t a) a)
          → Holds (some b ∷ t) (ite e 0 (suc (code_of d t a))) a
      go (yes e) p h rec = ap some (sym e)
      go (no n) zero h rec = absurd (n (sym (some-injective b a h)))
      go (no n) (suc p) h rec = rec p h

  -- and no place before it does
  pub code_first : (t : List (Option A)) (p : ℕ) (a : A) → Holds t p a → code_of d t a ≤ p
  code_first [] p a h = absurd (none-ne-some a h)
  code_first (none ∷ t) zero a h = absurd (none-ne-some a h)
  code_first (none ∷ t) (suc p) a h = let r = code_first t p a h in omega arith
  code_first (some b ∷ t) p a h = go (d a b) p h (λ q. code_first t q a)
    where
      go : (e : Dec (a ≡ b)) (p : ℕ) → Holds (some b ∷ t) p a → ((q : ℕ) → Holds t q a → code_of d t a ≤ q) → ite e 0 (suc (code_of d t a)) ≤ p
      go (yes e) p h rec = omega arith
      go (no n) zero h rec = absurd (n (sym (some-injective b a h)))
      go (no n) (suc p) h rec = let r = rec p h in omega arith

  -- so a search from the front finds it
  pub code_found : (t : List (Option A)) (c : ℕ) (a : A) → Holds t c a → ((q : ℕ) → q < c → Holds t q a → ⊥) → code_of d t a ≡ c
  code_found t c a h n = go (ℕ_discrete (code_of d t a) c)
    where
      go : Dec (code_of d t a ≡ c) → code_of d t a ≡ c
      go (yes e) = e
      go (no m) = let l = code_first t c a h in absurd (n (code_of d t a) (omega arith) (code_holds t c a h))

  -- THE CODES: equal exactly when the atoms are equal
  pub code_once : (t : List (Option A)) (p q : ℕ) (a b : A) → Holds t p a → Holds t q b → code_of d t a ≡ code_of d t b → a ≡ b
  code_once t p q a b h k e = holds_once t (code_of d t b) a b (rw e at (code_holds t p a h)) (code_holds t q b k)

  -- the code of a place's atom is a code, and the code of a code is itself
  pub is_code : (t : List (Option A)) (p : ℕ) (a : A) → Holds t p a → IsCode d t (code_of d t a) a
  is_code t p a h = (code_holds t p a h, refl)

  pub code_again : (t : List (Option A)) (p : ℕ) (a b : A) → Holds t p a → Holds t (code_of d t a) b → code_of d t b ≡ code_of d t a
  code_again t p a b h k = ap (code_of d t) (holds_once t (code_of d t a) b a k (code_holds t p a h))

  -- a code stands for one atom, and an atom has one code
  pub view_once : (t : List (Option A)) (c : ℕ) (a b : A) → IsCode d t c a → IsCode d t c b → a ≡ b
  view_once t c a b h k = holds_once t c a b h.0 k.0

  pub same_code : (t : List (Option A)) (x y : ℕ) (a b : A) → IsCode d t x a → IsCode d t y b → a ≡ b → x ≡ y
  same_code t x y a b h k e = sym h.1 ∙ ap (code_of d t) e ∙ k.1

  pub same_atom : (t : List (Option A)) (x y : ℕ) (a b : A) → IsCode d t x a → IsCode d t y b → x ≡ y → a ≡ b
  same_atom t x y a b h k e = holds_once t y a b (rw e at h.0) k.0

-- ---- the tables that are kept

module _ (O : Order) (C : Consts O) (N : Vars O) (R : Ranks O) where
  pub made : (t : List (Option (At O C N))) → Made O C N R (table_of O C N R t) t
  made t =
      record {
        long = tabulate_long (length t) (λ p. code_at (same O C N) t (get_or t p none) p);
        firsts = λ p a h. tabulate_at (length t) (λ p. code_at (same O C N) t (get_or t p none) p) p 0 (holds_below t p a h)
            ∙ ap (λ o. code_at (same O C N) t o p) h;
        kinds = λ p a h. ap (rank_at O C N R) h;
        variables = λ p a h. ap (free_at O C N R) h;
      }
