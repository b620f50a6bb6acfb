-- All slips that fit one solution pick the same choice.
use mathlib.Core.Path.{◌≡◌, refl, sym, ◌∙◌, ap, ap₂, subst as along}
use mathlib.Core.Logic.{if_neg}
use mathlib.Core.List.{List, [], ◌∷◌, ◌++◌, map, append_assoc, head-eq_of_cons-eq, tail-eq_of_cons-eq}
use Prim.Native.Nat.{suc, ◌+◌, ◌≤◌, ◌<◌, max}
use native.Mathlib.Omega.{arith}
use native.Mathlib.Decide.{dec_lt, ℕ_discrete}
use lib.ListN.{length, length-append, length-map}
use Rattle.base_lists.specs.Seqs.{All}
use Rattle.math_types.specs.Order.{Full, basic, list}
use Rattle.math_terms.specs.Terms.{Term, con, var}
use Rattle.math_terms.specs.Fillings.{Filling, fill}
use Rattle.math_terms.specs.Linear.{lists}
use Rattle.math_terms.specs.Matcher.{atoms}
use Rattle.math_overlaps.specs.Shapes.{Shape, closed, gapped}
use Rattle.math_overlaps.specs.Candidates.{Cand, exact, long, wide}
use Rattle.math_overlaps.proofs.Candidates.{pick}
use Rattle.math_overlaps.proofs.Walks.{picks}
use Rattle.math_overlaps.proofs.Named.{fill_shape}

module _ {C K B : Type 0} where
  abbrev pub IsAtom : Term C (Full K) B → Type 0
  IsAtom (con c) = Unit {0}
  IsAtom (var (basic k) b) = Unit {0}
  IsAtom (var list b) = ⊥

  -- an atom variable has one item
  abbrev pub OneItem : Filling C (Full K) B → Type 0
  OneItem φ = (k : K) (b : B) → length (φ (basic k) b) ≡ 1

  size_le : (φ : Filling C (Full K) B) → OneItem φ → (f : List (Term C (Full K) B)) → atoms f ≤ length (fill φ f)
  size_le φ h [] = omega arith
  size_le φ h (con c ∷ f) = let i = size_le φ h f in omega arith
  size_le φ h (var (basic k) b ∷ f) = let i = size_le φ h f in simp length-append (omega (arith, h k b))
  size_le φ h (var list b ∷ f) = let i = size_le φ h f in simp length-append (omega arith)

  size_eq : (φ : Filling C (Full K) B) → OneItem φ → (f : List (Term C (Full K) B)) → length (lists f) ≡ 0 → length (fill φ f) ≡ atoms f
  size_eq φ h [] e = refl
  size_eq φ h (con c ∷ f) e = ap suc (size_eq φ h f e)
  size_eq φ h (var (basic k) b ∷ f) e = let i = size_eq φ h f e in simp length-append (omega (arith, h k b))
  size_eq φ h (var list b ∷ f) e = absurd (omega arith)

  size_append : (f g : List (Term C (Full K) B)) → atoms (f ++ g) ≡ atoms f + atoms g
  size_append [] g = omega arith
  size_append (con c ∷ f) g = let h = size_append f g in omega arith
  size_append (var (basic k) b ∷ f) g = let h = size_append f g in omega arith
  size_append (var list b ∷ f) g = let h = size_append f g in omega arith

  size_atoms : (q : List (Term C (Full K) B)) → All IsAtom q → atoms q ≡ length q
  size_atoms [] h = refl
  size_atoms (con c ∷ q) h = ap suc (size_atoms q h.1)
  size_atoms (var (basic k) b ∷ q) h = ap suc (size_atoms q h.1)
  size_atoms (var list b ∷ q) h = absurd h.0

  lists_atoms : (q : List (Term C (Full K) B)) → All IsAtom q → length (lists q) ≡ 0
  lists_atoms [] h = refl
  lists_atoms (con c ∷ q) h = lists_atoms q h.1
  lists_atoms (var (basic k) b ∷ q) h = lists_atoms q h.1
  lists_atoms (var list b ∷ q) h = absurd h.0

  -- a field that begins with the atoms p, ends in the atoms q and has a list variable has at least as many atoms as p and q together
  both_ends : (p x y q : List (Term C (Full K) B)) → All IsAtom p → All IsAtom q
      → p ++ x ≡ y ++ q → 0 < length (lists (y ++ q)) → length p + length q ≤ atoms (y ++ q)
  both_ends [] x y q hp hq e h = omega (arith, size_append y q, size_atoms q hq)
  both_ends (a ∷ p) x [] q hp hq e h = absurd (omega (arith, lists_atoms q hq))
  both_ends (a ∷ p) x (con c ∷ y) q hp hq e h = let r = both_ends p x y q hp.1 hq (tail-eq_of_cons-eq e) h in omega arith
  both_ends (a ∷ p) x (var (basic k) b ∷ y) q hp hq e h = let r = both_ends p x y q hp.1 hq (tail-eq_of_cons-eq e) h in omega arith
  both_ends (a ∷ p) x (var list b ∷ y) q hp hq e h = absurd (along IsAtom (head-eq_of_cons-eq e) hp.0)

  both_ends_of : (F p x y q : List (Term C (Full K) B)) → All IsAtom p → All IsAtom q
      → F ≡ p ++ x → F ≡ y ++ q → 0 < length (lists F) → length p + length q ≤ atoms F
  both_ends_of F p x y q hp hq e e' h = rw e' (both_ends p x y q hp hq (sym e ∙ e') (rw e' at h))

-- THE KEY LEMMA: F is what the solution makes of both fields; any two runs that fit F pick the same candidate
module _ {C K A B : Type 0} (v : A → Term C (Full K) B) (atomic : (a : A) → IsAtom (v a)) where
  all_atoms_lem : (xs : List A) → All IsAtom (map v xs)
  all_atoms_lem [] = tt
  all_atoms_lem (a ∷ xs) = (atomic a, all_atoms_lem xs)

  module _ {L R : Type 0} (δ : L → List (Term C (Full K) B)) (ε : R → List (Term C (Full K) B)) where
    front_to_end : (F : List (Term C (Full K) B)) (f : List A) (l : L) (t p : List A) (m : R) (q : List A)
        → F ≡ fill_shape v δ (gapped f l t) → F ≡ fill_shape v ε (gapped p m q) → 0 < length (lists F) → length f + length q ≤ atoms F
    front_to_end F f l t p m q e e' h =
        simp length-map at (both_ends_of F (map v f) (δ l ++ map v t) (map v p ++ ε m) (map v q) (all_atoms_lem f) (all_atoms_lem q) e
        (e' ∙ sym (append_assoc (map v p) (ε m) (map v q))) h)

module _ {C K A B : Type 0} (v : A → Term C (Full K) B) (atomic : (a : A) → IsAtom (v a))
    {L R : Type 0} (δ : L → List (Term C (Full K) B)) (ε : R → List (Term C (Full K) B)) where
  is_wide : (F : List (Term C (Full K) B)) (f : List A) (l : L) (t p : List A) (m : R) (q : List A)
      → F ≡ fill_shape v δ (gapped f l t) → F ≡ fill_shape v ε (gapped p m q)
      → 0 < length (lists F) → max (length f) (length p) + max (length t) (length q) ≤ atoms F
  is_wide F f l t p m q e e' h =
      omega (
        arith,
        front_to_end v atomic δ δ F f l t f l t e e h,
        front_to_end v atomic δ ε F f l t p m q e e' h,
        front_to_end v atomic ε δ F p m q f l t e' e h,
        front_to_end v atomic ε ε F p m q p m q e' e' h,
      )

  module _ (φ ψ : Filling C (Full K) B) (one : OneItem φ) (two : OneItem ψ) where
    same_pick : (S : Shape A L) (T : Shape A R) (F : List (Term C (Full K) B)) → F ≡ fill_shape v δ S
        → F ≡ fill_shape v ε T → pick S T (length (fill φ F)) ≡ pick S T (length (fill ψ F))
    same_pick S T F e₁ e₂ = go (ℕ_discrete (length (lists F)) 0)
      where
        pure : (xs : List A) → F ≡ map v xs → length (lists F) ≡ 0
        pure xs e = rw e (lists_atoms (map v xs) (all_atoms_lem v atomic xs))

        broad : (S : Shape A L) (T : Shape A R) → F ≡ fill_shape v δ S → F ≡ fill_shape v ε T
            → 0 < length (lists F) → pick S T (length (fill φ F)) ≡ pick S T (length (fill ψ F))
        broad (closed xs) T e e' h = absurd (omega (arith, pure xs e))
        broad (gapped f l t) (closed xs) e e' h = absurd (omega (arith, pure xs e'))
        broad (gapped f l t) (gapped p m q) e e' h =
            let w = is_wide F f l t p m q e e' h in
            if_neg (dec_lt (length (fill φ F)) (wide (gapped f l t) (gapped p m q))) (omega (arith, size_le φ one F)) (exact (length (fill φ F))) long
            ∙ sym (if_neg (dec_lt (length (fill ψ F)) (wide (gapped f l t) (gapped p m q))) (omega (arith, size_le ψ two F)) (exact (length (fill ψ F))) long)

        go : Dec (length (lists F) ≡ 0) → pick S T (length (fill φ F)) ≡ pick S T (length (fill ψ F))
        go (yes e) = ap (pick S T) (size_eq φ one F e ∙ sym (size_eq ψ two F e))
        go (no n) = broad S T e₁ e₂ (omega arith)

    -- the same for all fields
    pub same_picks : (Ss : List (Shape A L)) (Ts : List (Shape A R)) (fs : List (List (Term C (Full K) B)))
        → fs ≡ map (fill_shape v δ) Ss → fs ≡ map (fill_shape v ε) Ts
        → picks Ss Ts (map (fill φ) fs) ≡ picks Ss Ts (map (fill ψ) fs)
    same_picks [] Ts fs e e' = refl
    same_picks (S ∷ Ss) [] fs e e' = refl
    same_picks (S ∷ Ss) (T ∷ Ts) [] e e' = refl
    same_picks (S ∷ Ss) (T ∷ Ts) (F ∷ fs) e e' =
        ap₂ (λ (x : Cand) (y : List Cand). x ∷ y) (same_pick S T F (head-eq_of_cons-eq e) (head-eq_of_cons-eq e'))
        (same_picks Ss Ts fs (tail-eq_of_cons-eq e) (tail-eq_of_cons-eq e'))
