-- The rules that bind nothing: Remove, Decomp3, Orient1 to Orient4.
use mathlib.Core.Path.{◌≡◌, refl, sym, ◌∙◌, ap, ap₂, subst}
use mathlib.Core.Logic.{ite}
use mathlib.Core.Bool.{Bool, true, false, cond, ◌&&◌, not}
use mathlib.Core.Option.{none, some}
use mathlib.Core.List.{List, [], ◌∷◌, ◌++◌, append_cancel_left}
use native.Mathlib.Omega.{arith}
use Rattle.math_terms.specs.Seqs.{concat_map}
use Rattle.math_overlaps.specs.Shapes.{fixed, free}
use Rattle.math_search.specs.Problems.{Setting, atomic, listvar, Tm, Field, tm_eq, field_eq, solved, equation}
use Rattle.math_search.specs.Rules.{keep, remove, decomp3, orient1, orient2, orient3, orient4}
use Rattle.math_search.specs.Termination.{second, third, fourth}
use Rattle.math_search.specs.Answers.{Linear}
use Rattle.math_search.proofs.Effects.{Falls, Keep, Does, type_le, long_le, fewer}
use Rattle.math_search.proofs.Counts.{count_cons, lists_cons}

module _ (E : Setting) where
  open E use {order, variables, names}
  open order use {Kind, kind_eq, le, le_refl}
  open variables use {sort}
  open names use {Name}

  pub remove_does : (L M : Field E) (f : Name) → Does E L M f (remove E L M)
  remove_does L M f = go (field_eq E L M)
    where
      go : (d : Dec (L ≡ M)) → Does E L M f (ite d (some (keep solved)) none)
      go (yes e) = record {
        eqv = λ θ. (λ _. tt, λ _. ap (λ (K : Field E). concat_map θ K) e);
        from = λ P h k. tt;
        lin = λ l. tt;
        falls = (omega arith, tt);
        room = omega arith;
      }
      go (no n) = tt

  pub decomp3_does : (L M : Field E) (f : Name) → Does E L M f (decomp3 E L M)
  decomp3_does [] M f = tt
  decomp3_does (s ∷ L) [] f = tt
  decomp3_does (s ∷ L) (t ∷ M) f = go (tm_eq E s t)
    where
      go : (d : Dec (s ≡ t)) → Does E (s ∷ L) (t ∷ M) f (ite d (some (keep (equation L M))) none)
      go (yes e) = record {
        eqv = λ {B} θ. (
          λ h. append_cancel_left (θ s) (concat_map θ L) (concat_map θ M) (h ∙ ap (λ (u : Tm E). θ u ++ concat_map θ M) (sym e)),
          λ h. ap₂ (λ (u : Tm E) (k : List B). θ u ++ k) e h,
        );
        from = λ P h k. (h.1, k.1);
        lin = λ l. record {
          left = omega (arith, l.left, lists_cons E s L);
          right = omega (arith, l.right, lists_cons E t M);
          once = λ n. omega (arith, l.once n, count_cons E n s L, count_cons E n t M);
        };
        falls = fewer E (s ∷ L) (t ∷ M) L M (omega arith);
        room = omega arith;
      }
      go (no n) = tt

  -- the two sides change places
  pub lin_swap : (L M : Field E) → Linear E L M → Linear E M L
  lin_swap L M l = record { left = l.right; right = l.left; once = λ n. omega (arith, l.once n) }

  swap : (L M : Field E) → Falls E (equation M L) L M → Keep E L M (equation M L)
  swap L M h = record { eqv = λ θ. (λ e. sym e, λ e. sym e); from = λ P h k. (k, h); lin = lin_swap L M; falls = h; room = omega arith }

  pub orient1_does : (L M : Field E) (f : Name) → Does E L M f (orient1 E L M)
  orient1_does [] M f = tt
  orient1_does (atomic (fixed c) ∷ L) [] f = tt
  orient1_does (atomic (fixed c) ∷ L) (atomic (fixed d) ∷ M) f = tt
  orient1_does (atomic (fixed c) ∷ L) (atomic (free y) ∷ M) f =
      swap (atomic (fixed c) ∷ L) (atomic (free y) ∷ M)
      (omega (arith, type_le E (atomic (free y) ∷ M) (atomic (fixed c) ∷ L), long_le E (atomic (free y) ∷ M)), second (omega arith) (omega arith))
  orient1_does (atomic (fixed c) ∷ L) (listvar y ∷ M) f =
      swap (atomic (fixed c) ∷ L) (listvar y ∷ M)
      (omega (arith, type_le E (listvar y ∷ M) (atomic (fixed c) ∷ L), long_le E (listvar y ∷ M)), second (omega arith) (omega arith))
  orient1_does (atomic (free x) ∷ L) M f = tt
  orient1_does (listvar x ∷ L) M f = tt

  pub orient2_does : (L M : Field E) (f : Name) → Does E L M f (orient2 E L M)
  orient2_does [] M f = tt
  orient2_does (t ∷ []) M f = tt
  orient2_does (t ∷ (u ∷ L)) [] f = tt
  orient2_does (atomic (fixed c) ∷ (u ∷ L)) (s ∷ []) f = tt
  orient2_does (atomic (free x) ∷ (u ∷ L)) (atomic (fixed d) ∷ []) f = tt
  orient2_does (atomic (free x) ∷ (u ∷ L)) (atomic (free y) ∷ []) f = go (kind_eq (sort x) (sort y))
    where
      go : (d : Dec (sort x ≡ sort y))
          → Does E (atomic (free x) ∷ (u ∷ L)) (atomic (free y) ∷ []) f (ite d (some (keep (equation (atomic (free y) ∷ []) (atomic (free x) ∷ (u ∷ L))))) none)
      go (yes e) =
          let h : le (sort x) (sort y) ≡ true = subst (λ (k : Kind). le (sort x) k ≡ true) e (le_refl (sort x)) in
          let k : le (sort y) (sort x) ≡ true = subst (λ (k : Kind). le k (sort x) ≡ true) e (le_refl (sort x)) in
          swap (atomic (free x) ∷ (u ∷ L)) (atomic (free y) ∷ []) (rw (h, k) (omega arith, fourth (omega arith) refl refl (omega arith)))
      go (no n) = tt
  orient2_does (atomic (free x) ∷ (u ∷ L)) (listvar y ∷ []) f = tt
  orient2_does (listvar x ∷ (u ∷ L)) (atomic b ∷ []) f = tt
  orient2_does (listvar x ∷ (u ∷ L)) (listvar y ∷ []) f =
      swap (listvar x ∷ (u ∷ L)) (listvar y ∷ []) (omega arith, fourth (omega arith) refl refl (omega arith))
  orient2_does (t ∷ (u ∷ L)) (s ∷ (v ∷ M)) f = tt

  pub orient3_does : (L M : Field E) (f : Name) → Does E L M f (orient3 E L M)
  orient3_does [] M f = tt
  orient3_does (atomic (fixed c) ∷ L) M f = tt
  orient3_does (atomic (free x) ∷ L) [] f = tt
  orient3_does (atomic (free x) ∷ L) (atomic (fixed d) ∷ M) f = tt
  orient3_does (atomic (free x) ∷ L) (atomic (free y) ∷ M) f = go (le (sort x) (sort y)) (le (sort y) (sort x)) refl refl
    where
      go : (p q : Bool) → le (sort x) (sort y) ≡ p → le (sort y) (sort x) ≡ q
          → Does E (atomic (free x) ∷ L) (atomic (free y) ∷ M) f (cond (p && not q) (some (keep (equation (atomic (free y) ∷ M) (atomic (free x) ∷ L)))) none)
      go true false h k =
          swap (atomic (free x) ∷ L) (atomic (free y) ∷ M) (rw (h, k) (omega (arith, long_le E (atomic (free y) ∷ M)), third (omega arith) refl (omega arith)))
      go true true h k = tt
      go false q h k = tt
  orient3_does (atomic (free x) ∷ L) (listvar y ∷ M) f =
      swap (atomic (free x) ∷ L) (listvar y ∷ M) (omega (arith, long_le E (listvar y ∷ M)), third (omega arith) refl (omega arith))
  orient3_does (listvar x ∷ L) M f = tt

  pub orient4_does : (L M : Field E) (f : Name) → Does E L M f (orient4 E L M)
  orient4_does [] [] f = tt
  orient4_does [] (atomic a ∷ M) f = tt
  orient4_does [] (listvar y ∷ M) f = swap [] (listvar y ∷ M) (omega (arith, long_le E (listvar y ∷ M)), second (omega arith) (omega arith))
  orient4_does (t ∷ L) M f = tt
