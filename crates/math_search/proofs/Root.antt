-- The root has the invariant, and at most two list variables.
use mathlib.Core.Path.{◌≡◌, refl, ap}
use mathlib.Core.List.Memᴰ
use mathlib.Core.List.{List, [], ◌∷◌, ◌++◌, Memᴰ}
use Prim.Native.Nat.{suc, ◌+◌, ◌≤◌}
use native.Mathlib.Omega.{arith}
use lib.ListN.{length, length-append}
use Rattle.base_lists.specs.Seqs.{All, all_map}
use Rattle.math_overlaps.specs.Shapes.{fixed, free}
use Rattle.math_search.specs.Problems.{Setting, atomic, listvar, Tm, Field, rest, used, names_in, root}
use Rattle.math_search.specs.Queue.{terms_in}
use Rattle.math_search.specs.Answers.{listvars, Linear, Fits}
use Rattle.math_search.proofs.Seqs.{all_from}
use Rattle.math_search.proofs.Effects.{terms_left}
use Rattle.math_search.proofs.Invariant.{Known, Unbound, Invariant, old_atom, old_mem}

module _ (E : Setting) where
  open E use {order, variables, names}
  open order use {le_refl}
  open variables use {sort}
  open names use {Name}

  named : (L : Field E) (u : List Name) → All (λ n. Memᴰ n u) (names_in E L) → All (Known E u) L
  named [] u h = tt
  named (atomic a ∷ L) u h = (old_atom E u a, named L u h)
  named (listvar n ∷ L) u h = (old_mem E u n h.0, named L u h.1)

  pub old_left : (L M : Field E) → All (Known E (names_in E L ++ names_in E M)) L
  old_left L M =
      named L (names_in E L ++ names_in E M) (all_from (λ n. Memᴰ n (names_in E L ++ names_in E M)) (names_in E L) (λ n i. Memᴰ.append_left (names_in E M) i))

  pub old_right : (L M : Field E) → All (Known E (names_in E L ++ names_in E M)) M
  old_right L M =
      named M (names_in E L ++ names_in E M) (all_from (λ n. Memᴰ n (names_in E L ++ names_in E M)) (names_in E M) (λ n i. Memᴰ.append_right (names_in E L) i))

  self_fits : (t : Tm E) → Fits E t (t ∷ [])
  self_fits (atomic (fixed c)) = refl
  self_fits (atomic (free x)) = (free x, refl, le_refl (sort x))
  self_fits (listvar n) = tt

  pub root_inv : (L M : Field E) → Linear E L M → Invariant E (root E L M)
  root_inv L M l = record {
    lin = l;
    ok = (
      all_map (Known E (names_in E L ++ names_in E M)) (Unbound E (λ t. t ∷ []) (names_in E L ++ names_in E M)) (λ t o. (refl, o)) L (old_left L M),
      all_map (Known E (names_in E L ++ names_in E M)) (Unbound E (λ t. t ∷ []) (names_in E L ++ names_in E M)) (λ t o. (refl, o)) M (old_right L M),
    );
    vals = λ t o. ((refl, o), tt);
    alone = λ n h. refl;
    kinds = self_fits;
  }

  -- the names at the root are at most two
  pub names_listvars : (L : Field E) → length (names_in E L) ≡ listvars E L
  names_listvars [] = refl
  names_listvars (atomic a ∷ L) = names_listvars L
  names_listvars (listvar n ∷ L) = ap suc (names_listvars L)

  pub root_room : (L M : Field E) → Linear E L M → length (used E (root E L M)) + terms_left E (rest E (root E L M)) ≤ 2 + terms_in E L M
  root_room L M l = omega (arith, length-append (names_in E L) (names_in E M), names_listvars L, names_listvars M, l.left, l.right)
